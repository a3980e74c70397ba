-- The limits of the short bursts' fields (document 02, item 1: "those stored as integers whose two limits are plain
-- numbers"; source document 000, section 8.2). The table has a line for each field 8.2.n.p whose storage_type is an integer
-- (uint32; the one int32 has no maximum) and whose minimum_value and maximum_value are both decimal whole numbers; a
-- remark in brackets after one does not count. Its number is the field's position p in section 8.1, counted from 1. Fields 4
-- and 5 are floats by appendix B.1.
use Rattle.std.specs.Prelude.{ℕ, List, [], ◌∷◌, pos}
use Rattle.limits.specs.declared.Limit.{Limit}

-- a line: the field's position, its minimum and its maximum
abbrev pub field : ℕ → ℕ → ℕ → Limit
field n lo hi = record { number = n; minimum = pos lo; maximum = pos hi }

unfoldable pub burst_table : List Limit
burst_table =
    field 7 0 255 ∷  -- header_tnc
    field 9 0 65_535 ∷  -- header_tca
    field 10 0 65_535 ∷  -- header_tcb
    field 11 0 65_535 ∷  -- header_tcc
    field 13 0 65_535 ∷  -- vicc
    field 14 0 65_535 ∷  -- vimc
    field 16 0 65_535 ∷  -- tail_id
    field 17 0 65_535 ∷  -- sab_counter
    field 18 0 65_535 ∷  -- sab_len
    field 19 0 255 ∷  -- fswm
    field 20 0 255 ∷  -- fswc
    field 21 0 255 ∷  -- ctbc
    field 22 0 255 ∷  -- rx_window_pri
    field 23 0 2_047 ∷  -- ctps
    field 25 0 64_094 ∷  -- ctps_ctbe
    field 27 0 65_535 ∷  -- slow_tfi
    field 28 0 255 ∷  -- data_take_number
    field 30 0 15 ∷  -- calibration_source
    field 31 0 15 ∷  -- radar_mode
    field 32 0 255 ∷  -- sin
    field 33 0 31 ∷  -- bem
    field 34 0 7 ∷  -- baq_mode
    field 41 0 4_095 ∷  -- at1_each
    field 42 0 4_095 ∷  -- at3_each
    field 43 0 4_095 ∷  -- at4_each
    field 46 1 255 ∷  -- num_rad_meas
    field 47 216 749 ∷  -- num_chirp_steps
    field 51 0 255 ∷  -- fin
    field 53 0 255 ∷  -- num_pulses
    field 54 0 255 ∷  -- bii
    field 59 0 65_535 ∷  -- iebtth
    field 60 0 65_535 ∷  -- iebtll
    field 61 0 65_535 ∷  -- bgcalls
    field 62 1 12 ∷  -- delvmn
    field 63 1 31 ∷  -- delvda
    field 64 1990 2010 ∷  -- delvyr
    field 65 0 4_095 ∷  -- raw_res_load_meas
    field 67 0 4_095 ∷  -- raw_noise_diode_meas
    field 68 0 7 ∷  -- eout
    field 69 0 15 ∷  -- subr
    field 70 0 4_095 ∷  -- space_craft_time
    field 144 0 32_000 ∷  -- raw_active_mode_length
    field 251 0 32_000 ∷  -- altimeter_profile_length
    []
