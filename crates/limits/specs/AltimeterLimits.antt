-- The limits of the altimeter elements (document 01, "Limits of the altimeter elements"; source document 004, section
-- 4.4). The table has a line for each element 4.4.n whose Element Type is integer, whose Storage Type is signed or
-- unsigned and which states a minimum and a maximum, in the section's order, with the limits as they are written there.
use Rattle.std.specs.Prelude.{ℕ, List, [], ◌∷◌, ℤ, pos, neg_ℤ}
use Rattle.limits.specs.declared.Limit.{Limit}

-- a line: the n of 4.4.n, its minimum and its maximum
abbrev pub element : ℕ → ℤ → ℤ → Limit
element n lo hi = record { number = n; minimum = lo; maximum = hi }

-- the number −n
abbrev pub minus : ℕ → ℤ
minus n = neg_ℤ (pos n)

unfoldable pub altimeter_table : List Limit
altimeter_table =
    element 1 (pos 0) (pos 6_600) ∷  -- AGC_AltSDR_C
    element 2 (pos 0) (pos 6_600) ∷  -- AGC_AltSDR_K
    element 3 (pos 0) (pos 0xFFFF_FFFF_FFFF) ∷  -- AltEng_Raw_Clock_Counts
    element 6 (pos 0) (pos 0xFFFF_FFFF_FFFF) ∷  -- AltSci_Raw_Clock_Counts
    element 8 (minus 32_768) (pos 32_767) ∷  -- Alt_ENG_01
    element 9 (minus 32_768) (pos 32_767) ∷  -- Alt_ENG_02
    element 10 (minus 32_768) (pos 32_767) ∷  -- Alt_ENG_03
    element 11 (minus 2_721) (pos 10_200) ∷  -- Alt_ENG_04
    element 12 (minus 2_000) (pos 9_999) ∷  -- Alt_ENG_05
    element 13 (minus 2_000) (pos 9_999) ∷  -- Alt_ENG_06
    element 14 (minus 2_000) (pos 9_999) ∷  -- Alt_ENG_07
    element 15 (minus 2_000) (pos 9_999) ∷  -- Alt_ENG_08
    element 16 (minus 2_000) (pos 9_999) ∷  -- Alt_ENG_09
    element 17 (minus 2_721) (pos 10_200) ∷  -- Alt_ENG_10
    element 18 (minus 2_000) (pos 9_999) ∷  -- Alt_ENG_11
    element 19 (minus 2_000) (pos 9_999) ∷  -- Alt_ENG_12
    element 20 (minus 2_000) (pos 9_999) ∷  -- Alt_ENG_13
    element 21 (minus 2_000) (pos 9_999) ∷  -- Alt_ENG_14
    element 22 (minus 2_000) (pos 9_999) ∷  -- Alt_ENG_15
    element 23 (minus 2_000) (pos 9_999) ∷  -- Alt_ENG_16
    element 24 (minus 2_000) (pos 9_999) ∷  -- Alt_ENG_17
    element 25 (minus 2_000) (pos 9_999) ∷  -- Alt_ENG_18
    element 26 (minus 2_000) (pos 9_999) ∷  -- Alt_ENG_19
    element 27 (minus 2_000) (pos 9_999) ∷  -- Alt_ENG_20
    element 28 (minus 2_000) (pos 9_999) ∷  -- Alt_ENG_21
    element 29 (minus 2_000) (pos 9_999) ∷  -- Alt_ENG_22
    element 30 (minus 2_000) (pos 9_999) ∷  -- Alt_ENG_23
    element 31 (minus 2_000) (pos 9_999) ∷  -- Alt_ENG_24
    element 32 (minus 2_000) (pos 9_999) ∷  -- Alt_ENG_25
    element 33 (minus 2_000) (pos 9_999) ∷  -- Alt_ENG_26
    element 34 (minus 2_000) (pos 9_999) ∷  -- Alt_ENG_27
    element 35 (minus 2_000) (pos 9_999) ∷  -- Alt_ENG_28
    element 36 (minus 2_000) (pos 9_999) ∷  -- Alt_ENG_29
    element 37 (minus 2_000) (pos 9_999) ∷  -- Alt_ENG_30
    element 38 (minus 2_000) (pos 9_999) ∷  -- Alt_ENG_31
    element 39 (pos 10_000) (pos 14_000) ∷  -- Alt_ENG_32
    element 40 (pos 24_000) (pos 32_000) ∷  -- Alt_ENG_33
    element 41 (pos 14_000) (pos 16_000) ∷  -- Alt_ENG_34
    element 42 (minus 16_000) (minus 14_000) ∷  -- Alt_ENG_35
    element 43 (pos 4_750) (pos 5_250) ∷  -- Alt_ENG_36
    element 44 (pos 4_750) (pos 5_250) ∷  -- Alt_ENG_37
    element 45 (minus 5_700) (minus 4_700) ∷  -- Alt_ENG_38
    element 46 (minus 6_500) (minus 5_500) ∷  -- Alt_ENG_39
    element 47 (pos 18_000) (pos 22_000) ∷  -- Alt_ENG_40
    element 48 (pos 0) (pos 9_000) ∷  -- Alt_ENG_41
    element 49 (pos 0) (pos 9_000) ∷  -- Alt_ENG_42
    element 50 (pos 0) (pos 15_000) ∷  -- Alt_ENG_43
    element 51 (pos 0) (pos 9_500) ∷  -- Alt_ENG_44
    element 52 (pos 18_000) (pos 22_000) ∷  -- Alt_ENG_45
    element 53 (minus 3_500) (pos 3_500) ∷  -- Alt_ENG_46
    element 54 (pos 0) (pos 1_200) ∷  -- Alt_ENG_47
    element 55 (pos 0) (pos 8_000) ∷  -- Alt_ENG_48
    element 58 (pos 0) (pos 255) ∷  -- Alt_Eng_Checksum
    element 66 (pos 0x00) (pos 0xFF) ∷  -- Alt_Eng_Spare
    element 78 (pos 0) (pos 128) ∷  -- Bad_CRC_Count_AltEng
    element 79 (pos 0) (pos 17) ∷  -- Bad_CRC_Count_AltSci
    element 80 (pos 0) (pos 128) ∷  -- Bad_MF_Count_AltEng
    element 81 (pos 0) (pos 17) ∷  -- Bad_MF_Count_AltSci
    element 84 (pos 0) (pos 16) ∷  -- Calib_Atten_C
    element 85 (pos 0) (pos 16) ∷  -- Calib_Atten_K
    element 86 (pos 0) (pos 255) ∷  -- Checksum_Hi
    element 87 (pos 0) (pos 255) ∷  -- Checksum_Lo
    element 99 (pos 1_000_000_000) (pos 1_400_000_000) ∷  -- Height_1011
    element 105 (minus 90_000_000) (pos 90_000_000) ∷  -- Latitude_AltSDR
    element 107 (pos 0) (pos 359_999_999) ∷  -- Longitude_AltSDR
    element 109 (pos 0) (pos 65_535) ∷  -- Memory_Dump_Address
    element 113 (minus 5_000) (minus 4_000) ∷  -- Net_Time_Tag_Corr
    element 114 (pos 0) (pos 1_000) ∷  -- Off_Nadir_Angle_SC
    element 120 (pos 0) (pos 255) ∷  -- Pass_Count_Alt
    element 123 (minus 2_000) (pos 2_000) ∷  -- Pitch_STR
    element 136 (pos 1_323_000_000) (pos 1_363_000_000) ∷  -- Range_C
    element 137 (pos 1_323_000_000) (pos 1_363_000_000) ∷  -- Range_K
    element 138 (minus 32_768) (pos 32_767) ∷  -- Range_Rate
    element 141 (minus 2_000) (pos 2_000) ∷  -- Roll_STR
    element 142 (pos 1_323_000_000) (pos 1_363_000_000) ∷  -- Sat_Alt_AltSDR
    element 143 (minus 32_768) (pos 32_767) ∷  -- Sat_Alt_Hi_Rate_AltSDR
    element 152 (pos 0) (pos 32_767) ∷  -- Smoothed_V_Att_C
    element 155 (pos 0) (pos 32_767) ∷  -- Smoothed_V_Att_K
    element 156 (pos 0) (pos 3_599) ∷  -- Solar_Array_Pitch_Angle_STR
    element 157 (minus 128) (pos 127) ∷  -- Solar_Array_Temp_Diff
    element 160 (minus 128) (pos 127) ∷  -- Spare
    element 161 (minus 32_768) (pos 32_767) ∷  -- Spare2
    element 162 (pos 0) (pos 0) ∷  -- Spare_AltEng
    element 165 (pos 0) (pos 255) ∷  -- Sum_Count
    element 168 (pos 0) (pos 99_999_999) ∷  -- Time_Corr_Rate_Coarse
    element 169 (pos 0) (pos 999_999) ∷  -- Time_Corr_Rate_Fine
    element 177 (pos 0) (pos 0xFFFF_FFFF_FFFF) ∷  -- Time_Last_Reset_Raw
    element 180 (pos 500_000) (pos 520_000) ∷  -- Time_Shift_Midframe
    element 183 (pos 0) (pos 255) ∷  -- VSWH_AltSDR_C
    element 184 (pos 0) (pos 255) ∷  -- VSWH_AltSDR_K
    element 187 (pos 0) (pos 255) ∷  -- Waveform_Samps_Hi, each of the 64
    element 188 (pos 0) (pos 255) ∷  -- Waveform_Samps_Lo, each of the 64
    element 189 (pos 0) (pos 15) ∷  -- Waveform_Scale_Hi
    element 190 (pos 0) (pos 15) ∷  -- Waveform_Scale_Lo
    element 191 (minus 18_000) (pos 18_000) ∷  -- Yaw_STR
    []
