-- The compression modes (document 02, item 1: "The eight compression modes are told apart by number: 0 to 7 in the order of section 8.2.n.34,
-- with nothing above 7 named").
use Rattle.std.specs.Prelude.{ℕ, Bool, true, false, leb, Option, Some, None}
use Rattle.burst_codes.specs.declared.Compression.{Compression}
use Rattle.burst_codes.specs.declared.Compression.TheVariants.{Baq8To2, Baq8To1, NoData, Top8To2, Top8To4, Straight8, Baq8To4LowRes, Baq8To4HighRes}

-- the number of each mode that section 8.2.n.34 names
abbrev pub mode_number : Compression → ℕ
mode_number Baq8To2 = 0
mode_number Baq8To1 = 1
mode_number NoData = 2
mode_number Top8To2 = 3
mode_number Top8To4 = 4
mode_number Straight8 = 5
mode_number Baq8To4LowRes = 6
mode_number Baq8To4HighRes = 7

abbrev pub pick_numbered : (is_named : Bool) → ℕ → Option ℕ
pick_numbered true n = Some n
pick_numbered false n = None

-- 0 to 7 are named, and nothing above
abbrev pub numbered : ℕ → Option ℕ
numbered n = pick_numbered (leb n 7) n
