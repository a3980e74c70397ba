-- The beam mask (document 02, item 1: "For the beam mask, 0 to 31, the number of beams is how many of the mask's bits are set; a mask above
-- 31 gets the verdict above and no number of beams"; source document 000, section 8.2.n.33).
use Rattle.std.specs.Prelude.{ℕ, ◌+◌, ◌/◌, ◌%◌, Bool, true, false, leb, Option, Some, None}
use Rattle.verdicts.specs.declared.Side.{Side}
use Rattle.verdicts.specs.declared.Side.TheVariants.{Inside, Above}

-- the sum of the five bits of a mask
abbrev pub sum_of_bits : ℕ → ℕ
sum_of_bits m = m % 2 + m / 2 % 2 + m / 4 % 2 + m / 8 % 2 + m / 16 % 2

abbrev pub pick_beams : (is_mask : Bool) → ℕ → Option ℕ
pick_beams true m = Some (sum_of_bits m)
pick_beams false m = None

-- the number of beams of a mask, 0 to 31
abbrev pub beams_of : ℕ → Option ℕ
beams_of m = pick_beams (leb m 31) m

-- the verdict on a mask, by whether it has a number of beams
abbrev pub verdict_in : Option ℕ → Side
verdict_in (Some beams) = Inside
verdict_in None = Above
