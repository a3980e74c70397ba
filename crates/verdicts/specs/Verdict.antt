-- The verdict on a number and a value: below, inside or above the limits that a table has for the number, and refusal 10
-- at place 0 for a number that it does not have. The numbers are the altimeter's elements (document 01, the paragraph below
-- its table of limits) or the short bursts' fields (document 02, item 1, "10 for a field .. without the limits a verdict
-- needs").
use Rattle.std.specs.Prelude.{ℕ, Bool, true, false, List, [], ◌∷◌, eqb, ℤ}
use Rattle.std.specs.Int.Signed.{lt_z}
use Rattle.answer.specs.Outcome.{Outcome, answer, refuse, and_then}
use Rattle.limits.specs.Limits.{table_of}
use Rattle.limits.specs.declared.Limit.{Limit}
use Rattle.limits.specs.declared.Table.{Table}
use Rattle.verdicts.specs.declared.Side.{Side}
use Rattle.verdicts.specs.declared.Side.TheVariants.{Below, Inside, Above}

abbrev pub pick_side : (too_low too_high : Bool) → Side
pick_side true too_high = Below
pick_side false true = Above
pick_side false false = Inside

-- where a value stands against a line's minimum and maximum: a limit itself is inside
abbrev pub side : ℤ → Limit → Side
side v l = pick_side (lt_z v l.minimum) (lt_z l.maximum v)

abbrev pub pick_line : (is_it : Bool) → Limit → Outcome Limit → Outcome Limit
pick_line true l later = answer l
pick_line false l later = later

-- the first line of a table that has the number, or refusal 10
abbrev pub limits_of : List Limit → ℕ → Outcome Limit
limits_of [] n = refuse 10 0
limits_of (l ∷ ls) n = pick_line (eqb l.number n) l (limits_of ls n)

-- the verdict on number n and value v by a table
abbrev pub verdict_of : Table → ℕ → ℤ → Outcome Side
verdict_of t n v = and_then (limits_of (table_of t) n) (λ l. answer (side v l))
