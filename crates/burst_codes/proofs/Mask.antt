-- The number of set bits of a mask of five bits is the sum of these bits; and the verdict that a mask gets is that of field 33's limits.
use Prim.Native.Nat.{ℕ, ◌/◌, ◌≤◌}
use native.Mathlib.Nat.{lt_of_not-le}
use native.Mathlib.Decide.{dec_le}
use native.Mathlib.Omega.{arith}
use mathlib.Core.Path.{◌≡◌, refl, ap}
use lib.IntN.{pos}
use lib.Count.{ones, ones_step}
use borrow.Author.Tests.{le-leb, lt-leb, lt-ltb, le-ltb}
use Rattle.answer.specs.Outcome.{answer}
use Rattle.limits.specs.Limits.{table_of}
use Rattle.limits.specs.BurstLimits.{burst_table}
use Rattle.limits.specs.declared.Table.TheVariants.{Bursts}
use Rattle.verdicts.specs.Verdict.{limits_of, verdict_of}
use Rattle.burst_codes.specs.Beams.{sum_of_bits, beams_of, verdict_in}

-- no bit is set in 0
none_set : ones 0 ≡ 0
unfolding ones
none_set = refl

-- each step takes the lowest bit, and five leave none
pub ones_are_the_sum : (m : ℕ) → m ≤ 31 → ones m ≡ sum_of_bits m
ones_are_the_sum m h =
    let none_left : m / 2 / 2 / 2 / 2 / 2 ≡ 0 = omega arith in
    omega (
      arith,
      none_set,
      ones_step m,
      ones_step (m / 2),
      ones_step (m / 2 / 2),
      ones_step (m / 2 / 2 / 2),
      ones_step (m / 2 / 2 / 2 / 2),
      ap ones none_left,
    )

-- field 33's limits are 0 and 31
limits_of_the_mask : limits_of (table_of Bursts) 33 ≡ answer (record { number = 33; minimum = pos 0; maximum = pos 31 })
unfolding burst_table
limits_of_the_mask = refl

-- the verdict on a mask is the one by these limits
pub mask_verdict : (m : ℕ) → answer (verdict_in (beams_of m)) ≡ verdict_of Bursts 33 (pos m)
mask_verdict m =
    elim (dec_le m 31) [
      | yes h ↦ simp (limits_of_the_mask, le-leb m 31 h, le-ltb 31 m h, le-ltb m 0 (omega arith))
      | no h ↦ simp (limits_of_the_mask, lt-leb m 31 (lt_of_not-le h), lt-ltb 31 m (lt_of_not-le h), le-ltb m 0 (omega arith))
    ]
