-- A test that is computed at each number below a bound, and what it says of one of them.
use Prim.Native.Nat.{ℕ, zero, suc, ◌<◌}
use native.Mathlib.Nat.{not-suc-le-zero}
use native.Mathlib.Decide.{dec_le}
use native.Mathlib.Omega.{arith}
use mathlib.Core.Path.{◌≡◌, ap, ◌∙◌}
use mathlib.Core.Bool.{Bool, true, ◌&&◌}
use Rattle.answer.proofs.Tests.{both_hold}

-- the test holds of each number below n
abbrev pub all_below : ℕ → (ℕ → Bool) → Bool
all_below zero test = true
all_below (suc n) test = test n && all_below n test

pub below : (test : ℕ → Bool) (n : ℕ) → all_below n test ≡ true → (i : ℕ) → i < n → test i ≡ true
below test zero e i h = absurd (not-suc-le-zero h)
below test (suc n) e i h =
    elim (dec_le n i) [
      | yes g ↦ ap test {x = i} {y = n} (omega arith) ∙ (both_hold (test n) (all_below n test) e).0
      | no g ↦ below test n (both_hold (test n) (all_below n test) e).1 i (omega arith)
    ]
