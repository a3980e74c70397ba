-- The order of squares is the order of their roots, and the largest root is the only one of its kind.
use Prim.Native.Nat.{ℕ, zero, suc, ◌+◌, ◌*◌, ◌≤◌, ◌<◌}
use native.Mathlib.Nat.{mul-le-mul_left, mul-le-mul_right, le_trans, lt_of_not-le}
use native.Mathlib.Decide.{dec_le}
use native.Mathlib.Omega.{arith}
use mathlib.Core.Path.{◌≡◌, refl}
use mathlib.Core.Bool.{Bool, true, false, cond}
use lib.Dec.{leb}
use borrow.Author.Tests.{leb-true, leb-false}
use Rattle.dots.specs.Tone.{largest_up_to, tone, IsTone}

pub squares_grow : (a b : ℕ) → a ≤ b → a * a ≤ b * b
squares_grow a b h = le_trans (mul-le-mul_left a h) (mul-le-mul_right b h)

pub roots_grow : (a b : ℕ) → a * a < b * b → a < b
roots_grow a b h =
    elim (dec_le b a) [
      | yes g ↦ absurd (omega (arith, squares_grow b a g, h))
      | no g ↦ lt_of_not-le g
    ]

-- searched from above, the largest is found
pub found_from_above : (m n t : ℕ) → t ≤ m → t * t ≤ n → n < (t + 1) * (t + 1) → largest_up_to m n ≡ t
unfolding largest_up_to
found_from_above zero n t h reached largest = omega arith
found_from_above (suc m) n t h reached largest = go (leb (suc m * suc m) n) refl (λ less. found_from_above m n t less reached largest)
  where
    go : (b : Bool) → leb (suc m * suc m) n ≡ b → (t ≤ m → largest_up_to m n ≡ t) → cond b (suc m) (largest_up_to m n) ≡ t
    go true e further =
        let above : suc m < t + 1 = roots_grow (suc m) (t + 1) (omega (arith, leb-true (suc m * suc m) n e, largest)) in
        omega (arith, above, h)
    go false e further =
        let less : t < suc m = roots_grow t (suc m) (omega (arith, leb-false (suc m * suc m) n e, reached)) in
        further (omega (arith, less))

-- so a number that is as the rule says is the tone
pub only_one_tone : (i t : ℕ) → i < 256 → IsTone i t → tone i ≡ t
unfolding tone
only_one_tone i t h is =
    let small : t < 256 = roots_grow t 256 (omega (arith, is.reached, h)) in
    found_from_above 255 (255 * i) t (omega (arith, small)) is.reached is.largest
