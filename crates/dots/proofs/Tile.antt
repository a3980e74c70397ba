-- The tile law: rows and columns repeat after eight, so an aligned tile of one tone has as many dots as the matrix has numbers M with
-- t < 4·M + 2; that these are 64 − (t + 2) div 4 is computed once for the 256 tones.
use Prim.Native.Nat.{ℕ, zero, suc, ◌+◌, ◌-◌, ◌*◌, ◌/◌, ◌<◌}
use native.Mathlib.Omega.{arith}
use mathlib.Core.Path.{◌≡◌, refl, ◌∙◌, ap, ap₂}
use mathlib.Core.Bool.{true}
use lib.Dec.{eqb}
use borrow.Author.Tests.{eqb-true}
use Rattle.dots.specs.Matrix.{matrix, level}
use Rattle.dots.specs.Dot.{is_dot, bit, total, dots_in_tile, TileLaw}
use Rattle.dots.proofs.Tables.{all_below, below}
use Rattle.dots.proofs.Levels.{same_place}

-- sums of numbers that are the same
pub same_total : (n : ℕ) (f g : ℕ → ℕ) → ((i : ℕ) → i < n → f i ≡ g i) → total n f ≡ total n g
same_total zero f g h = refl
same_total (suc n) f g h = ap₂ ◌+◌ (same_total n f g (λ i k. h i (omega arith))) (h n (omega arith))

in_matrix : ℕ → ℕ
in_matrix t = total 8 (λ j. total 8 (λ i. bit (is_dot t i j)))

computed : all_below 256 (λ t. eqb (in_matrix t) (64 - (t + 2) / 4)) ≡ true
unfolding in_matrix level matrix
computed = refl

pub tile_law : TileLaw
unfolding dots_in_tile in_matrix
tile_law = record {
  holds = λ tones X Y t h one-tone.
      same_total 8 _ (λ j. total 8 (λ i. bit (is_dot t i j)))
      (λ j hj.
      same_total 8 _ (λ i. bit (is_dot t i j))
      (λ i hi.
      ap (λ (s : ℕ). bit (is_dot s (8 * X + i) (8 * Y + j))) (one-tone i j hi hj)
      ∙ ap bit (same_place t (8 * X + i) (8 * Y + j) i j (omega arith) (omega arith))))
      ∙ eqb-true (in_matrix t) (64 - (t + 2) / 4) (below (λ s. eqb (in_matrix s) (64 - (s + 2) / 4)) 256 computed t h);
}
