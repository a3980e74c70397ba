-- A sample is below the cut exactly where its tone is below the threshold: t < 4·M + 2 for the largest t with t·t ≤ 255·s says that
-- 255·s is below the square of 4·M + 2.
use Prim.Native.Nat.{ℕ, ◌+◌, ◌*◌, ◌≤◌, ◌<◌}
use native.Mathlib.Nat.{lt_of_not-le}
use native.Mathlib.Decide.{dec_le}
use native.Mathlib.Omega.{arith}
use mathlib.Core.Path.{◌≡◌, ◌∙◌, sym}
use lib.Dec.{ltb}
use borrow.Author.Tests.{lt-ltb, le-ltb}
use Rattle.dots.specs.Tone.{tone}
use Rattle.dots.specs.Matrix.{level}
use Rattle.dot_lines.specs.Private.{cut}
use Rattle.dots.proofs.Squares.{squares_grow}
use Rattle.dots.proofs.Curve.{tone_curve}
use Rattle.dots.proofs.Levels.{level_small}

-- the square of a threshold is no large number
pub threshold_small : (m : ℕ) → m < 64 → (4 * m + 2) * (4 * m + 2) ≤ 64516
threshold_small m h = squares_grow (4 * m + 2) 254 (omega arith)

pub cut_small : (y x : ℕ) → cut (level y x) < 256
cut_small y x = omega (arith, threshold_small (level y x) (level_small y x))

pub below_the_cut : (s m : ℕ) → s < 256 → ltb s (cut m) ≡ ltb (tone s) (4 * m + 2)
below_the_cut s m h =
    let is = tone_curve.rule s h in
    elim (dec_le (4 * m + 2) (tone s)) [
      | yes g ↦ le-ltb s (cut m) (omega (arith, squares_grow (4 * m + 2) (tone s) g, is.reached)) ∙ sym (le-ltb (tone s) (4 * m + 2) g)
      | no g ↦
          lt-ltb s (cut m) (omega (arith, squares_grow (tone s + 1) (4 * m + 2) (omega (arith, lt_of_not-le g)), is.largest))
          ∙ sym (lt-ltb (tone s) (4 * m + 2) (lt_of_not-le g))
    ]
