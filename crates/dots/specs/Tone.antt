-- The tone curve (document 02, item 7: "Each sample passes through our tone curve, a table of 256 numbers: for sample i the largest t
-- with t·t ≤ 255·i"), and what is stated of it.
use Rattle.std.specs.Prelude.{ℕ, zero, suc, ◌+◌, ◌*◌, ◌≤◌, ◌<◌, ◌≡◌, cond, leb}

-- the largest t with t·t ≤ n, of those up to the first number
unfoldable pub largest_up_to : ℕ → ℕ → ℕ
largest_up_to zero n = zero
largest_up_to (suc t) n = cond (leb (suc t * suc t) n) (suc t) (largest_up_to t n)

-- the tone of a sample: up to 255, since no sample is larger
unfoldable pub tone : ℕ → ℕ
tone i = largest_up_to 255 (255 * i)

-- t is the largest number with t·t ≤ 255·i
pub record IsTone (i t : ℕ) : Type 0 where
  pub reached : t * t ≤ 255 * i
  pub largest : 255 * i < (t + 1) * (t + 1)

-- "Prove the rule over the whole table, and that the curve never falls"; "1 gives 15 and 64 gives 127"
pub record ToneCurve : Type 0 where
  pub rule : (i : ℕ) → i < 256 → IsTone i (tone i)
  pub never_falls : (i j : ℕ) → i ≤ j → j < 256 → tone i ≤ tone j
  pub of_1 : tone 1 ≡ 15
  pub of_64 : tone 64 ≡ 127
