-- The one with a number: it is there below the length and nowhere else, and of a list that was mapped it is what was made of it.
use Prim.Native.Nat.{ℕ, zero, suc, ◌≤◌, ◌<◌}
use native.Mathlib.Nat.{not-suc-le-zero}
use native.Mathlib.Omega.{arith}
use mathlib.Core.Path.{◌≡◌, refl}
use mathlib.Core.List.{List, [], ◌∷◌, map}
use lib.ListN.{length}
use Rattle.answer.specs.Outcome.{answer, refuse, mapped}
use Rattle.answer.specs.Nth.{nth}

module _ {A : Type 0} where
  pub nth_is_there : (xs : List A) (k : ℕ) → k < length xs → (x : A) × (nth xs k ≡ answer x)
  nth_is_there [] k h = absurd (not-suc-le-zero h)
  nth_is_there (x ∷ xs) zero h = (x, refl)
  nth_is_there (x ∷ xs) (suc k) h = nth_is_there xs k (omega arith)

  pub nth_is_not : (xs : List A) (k : ℕ) → length xs ≤ k → nth xs k ≡ refuse 6 0
  nth_is_not [] k h = refl
  nth_is_not (x ∷ xs) zero h = absurd (omega arith)
  nth_is_not (x ∷ xs) (suc k) h = nth_is_not xs k (omega arith)

  pub nth_of_map : {B : Type 0} (g : A → B) (xs : List A) (k : ℕ) → nth (map g xs) k ≡ mapped g (nth xs k)
  nth_of_map g [] k = refl
  nth_of_map g (x ∷ xs) zero = refl
  nth_of_map g (x ∷ xs) (suc k) = nth_of_map g xs k
