-- Passing rows of one size, whatever the size: what one turn of the passing does, and that over whole rows it ends at
-- the product of the size and the row's number.
use Prim.Native.Nat.{ℕ, zero, suc, ◌+◌, ◌*◌, ◌-◌, ◌≤◌, ◌<◌}
use native.Mathlib.Nat.{mul-suc, mul-zero}
use native.Mathlib.Numerals.{sub-one}
use native.Mathlib.Omega.{arith}
use mathlib.Core.Path.{◌≡◌, refl, ◌∙◌, ap}
use mathlib.Core.List.{List, [], ◌∷◌}
use lib.ListN.{length, drop, length-drop}
use lib.Seq.{drop-drop}
use lib.Dec.{ltb, leb-suc-zero, leb-suc-suc}
use borrow.Author.Tests.{lt-ltb}
use Rattle.answer.specs.Outcome.{Outcome, answer, refuse, need}
use Rattle.fixed_rows.specs.Read.{if_any, passing}

any_left : (s : List ℕ) (o : Outcome ℕ) → 0 < length s → if_any s o ≡ o
any_left [] o h = absurd (omega arith)
any_left (b ∷ bs) o h = refl

none_left : (s : List ℕ) (o : Outcome ℕ) → length s ≡ 0 → if_any s o ≡ refuse 6 0
none_left [] o h = refl
none_left (b ∷ bs) o h = absurd (omega arith)

module _ (step : ℕ) where
  -- no bytes left: no row
  runs_out : (k at : ℕ) (s : List ℕ) → length s ≡ 0 → passing step k at s ≡ refuse 6 0
  runs_out zero at s h = none_left s (answer at) h
  runs_out (suc k) at s h = none_left s (passing step k (at + step) (drop step s)) h

  -- a place at the end of the file or past it: no row
  pub past_the_end : (f : List ℕ) (at k : ℕ) → length f ≤ at → passing step k at (drop at f) ≡ refuse 6 0
  past_the_end f at k h = runs_out k at (drop at f) (rw length-drop (omega arith))

  module _ (f : List ℕ) (at : ℕ) (h : at < length f) where
    left : 0 < length (drop at f)
    left = rw length-drop (omega arith)

    -- bytes left and no row to pass: the row starts here
    pub arrives : (k : ℕ) → k ≡ 0 → passing step k at (drop at f) ≡ answer at
    arrives zero none = any_left (drop at f) (answer at) left
    arrives (suc k) none = absurd (omega (arith, none))

    -- bytes left and rows to pass: one is passed
    pub passes_one : (k : ℕ) → 0 < k → passing step k at (drop at f) ≡ passing step (k - 1) (at + step) (drop (at + step) f)
    passes_one zero p = absurd (omega arith)
    passes_one (suc k) p =
        any_left (drop at f) (passing step k (at + step) (drop step (drop at f))) left
        ∙ rw (drop-drop step at f, sub-one)

  -- over n whole rows the passing ends at the product, and finds a row exactly where the number is below n
  pub passing_multiplies : 0 < step → (k n at : ℕ) (s : List ℕ) → length s ≡ step * n
      → passing step k at s ≡ need (ltb k n) 6 (answer (at + step * k))
  passing_multiplies z k zero at s e = runs_out k at s (e ∙ mul-zero step) ∙ rw leb-suc-zero
  passing_multiplies z zero (suc n) at s e =
      any_left s (answer at) (omega (arith, e, mul-suc step n))
      ∙ rw (lt-ltb 0 (suc n) (omega arith)) (ap answer (omega (arith, mul-zero step)))
  passing_multiplies z (suc k) (suc n) at s e =
      any_left s (passing step k (at + step) (drop step s)) (omega (arith, e, mul-suc step n))
      ∙ passing_multiplies z k n (at + step) (drop step s) (rw length-drop (omega (arith, e, mul-suc step n)))
      ∙ rw (leb-suc-suc (suc k) n) (ap (λ (p : ℕ). need (ltb k n) 6 (answer p)) (omega (arith, mul-suc step k)))
