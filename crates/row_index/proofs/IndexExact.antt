-- The index check accepts exactly the file's index: the comparison is equality.
use Prim.Native.Nat.{ℕ}
use mathlib.Core.Path.{◌≡◌, refl, ◌∙◌, ap, ap₂}
use mathlib.Core.Bool.{true}
use mathlib.Core.Logic.{◌↔◌}
use mathlib.Core.List.{List, [], ◌∷◌}
use lib.Dec.{eqb}
use borrow.Author.Tests.{eqb-true, eq-eqb}
use native.Mathlib.Omega.{arith}
use Rattle.label.specs.declared.Versions.{Versions}
use Rattle.answer.specs.Outcome.{answer, need}
use Rattle.answer.proofs.Outcomes.{first_answered, passed, after_answer}
use Rattle.answer.proofs.Tests.{both_hold, hold_together}
use Rattle.sfdu.specs.Row.{Row}
use Rattle.sfdu.specs.Check.{rows_of_file}
use Rattle.row_index.specs.Index.{index_of, same, check_index}

pub same_is_equal : (xs ys : List ℕ) → same xs ys ≡ true → xs ≡ ys
same_is_equal [] [] e = refl
same_is_equal [] (y ∷ ys) e = absurd (let z : ◌≡◌ {A = ℕ} 0 1 = cc e in omega arith)
same_is_equal (x ∷ xs) [] e = absurd (let z : ◌≡◌ {A = ℕ} 0 1 = cc e in omega arith)
same_is_equal (x ∷ xs) (y ∷ ys) e =
    let h = both_hold (eqb x y) (same xs ys) e in ap₂ ◌∷◌ (eqb-true x y h.0) (same_is_equal xs ys h.1)

pub equal_is_same : (xs : List ℕ) → same xs xs ≡ true
equal_is_same [] = refl
equal_is_same (x ∷ xs) = hold_together (eq-eqb x x refl) (equal_is_same xs)

-- which versions of the label are allowed
module _ (versions : Versions) where
  -- the theorem: accepted exactly when the file is accepted and the whole list is its index
  pub index_check_is_exact : (f xs : List ℕ)
      → (check_index versions f xs ≡ answer tt) ↔ ((rows : List Row) × (rows_of_file versions f ≡ answer rows) × (xs ≡ index_of rows))
  unfolding check_index
  index_check_is_exact f xs = (
    (λ e.
        let q = first_answered (rows_of_file versions f) (λ rows. need (same xs (index_of rows)) 11 (answer tt)) tt e in
        (q.0, q.1, same_is_equal xs (index_of q.0) (passed 0 (same xs (index_of q.0)) 11 (answer tt) tt q.2).0)),
    (λ q.
        after_answer (rows_of_file versions f) (λ rows. need (same xs (index_of rows)) 11 (answer tt)) q.0 q.1
        ∙ ap (λ t. need t 11 (answer tt)) (ap (λ (ys : List ℕ). same ys (index_of q.0)) q.2 ∙ equal_is_same (index_of q.0))),
  )
