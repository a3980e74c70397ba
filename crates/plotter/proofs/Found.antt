-- Rows over any function of their numbers, found one after the other: those from a first one on, in two parts, and one more.
use Prim.Native.Nat.{ℕ, zero, suc, ◌+◌, ◌-◌, ◌<◌}
use native.Mathlib.Omega.{arith}
use mathlib.Core.Path.{◌≡◌, refl, ◌∙◌, sym, ap, ap₂}
use mathlib.Core.List.{List, [], ◌∷◌, ◌++◌, append_assoc}
use Rattle.answer.specs.Outcome.{Outcome, answer, refuse, and_then, mapped}
use Rattle.answer.specs.declared.Shown.{Shown}
use Rattle.answer.proofs.Outcomes.{and_then_agrees, mapped_same}
use Rattle.std.specs.List.{range_with_len}
use Rattle.plotter.specs.Strip.{each_of}

module _ (row : ℕ → Outcome Shown) where
  pub each_split : (h first m : ℕ) → each_of row (range_with_len first (h + m))
      ≡ and_then (each_of row (range_with_len first h)) (λ front. mapped (λ back. front ++ back) (each_of row (range_with_len (first + h) m)))
  each_split zero first m =
      sym (mapped_same (each_of row (range_with_len first (0 + m))))
      ∙ ap₂ (λ (k n : ℕ). mapped (λ back. back) (each_of row (range_with_len k n))) {x = first} {y = first + 0} {u = 0 + m} {v = m} (omega arith) (omega arith)
  each_split (suc h) first m =
      ap (λ (n : ℕ). each_of row (range_with_len first n)) {x = suc h + m} {y = suc (h + m)} (omega arith)
      ∙ ap (λ (o : Outcome (List Shown)). and_then (row first) (λ r. mapped (λ rs. r ∷ rs) o)) (each_split h (first + 1) m)
      ∙ cases (row first) (each_of row (range_with_len (first + 1) h)) (each_of row (range_with_len (first + 1 + h) m))
      ∙ ap (λ (k : ℕ). and_then (each_of row (range_with_len first (suc h))) (λ front. mapped (λ back. front ++ back) (each_of row (range_with_len k m)))) {x = first + 1 + h} {y = first + suc h} (omega arith)
    where
      cases : (o : Outcome Shown) (p q : Outcome (List Shown))
          → and_then o (λ r. mapped (λ rs. r ∷ rs) (and_then p (λ front. mapped (λ back. front ++ back) q)))
          ≡ and_then (and_then o (λ r. mapped (λ rs. r ∷ rs) p)) (λ front. mapped (λ back. front ++ back) q)
      cases (answer r) (answer rs) (answer qs) = refl
      cases (answer r) (answer rs) (refuse m p) = refl
      cases (answer r) (refuse m p) q = refl
      cases (refuse m p) q r = refl

  module _ (first found : ℕ) (rows : List Shown) (so_far : each_of row (range_with_len first found) ≡ answer rows) where
    pub each_more : (r : Shown) → row (first + found) ≡ answer r → each_of row (range_with_len first (found + 1)) ≡ answer (rows ++ r ∷ [])
    each_more r is =
        each_split found first 1
        ∙ ap (λ (o : Outcome (List Shown)). and_then o (λ front. mapped (λ back. front ++ back) (each_of row (range_with_len (first + found) 1)))) so_far
        ∙ ap (λ (o : Outcome Shown). mapped (λ back. rows ++ back) (and_then o (λ q. mapped (λ rs. q ∷ rs) (answer [])))) is

    pub each_refused : (n m p : ℕ) → found < n → row (first + found) ≡ refuse m p → each_of row (range_with_len first n) ≡ refuse m p
    each_refused n m p more is =
        ap (λ (k : ℕ). each_of row (range_with_len first k)) {x = n} {y = found + suc (n - (found + 1))} (omega arith)
        ∙ each_split found first (suc (n - (found + 1)))
        ∙ ap (λ (o : Outcome (List Shown)). and_then o (λ front. mapped (λ back. front ++ back) (each_of row (range_with_len (first + found) (suc (n - (found + 1))))))) so_far
        ∙ ap (λ (o : Outcome Shown). mapped (λ back. rows ++ back) (and_then o (λ q. mapped (λ rs. q ∷ rs) (each_of row (range_with_len (first + found + 1) (n - (found + 1))))))) is

    -- the rows behind the one that is found next
    pub each_rest : (n : ℕ) → found < n → (r : Shown) → row (first + found) ≡ answer r
        → each_of row (range_with_len first n) ≡ mapped (λ rest. rows ++ r ∷ rest) (each_of row (range_with_len (first + (found + 1)) (n - (found + 1))))
    each_rest n more r is =
        ap (λ (k : ℕ). each_of row (range_with_len first k)) {x = n} {y = found + 1 + (n - (found + 1))} (omega arith)
        ∙ each_split (found + 1) first (n - (found + 1))
        ∙ ap (λ (o : Outcome (List Shown)). and_then o (λ front. mapped (λ back. front ++ back) (each_of row (range_with_len (first + (found + 1)) (n - (found + 1)))))) (each_more r is)
        ∙ and_then_agrees (each_of row (range_with_len (first + (found + 1)) (n - (found + 1)))) (λ back. answer ((rows ++ r ∷ []) ++ back)) (λ rest. answer (rows ++ r ∷ rest))
        (λ back. ap answer (append_assoc rows (r ∷ []) back))
