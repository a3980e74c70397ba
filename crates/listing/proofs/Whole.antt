-- The whole listing: the first line, and behind it the rows' lines or nothing.
use Prim.Native.Nat.{ℕ, ◌+◌, ◌≤◌}
use native.Mathlib.Omega.{arith}
use mathlib.Core.Path.{◌≡◌, ◌∙◌, sym, ap, subst}
use mathlib.Core.List.{List, [], ◌∷◌, ◌++◌, append-nil}
use lib.ListN.{length, drop, length-append}
use Rattle.answer.specs.Outcome.{Outcome, answer, refuse}
use Rattle.answer.specs.Filled.{Writes}
use Rattle.answer.proofs.Outcomes.{first_answered, answer_injective, refused_first}
use Rattle.sfdu.specs.Check.{counting}
use Rattle.text.specs.Decimal.{decimal_text}
use Rattle.text.proofs.Unpadded.{few_bytes}
use Rattle.listing.specs.Line.{head_text}
use Rattle.listing.specs.Listing.{rows_listed, row_lines, listing_of}
use Rattle.listing.specs.Private.{Puts}
use Rattle.listing.proofs.Putting.{puts_on}
use Rattle.listing.proofs.Listed.{listed_is_small}

written : (f : List ℕ) {old new : List ℕ} {r : ℕ} → Puts 0 (listing_of f) old r new → Writes (answer (listing_of f)) old (answer r) new
written f {old} {new} {r} p =
    let size : r ≡ length (listing_of f) = omega (arith, p.ends) in
    record { answers = ap answer size; leaves = p.leaves ∙ ap (λ (k : ℕ). listing_of f ++ drop k old) size }

-- the first line was put at the front
module _ (f : List ℕ) {old mid line : List ℕ} {o : Outcome ℕ} {head : ℕ} (is : o ≡ counting (rows_listed f)) (text : line ≡ head_text o) (put : Puts 0 line old head mid) where
  head_put : Puts 0 (head_text (counting (rows_listed f))) old head mid
  head_put = subst (λ (t : List ℕ). Puts 0 t old head mid) (text ∙ ap head_text is) put

  pub head_is_short : (rows : ℕ) → o ≡ answer rows → head ≤ 26
  head_is_short rows e =
      let (rs, listed, many) = first_answered (rows_listed f) (λ xs. answer (length xs)) rows (sym is ∙ e) in
      let few = (listed_is_small f rs listed).few in
      let size : head ≡ 0 + length (head_text (answer rows)) = put.ends ∙ ap (λ (t : List ℕ). 0 + length t) (text ∙ ap head_text e) in
      omega (arith, size, few, answer_injective many, length-append (decimal_text rows) (10 ∷ []), few_bytes 3 rows (omega (arith, few, answer_injective many)))

  pub rows_follow : {r : ℕ} {new : List ℕ} → Puts head (row_lines f (rows_listed f)) mid r new → Writes (answer (listing_of f)) old (answer r) new
  unfolding listing_of
  rows_follow p = written f (puts_on (omega arith) head_put p)

  pub nothing_follows : (n p : ℕ) → o ≡ refuse n p → Writes (answer (listing_of f)) old (answer head) mid
  unfolding listing_of
  nothing_follows n p e =
      let none : row_lines f (rows_listed f) ≡ [] = ap (row_lines f) (refused_first (rows_listed f) length (sym is ∙ e)) in
      written f (subst (λ (t : List ℕ). Puts 0 t old head mid)
      (sym (ap (λ (t : List ℕ). head_text (counting (rows_listed f)) ++ t) none ∙ append-nil (head_text (counting (rows_listed f))))) head_put)
