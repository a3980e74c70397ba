-- What the search of a file for row k has seen at its end: as many rows as the file has, and row k where it is one of them.
use Prim.Native.Nat.{ℕ, zero, suc, ◌+◌, ◌<◌}
use native.Mathlib.Omega.{arith}
use mathlib.Core.Path.{◌≡◌, refl, ◌∙◌, sym, ap}
use mathlib.Core.Bool.{cond}
use mathlib.Core.List.{List, [], ◌∷◌}
use lib.ListN.{length}
use borrow.Author.Tests.{eq-eqb, ne_eqb}
use Rattle.std.specs.Prelude.{Option, Some, None}
use Rattle.answer.specs.Outcome.{Outcome, answer, refuse, and_then, mapped}
use Rattle.answer.specs.Nth.{nth}
use Rattle.answer.proofs.Outcomes.{mapped_answer, refused_first, after_answer, after_refusal}
use Rattle.sfdu.specs.Row.{Row, whole}
use Rattle.sfdu.specs.Search.{mark_of, row_marked, nothing_seen, see_row, see_all}
use Rattle.sfdu.specs.declared.Mark.{Mark}
use Rattle.sfdu.specs.declared.Seen.{Seen}

-- a row that is there, as the search marks it
abbrev mark_in : Outcome Row → Option Mark
mark_in (answer r) = Some (mark_of r)
mark_in (refuse n p) = None

marked_is_there : (o : Outcome Row) (m : Mark) → mark_in o ≡ Some m → answer (whole (row_marked m)) ≡ mapped whole o
marked_is_there (answer r) m e = let h : mark_of r ≡ m = cc e in ap (λ (x : Mark). answer (whole (row_marked x))) (sym h)
marked_is_there (refuse n p) m e = let w : ◌≡◌ {A = ℕ} 0 1 = cc e in absurd (omega arith)

unmarked_is_not : (rs : List Row) (k : ℕ) → mark_in (nth rs k) ≡ None → refuse 6 0 ≡ mapped whole (nth rs k)
unmarked_is_not [] k e = refl
unmarked_is_not (r ∷ rs) zero e = let w : ◌≡◌ {A = ℕ} 0 1 = cc e in absurd (omega arith)
unmarked_is_not (r ∷ rs) (suc k) e = unmarked_is_not rs k e

module _ (k : ℕ) where
  seen_count : (rs : List Row) (s : Seen) → (see_all k s rs).rows ≡ s.rows + length rs
  seen_count [] s = omega arith
  seen_count (r ∷ rs) s = seen_count rs (see_row k s r) ∙ omega arith

  -- a row that was seen stays
  seen_stays : (rs : List Row) (s : Seen) → k < s.rows → (see_all k s rs).mark ≡ s.mark
  seen_stays [] s h = refl
  seen_stays (r ∷ rs) s h =
      seen_stays rs (see_row k s r) (omega arith) ∙ ap (λ t. cond t (Some (mark_of r)) s.mark) (ne_eqb s.rows k (λ e. absurd (omega (arith, e))))

  -- row k is marked when its turn comes, and no other is
  seen_row : (rs : List Row) (s : Seen) (j : ℕ) → k ≡ s.rows + j → s.mark ≡ None → (see_all k s rs).mark ≡ mark_in (nth rs j)
  seen_row [] s j h e = e
  seen_row (x ∷ rs) s zero h e = seen_stays rs (see_row k s x) (omega arith) ∙ ap (λ t. cond t (Some (mark_of x)) s.mark) (eq-eqb s.rows k (omega arith))
  seen_row (x ∷ rs) s (suc j) h e =
      seen_row rs (see_row k s x) j (omega arith)
      (ap (λ t. cond t (Some (mark_of x)) s.mark) (ne_eqb s.rows k (λ i. absurd (omega (arith, i)))) ∙ e)

  -- a search that has seen a file's rows: it has counted them, and marked row k where it is one of them
  module _ (o : Outcome (List Row)) (s : Seen) (e : answer s ≡ mapped (see_all k nothing_seen) o) where
    seen_rows : (rows : List Row) × (o ≡ answer rows) × (see_all k nothing_seen rows ≡ s)
    seen_rows = mapped_answer (see_all k nothing_seen) o s (sym e)

    pub counts_so_many : answer s.rows ≡ mapped length o
    counts_so_many =
        let (rows, is, sees) = seen_rows in
        ap answer (ap (λ (t : Seen). t.rows) (sym sees) ∙ seen_count rows nothing_seen ∙ omega arith) ∙ sym (ap (mapped length) is)

    pub finds_the_row : (m : Mark) → s.mark ≡ Some m → answer (whole (row_marked m)) ≡ and_then o (λ rows. mapped whole (nth rows k))
    finds_the_row m h =
        let (rows, is, sees) = seen_rows in
        marked_is_there (nth rows k) m (sym (seen_row rows nothing_seen k (omega arith) refl) ∙ ap (λ (t : Seen). t.mark) sees ∙ h)
        ∙ sym (after_answer o (λ rs. mapped whole (nth rs k)) rows is)

    pub finds_no_row : s.mark ≡ None → refuse 6 0 ≡ and_then o (λ rows. mapped whole (nth rows k))
    finds_no_row h =
        let (rows, is, sees) = seen_rows in
        unmarked_is_not rows k (sym (seen_row rows nothing_seen k (omega arith) refl) ∙ ap (λ (t : Seen). t.mark) sees ∙ h)
        ∙ sym (after_answer o (λ rs. mapped whole (nth rs k)) rows is)

  -- a search that met a fault
  pub meets_the_fault : {B : Type 0} (o : Outcome (List Row)) (n p : ℕ) (next : List Row → Outcome B) → refuse n p ≡ mapped (see_all k nothing_seen) o
      → refuse n p ≡ and_then o next
  meets_the_fault o n p next e = sym (after_refusal o next n p (refused_first o (see_all k nothing_seen) (sym e)))
