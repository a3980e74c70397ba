-- Which of the two files a row comes from, and what is then answered; document 02, item 6, whole.
use Prim.Native.Nat.{ℕ}
use native.Mathlib.Omega.{arith}
use mathlib.Core.Path.{◌≡◌, refl, ◌∙◌, sym, ap, subst}
use mathlib.Core.Bool.{Bool, true, false, cond}
use mathlib.Core.List.{List}
use Rattle.answer.specs.Outcome.{Outcome, answer, refuse, mapped}
use Rattle.answer.specs.declared.Shown.{Shown}
use Rattle.answer.proofs.Outcomes.{answer_is_no_refusal, mapped_answer, refused_first}
use Rattle.label.specs.declared.Versions.{Versions}
use Rattle.reader.specs.Rows.{row_of}
use Rattle.reader.specs.declared.Kind.TheVariants.{Labelled}
use Rattle.substitute.specs.Chosen.{file_named, from}
use Rattle.substitute.specs.Substitute.{serves, source_of, read_either}
use Rattle.substitute.specs.Serving.{ShowsRow, Serving}
use Rattle.substitute.specs.declared.Source.TheVariants.{Original, Substitute}
use Rattle.substitute.specs.declared.Chosen.{Chosen}
use Rattle.substitute.proofs.Rows.{answers, has_where_read, shows_the_row}

-- an answer or a refusal
true_is_answered : {A : Type 0} (o : Outcome A) → answers o ≡ true → (a : A) × (o ≡ answer a)
true_is_answered (answer a) e = (a, refl)
true_is_answered (refuse n p) e = let z : ◌≡◌ {A = ℕ} 0 1 = cc e in absurd (omega arith)

module _ (v : Versions) where
  pub serves_where_read : (f : List ℕ) (k : ℕ) → serves v f k ≡ answers (row_of (Labelled v) f k)
  unfolding serves
  serves_where_read f k = has_where_read (Labelled v) f k

  module _ (original substitute : List ℕ) (k : ℕ) where
    -- by whether the substitute serves
    by_serving : (t : Bool) → serves v substitute k ≡ t
        → read_either v original substitute k ≡ mapped (from (cond t Substitute Original)) (row_of (Labelled v) (file_named (cond t Substitute Original) original substitute) k)
    unfolding read_either
    by_serving t e =
        ap (λ (b : Bool). mapped (from (cond b Substitute Original)) (row_of (Labelled v) (file_named (cond b Substitute Original) original substitute) k)) e

    -- the substitute has the row: it is shown, whatever the original is
    pub substitute_has_it : (row : Shown) → row_of (Labelled v) substitute k ≡ answer row → read_either v original substitute k ≡ answer (from Substitute row)
    substitute_has_it row e = by_serving true (serves_where_read substitute k ∙ ap answers e) ∙ ap (mapped (from Substitute)) e

    -- it has not, for whatever reason: the original's row or refusal
    pub substitute_refused : (n p : ℕ) → row_of (Labelled v) substitute k ≡ refuse n p
        → read_either v original substitute k ≡ mapped (from Original) (row_of (Labelled v) original k)
    substitute_refused n p e = by_serving false (serves_where_read substitute k ∙ ap answers e)

    -- the row of the file that is told
    shows_chosen : (found : Chosen) → read_either v original substitute k ≡ answer found → ShowsRow (Labelled v) (file_named found.source original substitute) k found.row
    unfolding read_either
    shows_chosen found e =
        let source = source_of v substitute k in
        let f = file_named source original substitute in
        let (row, read, is) = mapped_answer (from source) (row_of (Labelled v) f k) found e in
        subst (λ (c : Chosen). ShowsRow (Labelled v) (file_named c.source original substitute) k c.row) is (shows_the_row (Labelled v) f k row read)

    refused_by : (n p : ℕ) (t : Bool) → serves v substitute k ≡ t → read_either v original substitute k ≡ refuse n p
        → (serves v substitute k ≡ false) × (serves v original k ≡ false) × (row_of (Labelled v) original k ≡ refuse n p)
    refused_by n p true s e =
        let (row, has) = true_is_answered (row_of (Labelled v) substitute k) (sym (serves_where_read substitute k) ∙ s) in
        absurd (answer_is_no_refusal (sym (substitute_has_it row has) ∙ e))
    refused_by n p false s e =
        let r = refused_first (row_of (Labelled v) original k) (from Original) (sym (by_serving false s) ∙ e) in
        (s, serves_where_read original k ∙ ap answers r, r)

  -- the request, of any two files
  pub substitute_or_original : (original substitute : List ℕ) (k : ℕ) → Serving v original substitute k
  substitute_or_original original substitute k = record {
    serves_exactly = λ f. (
      (λ e. true_is_answered (row_of (Labelled v) f k) (sym (serves_where_read f k) ∙ e)),
      (λ q. serves_where_read f k ∙ ap answers q.1),
    );
    by_substitute = λ e.
        let (row, has) = true_is_answered (row_of (Labelled v) substitute k) (sym (serves_where_read substitute k) ∙ e) in
        (row, shows_the_row (Labelled v) substitute k row has, λ any. substitute_has_it any substitute k row has);
    by_original = by_serving original substitute k false;
    refused_exactly = λ n p. (
      refused_by original substitute k n p (serves v substitute k) refl,
      (λ q. by_serving original substitute k false q.0 ∙ ap (mapped (from Original)) q.2),
    );
    shows = shows_chosen original substitute k;
  }
