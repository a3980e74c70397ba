-- Where a strip starts: what is known of the file then, and what the strip is where no start is found, where it has no rows and where it is
-- drawn.
use Rattle.std.proofs.Common.{rules}
use Prim.Native.Nat.{ℕ, zero, suc, ◌+◌, ◌*◌, ◌-◌, ◌≤◌, ◌<◌}
use native.Mathlib.Nat.{not-suc-le-zero, zero-mul}
use native.Mathlib.Numerals.{add-one}
use native.Mathlib.Omega.{arith}
use mathlib.Core.Path.{◌≡◌, refl, ◌∙◌, sym, ap, subst}
use mathlib.Core.Bool.{Bool}
use mathlib.Core.List.{List, [], ◌∷◌, map}
use lib.ListN.{length}
use lib.Dec.{leb}
use borrow.Author.Tests.{le-leb, eqb-true}
use Rattle.std.specs.Prelude.{IsTrue}
use Rattle.reader.specs.Read.{find_row}
use Rattle.reader.proofs.Rows.{reads_the_rows}
use Rattle.answer.specs.Outcome.{Outcome, answer, refuse, need, mapped}
use Rattle.answer.specs.Nth.{nth}
use Rattle.answer.specs.Filled.{Writes}
use Rattle.answer.specs.declared.Shown.{Shown}
use Rattle.answer.proofs.Outcomes.{after_answer, after_refusal, first_answered, and_then_agrees, mapped_answer, refused_first, answer_is_no_refusal}
use Rattle.answer.proofs.Writers.{refused_writes_nothing, written_to_the_front}
use Rattle.std.specs.List.{range_with_len}
use Rattle.dot_lines.specs.Line.{line_bytes, lines}
use Rattle.reader.specs.declared.Kind.{Kind}
use Rattle.reader.specs.Rows.{row_parts, check_file, row_of}
use Rattle.reader.specs.Read.{row_from, beginning, kept_of}
use Rattle.reader.specs.Demand3.{shown_bytes}
use Rattle.reader.proofs.Demand2.{demand_2}
use Rattle.reader.proofs.NextRow.{goes_on}
use Rattle.plotter.specs.Strip.{each_of, windows_of, draw_into, strip_into}
use Rattle.plotter.specs.Private.{end_of, start_of, is_answer, is_start}
use Rattle.plotter.proofs.Going.{Starts}
use Rattle.plotter.proofs.Judging.{row_refused}

module _ (kind : Kind) (f : List ℕ) where
  -- the check and the rows
  pub checked : (n : ℕ) → check_file kind f ≡ answer n → (rows : List Shown) × (row_parts kind f ≡ answer rows) × (length rows ≡ n)
  checked n e = mapped_answer length (row_parts kind f) n (sym (demand_2 kind f).counts ∙ e)

  -- a row that is found, and a file that has one, is accepted
  found_accepted : (k : ℕ) (row : Shown) → row_of kind f k ≡ answer row → (rows : List Shown) × (row_parts kind f ≡ answer rows)
  unfolding row_of
  found_accepted k row e =
      let (rows, accepted, is) = first_answered (row_parts kind f) (λ rs. nth rs k) row e in
      (rows, accepted)

  -- from where going on comes to the first row
  pub starts : (first from : ℕ) → start_of kind f first ≡ answer from → Starts kind f first from
  starts zero from e =
      let (n, counted, is) = mapped_answer (λ rows. beginning kind) (check_file kind f) from e in
      let (rows, accepted, many) = checked n counted in
      record { rows = rows; accepted = accepted; comes = ap (row_from kind f) (sym is) ∙ (goes_on kind f rows accepted).first }
  starts (suc k) from e =
      let (row, found, is) = mapped_answer end_of (row_of kind f k) from e in
      let (rows, accepted) = found_accepted k row found in
      record {
        rows = rows;
        accepted = accepted;
        comes = subst (λ (m : ℕ). row_from kind f from ≡ mapped (kept_of kind) (row_of kind f m)) (add-one k) (ap (row_from kind f) (sym is) ∙ (goes_on kind f rows accepted).next k row found);
      }

  -- the start of a row that is not the first one is the end of the row before it
  pub start_behind : (first : ℕ) → 1 ≤ first → start_of kind f first ≡ mapped end_of (find_row kind f (first - 1))
  start_behind first some =
      ap (start_of kind f) {x = first} {y = suc (first - 1)} (omega arith)
      ∙ ap (mapped end_of) (sym (reads_the_rows kind f (first - 1)))

  -- what is known of a start
  pub known_start : (first from : ℕ) → IsTrue (is_start kind f first from) → Starts kind f first from
  unfolding is_start
  known_start first from h = go (start_of kind f first) refl h
    where
      go : (o : Outcome ℕ) → start_of kind f first ≡ o → IsTrue (is_answer o from) → Starts kind f first from
      go (answer n) e t = starts first from (e ∙ ap answer (eqb-true n from t))
      go (refuse m p) e t = search rules

  pub is_a_start : (first from : ℕ) → start_of kind f first ≡ answer from → IsTrue (is_start kind f first from)
  unfolding is_start
  is_a_start first from e = rw e (search rules)

  -- the row behind one that is missing is missing
  none_behind : (rows : List Shown) (k m p : ℕ) → nth rows k ≡ refuse m p → nth rows (suc k) ≡ refuse m p
  none_behind [] k m p e = e
  none_behind (r ∷ rows) zero m p e = absurd (answer_is_no_refusal e)
  none_behind (r ∷ rows) (suc k) m p e = none_behind rows k m p e

  module _ (room first n a c : ℕ) where
    -- the strip of a file that is refused, and of one that is accepted
    pub refused_strip : (m p : ℕ) → check_file kind f ≡ refuse m p → strip_into room kind f first n a c ≡ refuse m p
    unfolding strip_into
    refused_strip m p e = after_refusal (check_file kind f) (λ rows. draw_into room f (row_of kind f) first n a c 0) m p e

    pub accepted_strip : (rows : List Shown) → row_parts kind f ≡ answer rows → strip_into room kind f first n a c ≡ draw_into room f (row_of kind f) first n a c 0
    unfolding strip_into
    accepted_strip rows e =
        after_answer (check_file kind f) (λ many. draw_into room f (row_of kind f) first n a c 0) (length rows) ((demand_2 kind f).counts ∙ ap (mapped length) e)

    -- a strip that has rows, of which the first is missing
    first_missing : 0 < n → (m p : ℕ) → row_of kind f first ≡ refuse m p → draw_into room f (row_of kind f) first n a c 0 ≡ refuse m p
    unfolding draw_into
    first_missing some m p e =
        after_refusal (windows_of (row_of kind f) first n a c) (λ windows. need (leb (n * line_bytes c) room) 8 (answer (lines 0 (map (shown_bytes f) windows)))) m p
        (row_refused kind f first n a c m p (each n some))
      where
        each : (i : ℕ) → 0 < i → each_of (row_of kind f) (range_with_len first i) ≡ refuse m p
        each zero h = absurd (not-suc-le-zero h)
        each (suc i) h = after_refusal (row_of kind f first) (λ row. mapped (λ rest. row ∷ rest) (each_of (row_of kind f) (range_with_len (first + 1) i))) m p e

  -- no start: the strip is refused so
  pub no_start : (room first n a c : ℕ) → 0 < n → (m p : ℕ) → start_of kind f first ≡ refuse m p → strip_into room kind f first n a c ≡ refuse m p
  unfolding row_of
  no_start room zero n a c some m p e = refused_strip room zero n a c m p (refused_first (check_file kind f) (λ rows. beginning kind) e)
  no_start room (suc k) n a c some m p e = go (row_parts kind f) refl
    where
      missing : row_of kind f k ≡ refuse m p
      missing = refused_first (row_of kind f k) end_of e

      go : (o : Outcome (List Shown)) → row_parts kind f ≡ o → strip_into room kind f (suc k) n a c ≡ refuse m p
      go (answer rows) q =
          accepted_strip room (suc k) n a c rows q
          ∙ first_missing room (suc k) n a c some m p
          (after_answer (row_parts kind f) (λ rs. nth rs (suc k)) rows q
          ∙ none_behind rows k m p (sym (after_answer (row_parts kind f) (λ rs. nth rs k) rows q) ∙ missing))
      go (refuse n' p') q =
          refused_strip room (suc k) n a c m p ((demand_2 kind f).counts ∙ ap (mapped length) q ∙ ap (mapped (λ (row : Shown). 0)) (sym (after_refusal (row_parts kind f) (λ rs. nth rs k) n' p' q) ∙ missing))

  -- a strip of no rows
  pub no_rows : (room first a c : ℕ) → strip_into room kind f first 0 a c ≡ mapped (λ rows. []) (check_file kind f)
  unfolding strip_into draw_into windows_of
  no_rows room first a c =
      and_then_agrees (check_file kind f) (λ rows. need (leb (0 * line_bytes c) room) 8 (answer [])) (λ rows. answer [])
      (λ rows. ap (λ (b : Bool). need b 8 (answer [])) (le-leb (0 * line_bytes c) room (omega (arith, zero-mul (line_bytes c)))))

-- what is written where nothing is
pub nothing_written : (x : Outcome (List ℕ)) (old : List ℕ) (o : Outcome ℕ) → x ≡ mapped (λ rows. []) o → Writes x old (mapped (λ rows. 0) o) old
nothing_written x old (answer n) e = written_to_the_front old 0 refl e
nothing_written x old (refuse m p) e = refused_writes_nothing old e

-- what is written by a call that is defined as another
pub written_as : {x y : Outcome (List ℕ)} {old new : List ℕ} {o : Outcome ℕ} → x ≡ y → Writes y old o new → Writes x old o new
written_as {old = old} {new = new} {o = o} e w = subst (λ (z : Outcome (List ℕ)). Writes z old o new) (sym e) w
