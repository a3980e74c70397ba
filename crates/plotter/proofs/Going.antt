-- Going on from row to row: what the reader's going on says of the next row, and the rows that are found so far.
use Prim.Native.Nat.{ℕ, ◌+◌, ◌≤◌, ◌<◌, zero-le}
use native.Mathlib.Omega.{arith}
use mathlib.Core.Path.{◌≡◌, refl, ◌∙◌, sym, ap, subst}
use mathlib.Core.List.{List, [], ◌∷◌, ◌++◌}
use lib.ListN.{length}
use Rattle.answer.specs.Outcome.{answer, refuse, mapped}
use Rattle.answer.specs.declared.Part.{Part}
use Rattle.answer.specs.declared.Shown.{Shown}
use Rattle.answer.proofs.Outcomes.{mapped_answer, refused_first}
use Rattle.std.specs.List.{range_with_len}
use Rattle.reader.specs.declared.Kind.{Kind}
use Rattle.reader.specs.declared.Kind.TheVariants.{Labelled, Waveform, Bursts}
use Rattle.reader.specs.Rows.{row_parts, row_of}
use Rattle.reader.specs.Read.{row_from, kept_of}
use Rattle.reader.proofs.Found.{row_inside}
use Rattle.reader.proofs.Rows.{reads_the_rows}
use Rattle.reader.proofs.NextRow.{goes_on}
use Rattle.plotter.specs.Strip.{each_of}
use Rattle.plotter.specs.Private.{end_of}
use Rattle.plotter.proofs.Found.{each_more}

-- the file is accepted, and going on from a place comes to row k
pub record Starts (kind : Kind) (f : List ℕ) (k from : ℕ) : Type 0 where
  pub rows : List Shown
  pub accepted : row_parts kind f ≡ answer rows
  pub comes : row_from kind f from ≡ mapped (kept_of kind) (row_of kind f k)

-- what going on keeps of a row has the row's bytes
kept_part : (kind : Kind) (row : Shown) → (kept_of kind row).part ≡ row.part
kept_part (Labelled versions) row = refl
kept_part Waveform row = refl
kept_part (Bursts first) row = refl

-- a row that going on came to
pub record NextRow (kind : Kind) (f : List ℕ) (k : ℕ) (next : Shown) : Type 0 where
  pub row : Shown
  pub is_row : row_of kind f k ≡ answer row
  pub part : row.part ≡ next.part
  pub inside : end_of next ≤ length f
  pub further : Starts kind f (k + 1) (end_of next)

module _ (kind : Kind) (f : List ℕ) (k from : ℕ) (s : Starts kind f k from) where
  pub next_row : (next : Shown) → row_from kind f from ≡ answer next → NextRow kind f k next
  next_row next e =
      let (row, is_row, kept) = mapped_answer (kept_of kind) (row_of kind f k) next (sym s.comes ∙ e) in
      let part : row.part ≡ next.part = sym (kept_part kind row) ∙ ap (λ (x : Shown). x.part) kept in
      let end : end_of row ≡ end_of next = ap (λ (p : Part). p.place + p.count) part in
      record {
        row = row;
        is_row = is_row;
        part = part;
        inside = subst (λ (n : ℕ). n ≤ length f) end (row_inside kind f k row (reads_the_rows kind f k ∙ is_row));
        further = record {
          rows = s.rows;
          accepted = s.accepted;
          comes = ap (row_from kind f) (sym end) ∙ (goes_on kind f s.rows s.accepted).next k row is_row;
        };
      }

  pub next_refused : (n p : ℕ) → row_from kind f from ≡ refuse n p → row_of kind f k ≡ refuse n p
  next_refused n p e = refused_first (row_of kind f k) (kept_of kind) (sym s.comes ∙ e)

-- n rows from `first` on, of which the first ones are found, and from where the next one is
pub record Going (kind : Kind) (f : List ℕ) (first n found from : ℕ) (rows : List Shown) : Type 0 where
  pub within : found ≤ n
  pub so_far : each_of (row_of kind f) (range_with_len first found) ≡ answer rows
  pub next : Starts kind f (first + found) from

module _ (kind : Kind) (f : List ℕ) (first n : ℕ) where
  pub nothing_found : (from : ℕ) → Starts kind f first from → Going kind f first n 0 from []
  nothing_found from s = record {
    within = zero-le;
    so_far = refl;
    next = subst (λ (k : ℕ). Starts kind f k from) {x = first} {y = first + 0} (omega arith) s;
  }

  module _ (found from : ℕ) (rows : List Shown) (g : Going kind f first n found from rows) where
    pub one_found : found < n → (next : Shown) (r : NextRow kind f (first + found) next) → Going kind f first n (found + 1) (end_of next) (rows ++ r.row ∷ [])
    one_found more next r = record {
      within = omega arith;
      so_far = each_more (row_of kind f) first found rows g.so_far r.row r.is_row;
      next = subst (λ (k : ℕ). Starts kind f k (end_of next)) {x = first + found + 1} {y = first + (found + 1)} (omega arith) r.further;
    }

    pub all_found : n ≤ found → each_of (row_of kind f) (range_with_len first n) ≡ answer rows
    all_found done = ap (λ (m : ℕ). each_of (row_of kind f) (range_with_len first m)) {x = n} {y = found} (omega (arith, g.within)) ∙ g.so_far
