-- Going row after row without checking the file again: from where it begins `row_from` gives row 0, and from the end of row k's
-- bytes it gives row k + 1, or refusal 6 where row k is the last; of a labelled row all but its depth. So a strip is read in time
-- linear in its rows.
use Prim.Native.Nat.{ℕ, ◌+◌, ◌<◌}
use native.Mathlib.Nat.{mul-zero, mul-suc}
use native.Mathlib.Omega.{arith}
use mathlib.Core.Path.{◌≡◌, ◌∙◌, sym, ap}
use mathlib.Core.List.{List, map}
use Rattle.answer.specs.Outcome.{answer, mapped}
use Rattle.answer.specs.declared.Shown.{Shown}
use Rattle.answer.proofs.Outcomes.{mapped_answer, mapped_same}
use Rattle.sfdu.specs.Row.{whole}
use Rattle.sfdu.specs.Check.{rows_of_file}
use Rattle.walk.proofs.Finding.{walk_finds_the_row, next_row_found}
use Rattle.fixed_rows.specs.Shape.{Shape, step, row_at}
use Rattle.fixed_rows.specs.Check.{count_rows}
use Rattle.fixed_rows.specs.Read as fixed_read
use Rattle.fixed_rows.specs.From as fixed_from
use Rattle.fixed_rows.specs.Rows as fixed
use Rattle.fixed_rows.proofs.Rows.{found_is_row}
use Rattle.fixed_rows.proofs.GoingOn.{row_begins}
use Rattle.waveform.specs.Rows.{waveform}
use Rattle.waveform.proofs.Rows as waveform_rows
use Rattle.bursts.specs.Rows.{bursts}
use Rattle.bursts.proofs.Rows as burst_rows
use Rattle.reader.specs.declared.Kind.{Kind}
use Rattle.reader.specs.declared.Kind.TheVariants.{Labelled, Waveform, Bursts}
use Rattle.reader.specs.Rows.{row_parts, row_of}
use Rattle.reader.specs.Read.{find_row, row_from, beginning, kept_of}
use Rattle.reader.proofs.Rows.{reads_the_rows}

-- the theorem: on an accepted file, from where going on begins the first row is row 0, and from the end of row k's bytes on it is
-- row k + 1
pub record GoesOn (kind : Kind) (f : List ℕ) : Type 0 where
  pub first : row_from kind f (beginning kind) ≡ mapped (kept_of kind) (row_of kind f 0)
  pub next : (k : ℕ) (row : Shown) → row_of kind f k ≡ answer row → row_from kind f (row.part.place + row.part.count) ≡ mapped (kept_of kind) (row_of kind f (k + 1))

-- the same of the rows as reading finds them
record GoesOnReading (kind : Kind) (f : List ℕ) : Type 0 where
  pub first : row_from kind f (beginning kind) ≡ mapped (kept_of kind) (find_row kind f 0)
  pub next : (k : ℕ) (row : Shown) → find_row kind f k ≡ answer row → row_from kind f (row.part.place + row.part.count) ≡ mapped (kept_of kind) (find_row kind f (k + 1))

-- of rows of one size: from the first place, and from the end of a row's bytes
module _ (s : Shape) (some : 0 < step s) (f : List ℕ) (parts : List Shown) (e : fixed.row_parts s f ≡ answer parts) where
  fixed_first : fixed_from.row_from s f s.first ≡ fixed_read.find_row s f 0
  fixed_first =
      let (n, counted, is) = mapped_answer (fixed.rows_from s 0) (count_rows s f) parts e in
      row_begins s some f n counted s.first 0 (omega (arith, mul-zero (step s)))

  fixed_next : (k : ℕ) (row : Shown) → fixed_read.find_row s f k ≡ answer row → fixed_from.row_from s f (row.part.place + row.part.count) ≡ fixed_read.find_row s f (k + 1)
  fixed_next k row found =
      let (n, counted, is) = mapped_answer (fixed.rows_from s 0) (count_rows s f) parts e in
      let (start, at, row_is) = mapped_answer (row_at s) (fixed_read.read_start s.first (step s) f k) row found in
      let starts = (found_is_row s.first (step s) f k some start at).start in
      row_begins s some f n counted (row.part.place + row.part.count) (k + 1)
      (ap (λ (p : Shown). p.part.place + p.part.count) (sym row_is) ∙ omega (arith, starts, mul-suc (step s) k))

reading : (kind : Kind) (f : List ℕ) (parts : List Shown) → row_parts kind f ≡ answer parts → GoesOnReading kind f
unfolding row_parts row_from find_row
reading (Labelled v) f parts e =
    let (rows, accepted, is) = mapped_answer (map whole) (rows_of_file v f) parts e in
    record {
      first = walk_finds_the_row v f rows accepted 0;
      next = λ k row found. next_row_found v f rows accepted k row found;
    }
reading Waveform f parts e = record {
  first = fixed_first waveform waveform_rows.takes_bytes f parts e ∙ sym (mapped_same (fixed_read.find_row waveform f 0));
  next = λ k row found. fixed_next waveform waveform_rows.takes_bytes f parts e k row found ∙ sym (mapped_same (fixed_read.find_row waveform f (k + 1)));
}
reading (Bursts first) f parts e = record {
  first = fixed_first (bursts first) (burst_rows.takes_bytes first) f parts e ∙ sym (mapped_same (fixed_read.find_row (bursts first) f 0));
  next = λ k row found.
      fixed_next (bursts first) (burst_rows.takes_bytes first) f parts e k row found ∙ sym (mapped_same (fixed_read.find_row (bursts first) f (k + 1)));
}

pub goes_on : (kind : Kind) (f : List ℕ) (parts : List Shown) → row_parts kind f ≡ answer parts → GoesOn kind f
goes_on kind f parts e =
    let r = reading kind f parts e in
    record {
      first = r.first ∙ ap (mapped (kept_of kind)) (reads_the_rows kind f 0);
      next = λ k row found. r.next k row (reads_the_rows kind f k ∙ found) ∙ ap (mapped (kept_of kind)) (reads_the_rows kind f (k + 1));
    }
