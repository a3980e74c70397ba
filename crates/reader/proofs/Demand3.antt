-- Demand 3, whole: one statement over every kind, every row number and every window. It rests on the theorems of the kinds,
-- `row_index`'s and `fixed_rows`' `jump_is_read`, on reading finding demand 2's rows, and on the window of a row being a part
-- of the row's bytes.
use Prim.Native.Nat.{ℕ, ◌+◌}
use native.Mathlib.Omega.{arith}
use mathlib.Core.Path.{◌≡◌, ◌∙◌, sym, ap, ap₂, subst}
use mathlib.Core.List.{List}
use lib.ListN.{length, drop, get_or, length-drop}
use lib.Seq.{length-take-le, get_or-take, get_or-drop}
use Rattle.answer.specs.Outcome.{Outcome, and_then, answer, mapped}
use Rattle.answer.specs.Window.{bytes_at, window_in}
use Rattle.answer.specs.Address.{SameAnswer}
use Rattle.answer.specs.declared.Shown.{Shown}
use Rattle.answer.proofs.Outcomes.{first_answered, mapped_same}
use Rattle.answer.proofs.Addresses.{same_answer, same_without_depth}
use Rattle.answer.proofs.Windows.{shown_is_inside, window_of_the_row, window_without_depth}
use Rattle.row_index.specs.Jump as labelled_jump
use Rattle.row_index.proofs.IndexExact.{index_check_is_exact}
use Rattle.row_index.proofs.JumpIsRead as labelled
use Rattle.fixed_rows.specs.Read as fixed_read
use Rattle.fixed_rows.proofs.JumpIsRead as fixed
use Rattle.waveform.specs.Rows.{waveform}
use Rattle.waveform.proofs.Rows as waveform_rows
use Rattle.bursts.specs.Rows.{bursts}
use Rattle.bursts.proofs.Rows as burst_rows
use Rattle.reader.specs.declared.Kind.{Kind}
use Rattle.reader.specs.declared.Kind.TheVariants.{Labelled, Waveform, Bursts}
use Rattle.reader.specs.Rows.{row_of}
use Rattle.reader.specs.Read.{find_row, jump_to, read_row, jump_row, kept_of}
use Rattle.reader.specs.Demand3.{shown_bytes, Supposed, ShowsWindow, Demand3}
use Rattle.reader.proofs.Found.{row_inside}
use Rattle.reader.proofs.Rows.{reads_the_rows}
use Rattle.reader.proofs.Filling.{reading_fills, jump_fills}

-- the two ways come to the same row, of which the jump tells what it keeps
same_row : (kind : Kind) (f xs : List ℕ) → Supposed kind f xs → (k : ℕ) → jump_to kind f xs k ≡ mapped (kept_of kind) (find_row kind f k)
unfolding find_row jump_to
same_row (Labelled v) f xs (n, checked, index) k =
    let (rows, accepted, is) = (index_check_is_exact v f xs).0 index in
    ap (λ (ys : List ℕ). labelled_jump.jump_to v f ys k) is ∙ labelled.jump_is_read v f rows accepted k
same_row Waveform f xs h k = fixed.jump_is_read waveform waveform_rows.takes_bytes f k ∙ sym (mapped_same (fixed_read.find_row waveform f k))
same_row (Bursts first) f xs h k =
    fixed.jump_is_read (bursts first) (burst_rows.takes_bytes first) f k ∙ sym (mapped_same (fixed_read.find_row (bursts first) f k))

-- a window of what is kept of a row is what is kept of the window
window_of_kept : (kind : Kind) (a c : ℕ) (o : Outcome Shown) → and_then (mapped (kept_of kind) o) (window_in a c) ≡ mapped (kept_of kind) (and_then o (window_in a c))
window_of_kept (Labelled v) a c o = window_without_depth a c o
window_of_kept Waveform a c o = ap (λ (x : Outcome Shown). and_then x (window_in a c)) (mapped_same o) ∙ sym (mapped_same (and_then o (window_in a c)))
window_of_kept (Bursts first) a c o = ap (λ (x : Outcome Shown). and_then x (window_in a c)) (mapped_same o) ∙ sym (mapped_same (and_then o (window_in a c)))

-- so the jump answers as reading does, and tells of the address what it keeps
pub jumps_as_read : (kind : Kind) (f xs : List ℕ) → Supposed kind f xs → (k a c : ℕ) → jump_row kind f xs k a c ≡ mapped (kept_of kind) (read_row kind f k a c)
unfolding read_row jump_row
jumps_as_read kind f xs h k a c = ap (λ (o : Outcome Shown). and_then o (window_in a c)) (same_row kind f xs h k) ∙ window_of_kept kind a c (find_row kind f k)

kept_is_same : (kind : Kind) (o : Outcome Shown) → SameAnswer (mapped (kept_of kind) o) o
kept_is_same (Labelled v) o = same_without_depth o
kept_is_same Waveform o = subst (λ (x : Outcome Shown). SameAnswer x o) (sym (mapped_same o)) (same_answer o)
kept_is_same (Bursts first) o = subst (λ (x : Outcome Shown). SameAnswer x o) (sym (mapped_same o)) (same_answer o)

-- the window of demand 2's row
reads_the_window : (kind : Kind) (f : List ℕ) (k a c : ℕ) → read_row kind f k a c ≡ and_then (row_of kind f k) (window_in a c)
unfolding read_row
reads_the_window kind f k a c = ap (λ (o : Outcome Shown). and_then o (window_in a c)) (reads_the_rows kind f k)

-- what is shown
shows_the_window : (kind : Kind) (f : List ℕ) (k a c : ℕ) (window : Shown) → read_row kind f k a c ≡ answer window → ShowsWindow kind f k a c window
unfolding read_row
shows_the_window kind f k a c window e =
    let (row, found, fitted) = first_answered (find_row kind f k) (window_in a c) window e in
    let s = shown_is_inside row a c window fitted in
    let same : shown_bytes f window ≡ bytes_at f (row.part.place + a) c = ap₂ (bytes_at f) s.place s.count in
    let inside = row_inside kind f k row found in
    record {
      row = row;
      is_row = sym (reads_the_rows kind f k) ∙ found;
      place = s.place;
      count = s.count;
      address = s.address;
      bytes = same ∙ window_of_the_row f row.part.place row.part.count a c s.inside;
      size =
          ap length same
          ∙ length-take-le c (drop (row.part.place + a) f) (omega (arith, length-drop (row.part.place + a) f, inside, s.inside.begins, s.inside.ends));
      behind = λ i h. ap (λ (bs : List ℕ). get_or bs i 0) same ∙ get_or-take c (drop (row.part.place + a) f) i 0 h ∙ get_or-drop (row.part.place + a) f i 0;
    }

pub demand_3 : (kind : Kind) (f xs : List ℕ) → Supposed kind f xs → (k a c : ℕ) → Demand3 kind f xs k a c
demand_3 kind f xs h k a c = record {
  same = subst (λ (o : Outcome Shown). SameAnswer o (read_row kind f k a c)) (sym (jumps_as_read kind f xs h k a c)) (kept_is_same kind (read_row kind f k a c));
  reads = reads_the_window kind f k a c;
  shows = shows_the_window kind f k a c;
  reading_fills = reading_fills kind f k a c;
  jump_fills = jump_fills kind f xs k a c;
}
