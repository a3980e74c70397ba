-- Which parts of an address are filled: all of them by reading, for any bytes; and by the jump, for any bytes and any list, the
-- label's place alone in a labelled file, and all of them in the others.
use Prim.Native.Nat.{ℕ}
use mathlib.Core.Path.{◌≡◌, sym, subst}
use mathlib.Core.List.{List}
use lib.ListN.{length}
use lib.Dec.{leb}
use Rattle.answer.specs.Outcome.{Outcome, answer, and_then, mapped}
use Rattle.answer.specs.Nth.{nth}
use Rattle.answer.specs.Size.{largest_file}
use Rattle.answer.specs.Window.{window_in}
use Rattle.answer.specs.declared.Address.{Address}
use Rattle.answer.specs.declared.Shown.{Shown}
use Rattle.answer.proofs.Outcomes.{first_answered, mapped_answer, answer_injective, passed}
use Rattle.answer.proofs.Windows.{shown_is_inside}
use Rattle.label.specs.declared.Versions.{Versions}
use Rattle.sfdu.specs.Row.{whole}
use Rattle.sfdu.specs.Check.{rows_of_file}
use Rattle.sfdu.specs.Find as labelled
use Rattle.walk.specs.Walk.{row_at_leaf, walk_from}
use Rattle.row_index.specs.Jump.{entry_for}
use Rattle.row_index.specs.Jump as labelled_jump
use Rattle.fixed_rows.specs.Shape.{Shape, step, row_at}
use Rattle.fixed_rows.specs.Read.{read_start}
use Rattle.fixed_rows.specs.Jump.{jump_start}
use Rattle.waveform.specs.Rows.{waveform}
use Rattle.bursts.specs.Rows.{bursts}
use Rattle.reader.specs.declared.Kind.{Kind}
use Rattle.reader.specs.declared.Kind.TheVariants.{Labelled, Waveform, Bursts}
use Rattle.reader.specs.Read.{find_row, jump_to, read_row, jump_row}
use Rattle.reader.specs.Demand3.{AllFilled, LabelFilled, JumpFills}

-- the address of a window is the row's
window_fills : (P : Address → Type 0) (o : Outcome Shown) (a c : ℕ) (window : Shown) → ((row : Shown) → o ≡ answer row → P row.address)
    → and_then o (window_in a c) ≡ answer window → P window.address
window_fills P o a c window of_the_row e =
    let (row, found, fitted) = first_answered o (window_in a c) window e in
    subst P (sym (shown_is_inside row a c window fitted).address) (of_the_row row found)

-- a row without a label
fixed_fills : (s : Shape) (o : Outcome ℕ) (row : Shown) → mapped (row_at s) o ≡ answer row → AllFilled row.address
fixed_fills s o row e =
    let (start, found, is) = mapped_answer (row_at s) o row e in
    subst (λ (r : Shown). AllFilled r.address) is (record { label = tt; depth = tt; outermost = tt })

-- a row of a labelled file, read
labelled_fills : (v : Versions) (f : List ℕ) (k : ℕ) (row : Shown) → labelled.find_row v f k ≡ answer row → AllFilled row.address
unfolding labelled.find_row
labelled_fills v f k row e =
    let (rows, found, is) = first_answered (rows_of_file v f) (λ rs. mapped whole (nth rs k)) row e in
    let (r, there, it-is) = mapped_answer whole (nth rows k) row is in
    subst (λ (x : Shown). AllFilled x.address) it-is (record { label = tt; depth = tt; outermost = tt })

-- and jumped to
labelled_jump_fills : (v : Versions) (f xs : List ℕ) (k : ℕ) (row : Shown) → labelled_jump.jump_to v f xs k ≡ answer row → LabelFilled row.address
unfolding labelled_jump.jump_to
labelled_jump_fills v f xs k row e =
    let (entry, found, walks) = first_answered (entry_for f xs k) _ row (passed 0 (leb (length f) largest_file) 14 _ row e).1 in
    let (leaf, came, is) = first_answered (walk_from v f entry _) row_at_leaf row walks in
    subst (λ (x : Shown). LabelFilled x.address) (answer_injective is) (record { label = tt; depth = tt; outermost = tt })

-- a row of any kind, read; and jumped to
pub row_filled : (kind : Kind) (f : List ℕ) (k : ℕ) (row : Shown) → find_row kind f k ≡ answer row → AllFilled row.address
unfolding find_row
row_filled (Labelled v) f k row e = labelled_fills v f k row e
row_filled Waveform f k row e = fixed_fills waveform (read_start 0 (step waveform) f k) row e
row_filled (Bursts first) f k row e = fixed_fills (bursts first) (read_start first (step (bursts first)) f k) row e

jumped_filled : (kind : Kind) (f xs : List ℕ) (k : ℕ) (row : Shown) → jump_to kind f xs k ≡ answer row → JumpFills kind row.address
unfolding jump_to
jumped_filled (Labelled v) f xs k row e = labelled_jump_fills v f xs k row e
jumped_filled Waveform f xs k row e = fixed_fills waveform (jump_start 0 (step waveform) f k) row e
jumped_filled (Bursts first) f xs k row e = fixed_fills (bursts first) (jump_start first (step (bursts first)) f k) row e

pub reading_fills : (kind : Kind) (f : List ℕ) (k a c : ℕ) (window : Shown) → read_row kind f k a c ≡ answer window → AllFilled window.address
unfolding read_row
reading_fills kind f k a c window e = window_fills AllFilled (find_row kind f k) a c window (row_filled kind f k) e

pub jump_fills : (kind : Kind) (f xs : List ℕ) (k a c : ℕ) (window : Shown) → jump_row kind f xs k a c ≡ answer window → JumpFills kind window.address
unfolding jump_row
jump_fills kind f xs k a c window e = window_fills (JumpFills kind) (jump_to kind f xs k) a c window (jumped_filled kind f xs k) e
