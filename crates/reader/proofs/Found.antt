-- Rows that were found lie inside the file.
use Prim.Native.Nat.{ℕ, ◌+◌, ◌≤◌, ◌<◌}
use mathlib.Core.Path.{◌≡◌, ◌∙◌, sym, ap, subst}
use mathlib.Core.List.{List}
use lib.ListN.{length}
use lib.Dec.{leb}
use Rattle.answer.specs.Outcome.{answer, and_then, mapped}
use Rattle.answer.specs.Nth.{nth}
use Rattle.answer.specs.Address.{without_depth}
use Rattle.answer.specs.Size.{largest_file}
use Rattle.answer.specs.declared.Shown.{Shown}
use Rattle.answer.proofs.Outcomes.{first_answered, answer_injective, passed}
use Rattle.label.specs.declared.Versions.{Versions}
use Rattle.sfdu.specs.Row.{whole}
use Rattle.sfdu.specs.Check.{rows_of_file}
use Rattle.sfdu.specs.Find as labelled
use Rattle.walk.specs.Walk.{row_at_leaf, walk_from}
use Rattle.walk.proofs.Finding.{walk_from_inside, walk_finds_the_row}
use Rattle.walk.proofs.WalkReads.{found_ends_inside}
use Rattle.row_index.specs.Jump.{entry_for}
use Rattle.row_index.specs.Jump as labelled_jump
use Rattle.fixed_rows.specs.Shape.{Shape, step}
use Rattle.fixed_rows.specs.Jump as fixed
use Rattle.fixed_rows.proofs.Rows as fixed_rows
use Rattle.fixed_rows.proofs.JumpIsRead as fixed_jump
use Rattle.waveform.specs.Rows.{waveform}
use Rattle.waveform.proofs.Rows as waveform_rows
use Rattle.bursts.specs.Rows.{bursts}
use Rattle.bursts.proofs.Rows as burst_rows
use Rattle.reader.specs.declared.Kind.{Kind}
use Rattle.reader.specs.declared.Kind.TheVariants.{Labelled, Waveform, Bursts}
use Rattle.reader.specs.Read.{find_row, jump_to}

-- the value that a walk came to ends inside the file
walked_inside : (v : Versions) (f : List ℕ) (from k : ℕ) (p : Shown) → and_then (walk_from v f from k) row_at_leaf ≡ answer p → p.part.place + p.part.count ≤ length f
walked_inside v f from k p e =
    let q = first_answered (walk_from v f from k) row_at_leaf p e in
    let h = found_ends_inside v f from k q.0 (walk_from_inside v f from k q.0 q.1) in
    subst (λ (r : Shown). r.part.place + r.part.count ≤ length f) (answer_injective q.2) h

-- a row that reading found
pub row_inside : (kind : Kind) (f : List ℕ) (k : ℕ) (p : Shown) → find_row kind f k ≡ answer p → p.part.place + p.part.count ≤ length f
unfolding find_row labelled.find_row
row_inside (Labelled v) f k p e =
    let (rows, accepted, is) = first_answered (rows_of_file v f) (λ rs. mapped whole (nth rs k)) p e in
    walked_inside v f 0 k (without_depth p) (walk_finds_the_row v f rows accepted k ∙ ap (mapped without_depth) e)
row_inside Waveform f k p e = fixed_rows.row_inside waveform waveform_rows.takes_bytes f k p e
row_inside (Bursts first) f k p e = fixed_rows.row_inside (bursts first) (burst_rows.takes_bytes first) f k p e

-- a row of one size that the jump came to
jump_inside : (s : Shape) → 0 < step s → (f : List ℕ) (k : ℕ) (p : Shown) → fixed.jump_to s f k ≡ answer p → p.part.place + p.part.count ≤ length f
jump_inside s some f k p e = fixed_rows.row_inside s some f k p (sym (fixed_jump.jump_is_read s some f k) ∙ e)

-- and one that the jump came to, by any list
pub jumped_inside : (kind : Kind) (f xs : List ℕ) (k : ℕ) (p : Shown) → jump_to kind f xs k ≡ answer p → p.part.place + p.part.count ≤ length f
unfolding jump_to labelled_jump.jump_to
jumped_inside (Labelled v) f xs k p e =
    let q = (passed 0 (leb (length f) largest_file) 14 _ p e).1 in
    let r = first_answered (entry_for f xs k) _ p q in
    walked_inside v f r.0 _ p r.2
jumped_inside Waveform f xs k p e = jump_inside waveform waveform_rows.takes_bytes f k p e
jumped_inside (Bursts first) f xs k p e = jump_inside (bursts first) (burst_rows.takes_bytes first) f k p e
