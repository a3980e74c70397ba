-- Reading a window of a row from the first byte, and jumping to it, over the kinds of file (document 01: labelled files
-- "14, any fault, 6, 7" and "14, 6 for a missing entry, 11, then 1 to 4 or 6 as met, 7"; waveform files 14, 12, 6, 7; document 02,
-- item 1: bursts 14, 16, 12, 6, 7). The two ways to the row are each kind's own; the window comes after.
use Rattle.std.specs.Prelude.{ℕ, List}
use Rattle.answer.specs.Outcome.{Outcome, and_then}
use Rattle.answer.specs.Window.{window_in}
use Rattle.answer.specs.Address.{without_depth}
use Rattle.answer.specs.declared.Shown.{Shown}
use Rattle.sfdu.specs.Find as labelled_read
use Rattle.walk.specs.Walk.{row_at_leaf, walk_from}
use Rattle.row_index.specs.Jump as labelled_jump
use Rattle.fixed_rows.specs.Read as fixed_read
use Rattle.fixed_rows.specs.Jump as fixed_jump
use Rattle.fixed_rows.specs.From as fixed_from
use Rattle.waveform.specs.Rows.{waveform}
use Rattle.bursts.specs.Rows.{bursts}
use Rattle.reader.specs.declared.Kind.{Kind}
use Rattle.reader.specs.declared.Kind.TheVariants.{Labelled, Waveform, Bursts}

-- the row, found from the first byte with no index
unfoldable pub find_row : Kind → List ℕ → ℕ → Outcome Shown
find_row (Labelled versions) f k = labelled_read.find_row versions f k
find_row Waveform f k = fixed_read.find_row waveform f k
find_row (Bursts first) f k = fixed_read.find_row (bursts first) f k

-- the row, jumped to; only a labelled file needs a list
unfoldable pub jump_to : Kind → List ℕ → List ℕ → ℕ → Outcome Shown
jump_to (Labelled versions) f xs k = labelled_jump.jump_to versions f xs k
jump_to Waveform f xs k = fixed_jump.jump_to waveform f k
jump_to (Bursts first) f xs k = fixed_jump.jump_to (bursts first) f k

-- reading from the first byte
unfoldable pub read_row : Kind → List ℕ → ℕ → ℕ → ℕ → Outcome Shown
read_row kind f k a c = and_then (find_row kind f k) (window_in a c)

-- the jump
unfoldable pub jump_row : Kind → List ℕ → List ℕ → ℕ → ℕ → ℕ → Outcome Shown
jump_row kind f xs k a c = and_then (jump_to kind f xs k) (window_in a c)

-- Going on (docs/DECISIONS.md): the first whole row from a place on; 14, 16 and 12 where the kind has them, 6 for a place past the end or
-- where no row can start, else what the walk meets.
unfoldable pub row_from : Kind → List ℕ → ℕ → Outcome Shown
row_from (Labelled versions) f from = and_then (walk_from versions f from 0) row_at_leaf
row_from Waveform f from = fixed_from.row_from waveform f from
row_from (Bursts first) f from = fixed_from.row_from (bursts first) f from

-- where going on begins: the place from which the first row is row 0
abbrev pub beginning : Kind → ℕ
beginning (Labelled versions) = 0
beginning Waveform = 0
beginning (Bursts first) = first

-- what the jump and going on know of a row: all of a row that has no label; of a labelled one all but its depth and its outermost
-- object (document 02, item 8: "The jump in a labelled file keeps no depth")
abbrev pub kept_of : Kind → Shown → Shown
kept_of (Labelled versions) = without_depth
kept_of Waveform = λ row. row
kept_of (Bursts first) = λ row. row
