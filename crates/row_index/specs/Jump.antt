-- The jump to row k by a list (document 01: it "takes entry k div 16 and walks forward with no memory of depth"; 14, 6 for a
-- missing entry, 11 for one beyond the file's length, then 1 to 4 or 6 as the walk meets them). It is defined for any list.
use Rattle.std.specs.Prelude.{ℕ, ◌/◌, ◌%◌, List, length, get_or, ltb, leb}
use Rattle.answer.specs.Outcome.{Outcome, answer, need, and_then}
use Rattle.answer.specs.Size.{of_file}
use Rattle.answer.specs.declared.Shown.{Shown}
use Rattle.label.specs.declared.Versions.{Versions}
use Rattle.walk.specs.Walk.{row_at_leaf, walk_from}
use Rattle.row_index.specs.Index.{group_size}

-- the entry of row k's group of sixteen: 6 where it is missing, 11 where it is beyond the file's length
abbrev pub entry_for : List ℕ → List ℕ → ℕ → Outcome ℕ
entry_for f xs k =
    need (ltb (k / group_size) (length xs)) 6
    (need (leb (get_or xs (k / group_size) 0) (length f)) 11 (answer (get_or xs (k / group_size) 0)))

-- the row, whole, where these versions of the label are allowed
unfoldable pub jump_to : Versions → List ℕ → List ℕ → ℕ → Outcome Shown
jump_to versions f xs k =
    of_file f
    (and_then (entry_for f xs k) (λ entry. and_then (walk_from versions f entry (k % group_size)) row_at_leaf))
