-- Joined rolls (document 02, item 10): "two accepted files set end to end", `a ++ b`; the rows of such a file; and its index "from the two
-- files and their indexes, with no joined file built". One choice of versions holds for both files.
use Rattle.std.specs.Prelude.{ℕ, ◌+◌, ◌-◌, ◌*◌, List, ◌++◌, map, length}
use Rattle.answer.specs.Outcome.{Outcome, and_then}
use Rattle.answer.specs.Size.{of_file}
use Rattle.label.specs.declared.Versions.{Versions}
use Rattle.sfdu.specs.Row.{Row}
use Rattle.sfdu.specs.Forest.{Forest, done, leaf, group}
use Rattle.row_index.specs.Index.{group_size, index_of, build_index, check_index}

-- a row behind so many bytes: its label, so its value too, and its outermost object stand so many places further on; its depth is the same
abbrev pub moved_by : ℕ → Row → Row
moved_by n r = record { label = n + r.label; size = r.size; depth = r.depth; outermost = n + r.outermost }

-- "the rows are those of the first and then those of the second, whose places grow by the first file's length"
abbrev pub joined_rows : (first : List ℕ) → (rows more : List Row) → List Row
joined_rows first rows more = rows ++ map (moved_by (length first)) more

-- the objects of one file and then those of another
abbrev pub beside : Forest → Forest → Forest
beside done G = G
beside (leaf label value rest) G = leaf label value (beside rest G)
beside (group label inside rest) G = group label inside (beside rest G)

-- how many rows the last group of sixteen lacks
abbrev pub lacking : List Row → ℕ
lacking rows = group_size * length (index_of rows) - length rows

-- The rows whose index is written into a list with room for so many entries: "14 when the sum is too long, before all others; faults of
-- the first file and 11 for its index; the same for the second, places counted in its own file; 8". It is the index that is built from the
-- joined file; that nothing but 8 is left to refuse there is a theorem (`Joining`).
unfoldable pub join_index : Versions → (first index second other : List ℕ) → ℕ → Outcome (List Row)
join_index versions first index second other room =
    of_file (first ++ second)
    (and_then (check_index versions first index)
    (λ _. and_then (check_index versions second other)
    (λ _. build_index versions (first ++ second) room)))
