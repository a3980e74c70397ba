-- Several rolls (document 02, item 10: "joining is associative" and "the empty file changes nothing"): of the bytes, of the rows, and of the
-- index as the call gives it. For every choice of versions, one throughout.
use Rattle.std.specs.Prelude.{ℕ, ◌≤◌, ◌≡◌, List, [], ◌++◌, length}
use Rattle.answer.specs.Outcome.{answer, mapped}
use Rattle.label.specs.declared.Versions.{Versions}
use Rattle.sfdu.specs.Row.{Row}
use Rattle.sfdu.specs.Check.{rows_of_file}
use Rattle.row_index.specs.Index.{index_of, check_index}
use Rattle.joined.specs.Joined.{joined_rows, join_index}

pub record Rolls (versions : Versions) : Type 0 where
  -- three files, either pair joined first: the same bytes, the same rows
  pub same_file : (a b c : List ℕ) → (a ++ b) ++ c ≡ a ++ (b ++ c)
  pub same_rows : (a b : List ℕ) (rows more last : List Row)
      → joined_rows (a ++ b) (joined_rows a rows more) last ≡ joined_rows a rows (joined_rows b more last)
  -- and the same index: `u` and `v` are what the call gave of either pair
  pub same_index : (a xs b ys c zs u v : List ℕ) (r s room : ℕ)
      → mapped index_of (join_index versions a xs b ys r) ≡ answer u
      → mapped index_of (join_index versions b ys c zs s) ≡ answer v
      → join_index versions (a ++ b) u c zs room ≡ join_index versions a xs (b ++ c) v room
  -- the empty file is accepted, has no rows and an index without entries
  pub empty_file : (rows_of_file versions [] ≡ answer []) × (check_index versions [] [] ≡ answer tt)
  -- on either side of a file it changes nothing: not the bytes, not the rows, not the index
  pub nothing_before : (a : List ℕ) (rows : List Row) → ([] ++ a ≡ a) × (joined_rows [] [] rows ≡ rows)
  pub nothing_behind : (a : List ℕ) (rows : List Row) → (a ++ [] ≡ a) × (joined_rows a rows [] ≡ rows)
  pub same_index_either_side : (a xs : List ℕ) (room : ℕ) → check_index versions a xs ≡ answer tt → length xs ≤ room
      → (mapped index_of (join_index versions [] [] a xs room) ≡ answer xs) × (mapped index_of (join_index versions a xs [] [] room) ≡ answer xs)
