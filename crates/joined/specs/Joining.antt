-- What document 02, item 10, asks of two accepted files with these rows, whose "sum is within the size limit": the joined file, its rows
-- and its index. For every choice of versions, one throughout.
use Rattle.std.specs.Prelude.{ℕ, ◌+◌, ◌≡◌, List, ◌++◌, map, length, leb}
use Rattle.answer.specs.Outcome.{answer, need}
use Rattle.label.specs.declared.Versions.{Versions}
use Rattle.sfdu.specs.Row.{Row, value_at, row_bytes}
use Rattle.sfdu.specs.Forest.{Forest, encode, Valid}
use Rattle.sfdu.specs.Check.{rows_of_file}
use Rattle.row_index.specs.Index.{every, index_of, build_index, check_index}
use Rattle.joined.specs.Joined.{moved_by, joined_rows, beside, lacking, join_index}

pub record Joining (versions : Versions) (a b : List ℕ) (rows more : List Row) : Type 0 where
  -- the joined file is accepted, with these rows; of a row that moves, the value moves as the label does
  pub accepted : rows_of_file versions (a ++ b) ≡ answer (joined_rows a rows more)
  pub values_move : (r : Row) → value_at (moved_by (length a) r) ≡ length a + value_at r
  -- the rows have the bytes that they had
  pub same_bytes : map (row_bytes (a ++ b)) (joined_rows a rows more) ≡ map (row_bytes a) rows ++ map (row_bytes b) more
  -- it divides into the objects of the first and then those of the second
  pub divides : (F G : Forest) → Valid versions 8 F → encode F ≡ a → Valid versions 8 G → encode G ≡ b
      → Valid versions 8 (beside F G) × (encode (beside F G) ≡ a ++ b)
  -- its index: the first file's, and every sixteenth row of the second behind those that fill the last group of the first
  pub index : index_of (joined_rows a rows more) ≡ index_of rows ++ map (λ place. length a + place) (every (lacking rows) more)
  -- from both indexes: what is built from the joined file, of which 8 is all that is left to refuse; and the index check accepts it
  pub is_built : (room : ℕ) → join_index versions a (index_of rows) b (index_of more) room ≡ build_index versions (a ++ b) room
  pub room_alone : (room : ℕ) → build_index versions (a ++ b) room
      ≡ need (leb (length (index_of (joined_rows a rows more))) room) 8 (answer (joined_rows a rows more))
  pub is_checked : check_index versions (a ++ b) (index_of (joined_rows a rows more)) ≡ answer tt
