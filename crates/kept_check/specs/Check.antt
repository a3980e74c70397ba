-- A kept index with its file at hand (document 02, item 9: "Convert kind 1 to kind 2 with the file at hand"; "A check, lent the file,
-- accepts kind 2 exactly when its list is the file's index and its count the file's row count"; 11 "when the file does not bear out
-- the entries or the count, after 13; then 8"). Both are told which versions of the label are allowed (item 11).
use Rattle.std.specs.Prelude.{ℕ, Bool, ◌&&◌, List, length, eqb}
use Rattle.answer.specs.Outcome.{Outcome, answer, need, and_then}
use Rattle.label.specs.declared.Versions.{Versions}
use Rattle.sfdu.specs.Row.{Row}
use Rattle.sfdu.specs.Check.{rows_of_file}
use Rattle.row_index.specs.Index.{index_of, same}
use Rattle.house_record.specs.Record.{in_room}
use Rattle.kept.specs.Kept.{read_kept}
use Rattle.kept_rows.specs.Kind2.{Counted, kept_form2, read_kept2}

-- what kind 2 keeps of a file with these rows
abbrev pub counted_of : List Row → Counted
counted_of rows = record { rows = length rows; list = index_of rows }

-- the list is the index of a file with these rows, and the count is how many they are
abbrev pub bears_out : List Row → Counted → Bool
bears_out rows k = same k.list (index_of rows) && eqb k.rows (length rows)

-- which versions of the label are allowed
module _ (versions : Versions) where
  -- a record of kind 1 as one of kind 2, with the file's row count, into `room` bytes: 14, faults, 13, 11, 8
  unfoldable pub to_kind2 : List ℕ → List ℕ → ℕ → Outcome (List ℕ)
  to_kind2 f s room =
      and_then (rows_of_file versions f)
      (λ rows. and_then (read_kept s)
      (λ xs. need (same xs (index_of rows)) 11 (in_room room (kept_form2 (record { rows = length rows; list = xs })))))

  -- a record of kind 2 is this file's: 14, faults, 13, 11
  unfoldable pub check_kept2 : List ℕ → List ℕ → Outcome Unit
  check_kept2 f s =
      and_then (rows_of_file versions f)
      (λ rows. and_then (read_kept2 s) (λ k. need (bears_out rows k) 11 (answer tt)))
