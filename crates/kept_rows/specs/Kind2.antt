-- Kind 2 of the kept form (document 02, item 9: "the same house record, with four bytes of row count before the entries"; "Its reader
-- answers the count and the list"; back to kind 1 without the file). 13 for bytes that are no record of kind 2, fewer than 10 among
-- them, then 8.
use Rattle.std.specs.Prelude.{ℕ, List, length}
use Rattle.answer.specs.Outcome.{Outcome, and_then, mapped}
use Rattle.answer.specs.Window.{bytes_at}
use Rattle.little.specs.LittleEndian.{le, le_number}
use Rattle.house_record.specs.Record.{kept_as, in_room, read_as, load_as}
use Rattle.kept.specs.Kept.{kept_form}
use Rattle.kept_rows.specs.declared.Loaded.{Loaded}

-- what a record of kind 2 keeps: how many rows the file has, and its index
pub record Counted : Type 0 where
  pub rows : ℕ
  pub list : List ℕ

-- kind 2: the row count stands between the kind and the entries
abbrev pub kept_form2 : Counted → List ℕ
kept_form2 k = kept_as 2 (le 4 k.rows) k.list

-- a list with the row count that these bytes have behind the length and the kind
abbrev pub with_rows : List ℕ → List ℕ → Counted
with_rows s xs = record { rows = le_number (bytes_at s 6 4); list = xs }

-- what a record of kind 2 keeps, its entries beginning at byte 10; 13 where bytes are none
abbrev pub read_kept2 : List ℕ → Outcome Counted
read_kept2 s = mapped (with_rows s) (read_as 2 10 s)

-- the same, read into a list with room for so many numbers: 13, then 8
abbrev pub load_kept2 : List ℕ → ℕ → Outcome Counted
load_kept2 s room = mapped (with_rows s) (load_as 2 10 s room)

-- what the reader writes of it, and what it answers
abbrev pub list_of : Counted → List ℕ
list_of k = k.list

abbrev pub loaded_of : Counted → Loaded
loaded_of k = record { rows = k.rows; entries = length k.list }

-- the same list as a record of kind 1, into `room` bytes: 13, then 8
unfoldable pub to_kind1 : List ℕ → ℕ → Outcome (List ℕ)
to_kind1 s room = and_then (read_kept2 s) (λ k. in_room room (kept_form k.list))
