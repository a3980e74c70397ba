-- The kept form of an index (document 01, "Kept form": a house record with "a two-byte kind equal to 1"; its writer gives 14, then 8,
-- its reader 13, then 8).
use Rattle.std.specs.Prelude.{ℕ, List, [], length, leb}
use Rattle.answer.specs.Outcome.{Outcome, need}
use Rattle.house_record.specs.Record.{kept_as, in_room, read_as, load_as}

-- kind 1: nothing stands between the kind and the entries
abbrev pub kept_form : List ℕ → List ℕ
kept_form xs = kept_as 1 [] xs

-- what the writer writes into `room` bytes: 14 for more than 1,073,741,823 entries, then 8
unfoldable pub keep_index : List ℕ → ℕ → Outcome (List ℕ)
keep_index xs room = need (leb (length xs) 1073741823) 14 (in_room room (kept_form xs))

-- kind 1: the entries begin after the six bytes of the length and the kind
abbrev pub read_kept : List ℕ → Outcome (List ℕ)
read_kept s = read_as 1 6 s

-- what the reader writes into a list with room for so many numbers: 13, then 8
abbrev pub load_kept : List ℕ → ℕ → Outcome (List ℕ)
load_kept s room = load_as 1 6 s room
