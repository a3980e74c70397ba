-- The house record, in which an index is kept (document 01, "Kept form": "a four-byte length of all that follows it, a two-byte kind ..,
-- then four bytes for each entry, all little-endian"; document 02, item 9: "the same house record, with four bytes of row count before
-- the entries"). It is written over its kind and over the bytes that stand between the kind and the entries. Its reader gives 13, then 8.
use Rattle.std.specs.Prelude.{ℕ, zero, suc, ◌+◌, ◌-◌, ◌/◌, ◌%◌, Bool, cond, ◌&&◌, List, [], ◌∷◌, ◌++◌, length, take, drop, leb, eqb}
use Rattle.answer.specs.Outcome.{Outcome, answer, need, and_then}
use Rattle.answer.specs.Window.{bytes_at}
use Rattle.little.specs.LittleEndian.{le, le_number}

-- four bytes for each entry
abbrev pub entry_bytes : List ℕ → List ℕ
entry_bytes [] = []
entry_bytes (x ∷ xs) = le 4 x ++ entry_bytes xs

-- the length of all that follows it, the kind, and the rest
abbrev pub house_record : ℕ → List ℕ → List ℕ
house_record kind body = le 4 (2 + length body) ++ (le 2 kind ++ body)

-- a list kept in the record of this kind, with these bytes between the kind and the entries
unfoldable pub kept_as : ℕ → List ℕ → List ℕ → List ℕ
kept_as kind between xs = house_record kind (between ++ entry_bytes xs)

-- what is written where there is room for so many numbers; else 8
abbrev pub in_room : ℕ → List ℕ → Outcome (List ℕ)
in_room room w = need (leb (length w) room) 8 (answer w)

-- the number in the four bytes from a place on; 0 where not all four are there
abbrev pub number_at : List ℕ → ℕ → ℕ
number_at s at = cond (leb (at + 4) (length s)) (le_number (bytes_at s at 4)) 0

-- so many entries, from the front of these bytes
abbrev pub entries_of : ℕ → List ℕ → List ℕ
entries_of zero s = []
entries_of (suc n) s = le_number (take 4 s) ∷ entries_of n (drop 4 s)

-- bytes are a record of this kind, whose entries begin at `first`: no fewer bytes than stand before the entries, the
-- right length, this kind, and no part of an entry
abbrev pub is_kept : ℕ → ℕ → List ℕ → Bool
is_kept kind first s =
    leb first (length s) && eqb (le_number (bytes_at s 0 4)) (length s - 4)
    && (eqb (le_number (bytes_at s 4 2)) kind && eqb ((length s - first) % 4) 0)

-- the list kept in a record of this kind; 13 where bytes are none
unfoldable pub read_as : ℕ → ℕ → List ℕ → Outcome (List ℕ)
read_as kind first s = need (is_kept kind first s) 13 (answer (entries_of ((length s - first) / 4) (drop first s)))

-- what a reader of records of this kind writes into a list with room for so many numbers: 13, then 8
unfoldable pub load_as : ℕ → ℕ → List ℕ → ℕ → Outcome (List ℕ)
load_as kind first s room = and_then (read_as kind first s) (in_room room)
