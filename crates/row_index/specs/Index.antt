-- The index of a labelled file (document 01: "one entry for each started group of 16 rows: the place of the label of rows 0,
-- 16, 32 and so on"), its builder (14, faults, 8) and its check (14, faults, 11). Both are told which versions of the label are
-- allowed (document 02, item 11).
use Rattle.std.specs.Prelude.{ℕ, zero, suc, Bool, true, false, ◌&&◌, List, [], ◌∷◌, length, leb, eqb}
use Rattle.answer.specs.Outcome.{Outcome, answer, refuse, need, and_then}
use Rattle.label.specs.declared.Versions.{Versions}
use Rattle.sfdu.specs.Row.{Row}
use Rattle.sfdu.specs.Check.{rows_of_file}
use Rattle.walk.specs.declared.Leaf.{Leaf}
use Rattle.row_index.specs.declared.Built.{Built}

-- how many rows an entry stands for
abbrev pub group_size : ℕ
group_size = 16

-- the place of the label of every sixteenth row, after so many rows that are passed
abbrev pub every : ℕ → List Row → List ℕ
every n [] = []
every zero (r ∷ rs) = r.label ∷ every 15 rs
every (suc n) (r ∷ rs) = every n rs

-- the index of a file with these rows
abbrev pub index_of : List Row → List ℕ
index_of rows = every 0 rows

-- the rows whose index is written into a list with room for so many entries: 14, faults, 8
unfoldable pub build_index : Versions → List ℕ → ℕ → Outcome (List Row)
build_index versions f room = and_then (rows_of_file versions f) (λ rows. need (leb (length (index_of rows)) room) 8 (answer rows))

-- what the builder answers of these rows: how many entries, and how many rows
abbrev pub built_of : List Row → Built
built_of rows = record { entries = length (index_of rows); rows = length rows }

-- two lists are the same, entry for entry
abbrev pub same : List ℕ → List ℕ → Bool
same [] [] = true
same [] (y ∷ ys) = false
same (x ∷ xs) [] = false
same (x ∷ xs) (y ∷ ys) = eqb x y && same xs ys

-- the whole list is this file's index
unfoldable pub check_index : Versions → List ℕ → List ℕ → Outcome Unit
check_index versions f xs = and_then (rows_of_file versions f) (λ rows. need (same xs (index_of rows)) 11 (answer tt))

-- the place of the label that a walk came to, which an entry is; 0 where it came to none
abbrev pub place_found : Outcome Leaf → ℕ
place_found (answer x) = x.place
place_found (refuse n p) = 0
