-- The listing of a whole file as one text (document 01, "The list program": "It reads a labelled file of at most 65,536 bytes
-- from standard input; more gives refusal 14. It prints `rows N`, then for each row .. A refusal prints .. alone"; document 02, item
-- 11: "The list program allows version 1 only").
use Rattle.std.specs.Prelude.{ℕ, suc, ◌+◌, ◌≤◌, ◌≡◌, List, [], ◌∷◌, ◌++◌, length, take, leb}
use Rattle.answer.specs.Outcome.{Outcome, answer, refuse, need}
use Rattle.label.specs.declared.Versions.TheVariants.{One}
use Rattle.label.specs.Head.{four_at}
use Rattle.label.specs.Length.{spaces_at}
use Rattle.sfdu.specs.Row.{Row, value_at}
use Rattle.sfdu.specs.Check.{rows_of_file, counting}
use Rattle.listing.specs.Line.{head_text, row_text}

-- the largest file that is listed
abbrev pub largest_listed : ℕ
largest_listed = 65536

-- the rows of a file that is listed: 14, then the faults of the file
unfoldable pub rows_listed : List ℕ → Outcome (List Row)
rows_listed f = need (leb (length f) largest_listed) 14 (rows_of_file One f)

-- a row's line: the place of its value, its length, and of its label the description, bytes 8-11, and the spaces
abbrev pub line_of : List ℕ → ℕ → Row → List ℕ
line_of f number r = row_text number (value_at r) r.size (four_at f (r.label + 8)) (spaces_at f r.label)

-- the lines of these rows in order, the first with this number
abbrev pub lines_from : List ℕ → ℕ → List Row → List ℕ
lines_from f number [] = []
lines_from f number (r ∷ rs) = line_of f number r ++ lines_from f (suc number) rs

-- the lines after the first: none where the file is refused
abbrev pub row_lines : List ℕ → Outcome (List Row) → List ℕ
row_lines f (answer rows) = lines_from f 0 rows
row_lines f (refuse n p) = []

-- the listing: the first line, then the rows' lines
unfoldable pub listing_of : List ℕ → List ℕ
listing_of f = head_text (counting (rows_listed f)) ++ row_lines f (rows_listed f)

-- so many bytes at the front of lent memory: what lending them on, `&memory[..size]`, asks
abbrev pub Front : ℕ → List ℕ → Type 0
Front size memory = (size ≤ length memory) × (size ≡ length (take size memory))
