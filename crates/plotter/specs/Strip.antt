-- Strips (document 02, item 7: "A strip, of a file of any kind, is a first row, a number of rows and one window; its row y, counted from 0, is
-- line y"). The drawing takes the rows from any function of their numbers, so that it serves every way to a row.
use Rattle.std.specs.Prelude.{ℕ, ◌*◌, List, [], ◌∷◌, map, leb}
use Rattle.answer.specs.Outcome.{Outcome, answer, need, and_then, mapped}
use Rattle.answer.specs.Window.{window_in}
use Rattle.answer.specs.declared.Shown.{Shown}
use Rattle.std.specs.List.{range_with_len}
use Rattle.dot_lines.specs.Line.{line_bytes, lines}
use Rattle.reader.specs.Rows.{check_file, row_of}
use Rattle.reader.specs.Demand3.{shown_bytes}
use Rattle.reader.specs.declared.Kind.{Kind}

-- the answer for each of a list, or the first refusal
abbrev pub each_of : {A B : Type 0} → (A → Outcome B) → List A → Outcome (List B)
each_of f [] = answer []
each_of f (x ∷ xs) = and_then (f x) (λ y. mapped (λ ys. y ∷ ys) (each_of f xs))

-- the windows of n rows from a first one on: the refusal of the first row that has one, "6 if any row of the strip is missing, then 7 if it
-- fails to fit some row"
unfoldable pub windows_of : (ℕ → Outcome Shown) → ℕ → ℕ → ℕ → ℕ → Outcome (List Shown)
windows_of row first n a c = and_then (each_of row (range_with_len first n)) (each_of (window_in a c))

-- their lines, the first of them line y, "then 8"
unfoldable pub draw_into : ℕ → List ℕ → (ℕ → Outcome Shown) → ℕ → ℕ → ℕ → ℕ → ℕ → Outcome (List ℕ)
draw_into room f row first n a c y =
    and_then (windows_of row first n a c) (λ windows. need (leb (n * line_bytes c) room) 8 (answer (lines y (map (shown_bytes f) windows))))

-- the strip of a file: "Refusals: those of reading that kind of file from the first byte, in their order"; its rows are demand 2's
unfoldable pub strip_into : ℕ → Kind → List ℕ → ℕ → ℕ → ℕ → ℕ → Outcome (List ℕ)
strip_into room kind f first n a c = and_then (check_file kind f) (λ rows. draw_into room f (row_of kind f) first n a c 0)
