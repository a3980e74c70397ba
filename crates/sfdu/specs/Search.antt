-- What the nested search of a file for row k comes to: the rows of the scan seen one after the other, counted, and row k marked when
-- its turn comes. What is said of it in the documents' words is said of the calls by it, `check_labelled` and `find_row`.
use Rattle.std.specs.Prelude.{ℕ, ◌+◌, ◌≤◌, cond, List, [], ◌∷◌, eqb, Option, Some, None}
use Rattle.answer.specs.Outcome.{Outcome, answer, refuse}
use Rattle.answer.specs.Size.{largest_file}
use Rattle.sfdu.specs.Row.{Row}
use Rattle.sfdu.specs.declared.Mark.{Mark}
use Rattle.sfdu.specs.declared.Seen.{Seen}

-- a row as the struct `Mark`, and back
abbrev pub mark_of : Row → Mark
mark_of r = record { label = r.label; size = r.size; depth = r.depth; outermost = r.outermost }

abbrev pub row_marked : Mark → Row
row_marked m = record { label = m.label; size = m.size; depth = m.depth; outermost = m.outermost }

-- what a search for row k has seen: before the first row, with one row more, and with these rows more
abbrev pub nothing_seen : Seen
nothing_seen = record { rows = 0; mark = None }

abbrev pub see_row : ℕ → Seen → Row → Seen
see_row k s r = record { rows = s.rows + 1; mark = cond (eqb s.rows k) (Some (mark_of r)) s.mark }

abbrev pub see_all : ℕ → Seen → List Row → Seen
see_all k s [] = s
see_all k s (r ∷ rs) = see_all k (see_row k s r) rs

-- a row that was marked has its label in front of a place, or there
abbrev pub MarkedBy : ℕ → Option Mark → Type 0
MarkedBy end (Some m) = m.label ≤ end
MarkedBy end None = Unit

-- what was seen was marked inside a file
abbrev pub MarksInside : Outcome Seen → Type 0
MarksInside (answer s) = MarkedBy largest_file s.mark
MarksInside (refuse n p) = Unit
