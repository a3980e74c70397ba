-- The check of a file of rows of `step` bytes from the place `first` on (document 01, the table of refusals, 14 and 12; document 02,
-- item 1: "16 BADSTART, place 0, when the first place is beyond the file; 12 when the rest is no multiple"): the count of its rows.
use Rattle.std.specs.Prelude.{ℕ, ◌-◌, ◌/◌, ◌%◌, List, length, leb, eqb}
use Rattle.answer.specs.Outcome.{Outcome, answer, need}
use Rattle.answer.specs.Size.{of_file}
use Rattle.fixed_rows.specs.Shape.{Shape, step}

-- what is answered of a file with so many bytes from the first place on
abbrev pub whole_rows : ℕ → ℕ → Outcome ℕ
whole_rows step rest = need (eqb (rest % step) 0) 12 (answer (rest / step))

abbrev pub row_count : (first step : ℕ) → List ℕ → Outcome ℕ
row_count first step f = of_file f (need (leb first (length f)) 16 (whole_rows step (length f - first)))

-- of the rows of a shape
abbrev pub count_rows : Shape → List ℕ → Outcome ℕ
count_rows s f = row_count s.first (step s) f
