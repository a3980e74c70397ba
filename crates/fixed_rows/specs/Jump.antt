-- The jump to row k (document 01, "The label", the paragraph on rows: "the jump computes the place"; document 02, item 1: "a jump is the
-- first place plus a multiple"): the check's refusals, then 6. Nothing is passed: the place comes from the row's number alone.
use Rattle.std.specs.Prelude.{ℕ, ◌+◌, ◌*◌, List, ltb}
use Rattle.answer.specs.Outcome.{Outcome, answer, need, and_then, mapped}
use Rattle.answer.specs.declared.Shown.{Shown}
use Rattle.fixed_rows.specs.Shape.{Shape, step, row_at}
use Rattle.fixed_rows.specs.Check.{row_count}

-- the row's number, where there is such a row
abbrev pub row_numbered : (first step : ℕ) → List ℕ → ℕ → Outcome ℕ
row_numbered first step f k = and_then (row_count first step f) (λ rows. need (ltb k rows) 6 (answer k))

-- where row k starts
abbrev pub start_of : (first step : ℕ) → ℕ → ℕ
start_of first step k = first + step * k

abbrev pub jump_start : (first step : ℕ) → List ℕ → ℕ → Outcome ℕ
jump_start first step f k = mapped (start_of first step) (row_numbered first step f k)

-- row k
abbrev pub jump_to : Shape → List ℕ → ℕ → Outcome Shown
jump_to s f k = mapped (row_at s) (jump_start s.first (step s) f k)
