-- Going on from a place (our own rule, docs/DECISIONS.md, "Going on"): the check's refusals, then 6 for a place where no row
-- starts; else the row that starts there.
use Rattle.std.specs.Prelude.{ℕ, ◌-◌, ◌%◌, Bool, ◌&&◌, List, length, leb, ltb, eqb}
use Rattle.answer.specs.Outcome.{Outcome, answer, need, and_then, mapped}
use Rattle.answer.specs.declared.Shown.{Shown}
use Rattle.fixed_rows.specs.Shape.{Shape, step, row_at}
use Rattle.fixed_rows.specs.Check.{row_count}

-- a row starts there: not in front of the first place, not at the end of the bytes or past it, and whole rows after the first place
abbrev pub starts : (first step bytes : ℕ) → ℕ → Bool
starts first step bytes from = leb first from && (ltb from bytes && eqb ((from - first) % step) 0)

abbrev pub start_from : (first step : ℕ) → List ℕ → ℕ → Outcome ℕ
start_from first step f from = and_then (row_count first step f) (λ rows. need (starts first step (length f) from) 6 (answer from))

abbrev pub row_from : Shape → List ℕ → ℕ → Outcome Shown
row_from s f from = mapped (row_at s) (start_from s.first (step s) f from)
