-- Reading row k from the first place on (document 01, "The label", the paragraph on rows: "Reading from the first byte passes 2,080 bytes
-- for each earlier row"; document 02, item 1: "reading passes record after record from the first place"). Nothing is multiplied: the
-- row is where the passing ends.
use Rattle.std.specs.Prelude.{ℕ, zero, suc, ◌+◌, List, [], ◌∷◌, drop}
use Rattle.answer.specs.Outcome.{Outcome, answer, refuse, and_then, mapped}
use Rattle.answer.specs.declared.Shown.{Shown}
use Rattle.fixed_rows.specs.Shape.{Shape, step, row_at}
use Rattle.fixed_rows.specs.Check.{row_count}

-- a row stands where bytes are left; where none are, refusal 6
abbrev pub if_any : List ℕ → Outcome ℕ → Outcome ℕ
if_any [] o = refuse 6 0
if_any (b ∷ bs) o = o

-- where row k of the bytes s starts, which stand from place `at` on
abbrev pub passing : (step : ℕ) → ℕ → ℕ → List ℕ → Outcome ℕ
passing step zero at s = if_any s (answer at)
passing step (suc k) at s = if_any s (passing step k (at + step) (drop step s))

-- where row k starts: the check's refusals, then 6
abbrev pub read_start : (first step : ℕ) → List ℕ → ℕ → Outcome ℕ
read_start first step f k = and_then (row_count first step f) (λ rows. passing step k first (drop first f))

-- row k
abbrev pub find_row : Shape → List ℕ → ℕ → Outcome Shown
find_row s f k = mapped (row_at s) (read_start s.first (step s) f k)
