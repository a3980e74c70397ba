-- The rows of a file of such rows, and what the file is divided into: the bytes in front of the first place, and then whole rows
-- with nothing between or behind them.
use Rattle.std.specs.Prelude.{ℕ, zero, suc, ◌≡◌, List, [], ◌∷◌, ◌++◌, map, length}
use Rattle.answer.specs.Outcome.{Outcome, mapped}
use Rattle.answer.specs.declared.Shown.{Shown}
use Rattle.fixed_rows.specs.Shape.{Shape, step, row_at}
use Rattle.fixed_rows.specs.Check.{count_rows}
use Rattle.fixed_rows.specs.Jump.{start_of}

-- n rows, from row k on
abbrev pub rows_from : Shape → ℕ → ℕ → List Shown
rows_from s k zero = []
rows_from s k (suc n) = row_at s (start_of s.first (step s) k) ∷ rows_from s (suc k) n

-- the rows of a file, in file order
abbrev pub row_parts : Shape → List ℕ → Outcome (List Shown)
row_parts s f = mapped (rows_from s 0) (count_rows s f)

-- the bytes of a row as they stand in a file: those that are passed over, and those that are shown
pub record Row : Type 0 where
  pub passed : List ℕ
  pub shown : List ℕ

pub record IsRow (s : Shape) (r : Row) : Type 0 where
  pub passed_size : length r.passed ≡ s.skip
  pub shown_size : length r.shown ≡ s.size

abbrev pub AreRows : Shape → List Row → Type 0
AreRows s [] = Unit
AreRows s (r ∷ rs) = IsRow s r × AreRows s rs

-- rows set end to end
abbrev pub end_to_end : List Row → List ℕ
end_to_end [] = []
end_to_end (r ∷ rs) = r.passed ++ (r.shown ++ end_to_end rs)

-- what a file is divided into
pub record Division : Type 0 where
  pub front : List ℕ
  pub rows : List Row

pub record IsDivision (s : Shape) (d : Division) : Type 0 where
  pub front_size : length d.front ≡ s.first
  pub are_rows : AreRows s d.rows

-- its bytes, its rows, and the bytes that these show
abbrev pub together : Division → List ℕ
together d = d.front ++ end_to_end d.rows

abbrev pub rows_in : Shape → Division → List Shown
rows_in s d = rows_from s 0 (length d.rows)

abbrev pub bytes_in : Division → List (List ℕ)
bytes_in d = map (λ (r : Row). r.shown) d.rows
