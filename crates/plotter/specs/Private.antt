-- Cited only by promises of private functions: from where going on comes to a row.
use Rattle.std.specs.Prelude.{ℕ, zero, suc, ◌+◌, ◌==◌, Bool, false, List}
use Rattle.answer.specs.Outcome.{Outcome, answer, refuse, mapped}
use Rattle.answer.specs.declared.Shown.{Shown}
use Rattle.reader.specs.Rows.{check_file, row_of}
use Rattle.reader.specs.Read.{beginning}
use Rattle.reader.specs.declared.Kind.{Kind}

-- the end of a row's bytes
abbrev pub end_of : Shown → ℕ
end_of row = row.part.place + row.part.count

-- where going on to a row starts: where the rows begin, or at the end of the row before it
abbrev pub start_of : Kind → List ℕ → ℕ → Outcome ℕ
start_of kind f zero = mapped (λ rows. beginning kind) (check_file kind f)
start_of kind f (suc k) = mapped end_of (row_of kind f k)

-- whether going on to a row starts at this place
abbrev pub is_answer : Outcome ℕ → ℕ → Bool
is_answer (answer m) n = m == n
is_answer (refuse m p) n = false

unfoldable pub is_start : Kind → List ℕ → ℕ → ℕ → Bool
is_start kind f first start = is_answer (start_of kind f first) start

-- whether the windows of a strip are all there, or its refusal
abbrev pub judged : Outcome (List Shown) → Outcome (Unit {0})
judged windows = mapped (λ _. tt) windows
