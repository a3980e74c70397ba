-- The largest file (document 01, the table of refusals, 14: "a file of more than 4,294,967,295 bytes").
use Rattle.std.specs.Prelude.{ℕ, List, length, leb}
use Rattle.answer.specs.Outcome.{Outcome, need}

abbrev pub largest_file : ℕ
largest_file = 4294967295

-- what is answered of a file that is not too large; else 14
abbrev pub of_file : {A : Type 0} → List ℕ → Outcome A → Outcome A
of_file f o = need (leb (length f) largest_file) 14 o
