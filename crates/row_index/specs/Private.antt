-- Cited only by promises of private functions: the index of a file that may be refused.
use Rattle.std.specs.Prelude.{ℕ, List, []}
use Rattle.answer.specs.Outcome.{Outcome, answer, refuse}
use Rattle.label.specs.declared.Versions.{Versions}
use Rattle.sfdu.specs.Row.{Row}
use Rattle.sfdu.specs.Check.{rows_of_file}
use Rattle.row_index.specs.Index.{index_of}

-- the rows of a file: of one that is refused, none
abbrev pub known : Outcome (List Row) → List Row
known (answer rows) = rows
known (refuse n p) = []

-- its index
unfoldable pub the_index : Versions → List ℕ → List ℕ
the_index versions f = index_of (known (rows_of_file versions f))
