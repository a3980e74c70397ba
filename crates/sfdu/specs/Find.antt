-- Row k of a labelled file, as reading from the first byte finds it (document 01: a file that the check refuses is refused
-- as the check does; else "Leaf k is row k. If the file ends before it, 6"), with its address (document 02, item 8).
use Rattle.std.specs.Prelude.{ℕ, List}
use Rattle.answer.specs.Outcome.{Outcome, and_then, mapped}
use Rattle.answer.specs.Nth.{nth}
use Rattle.answer.specs.declared.Shown.{Shown}
use Rattle.label.specs.declared.Versions.{Versions}
use Rattle.sfdu.specs.Row.{whole}
use Rattle.sfdu.specs.Check.{rows_of_file}

-- the row with this number of a file, where these versions of the label are allowed
unfoldable pub find_row : Versions → List ℕ → ℕ → Outcome Shown
find_row versions f k = and_then (rows_of_file versions f) (λ rows. mapped whole (nth rows k))
