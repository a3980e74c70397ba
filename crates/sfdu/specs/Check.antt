-- The check of a labelled file (document 01, the table of refusals: 14 for more than 4,294,967,295 bytes, then the faults of
-- the file): how many rows it has.
use Rattle.std.specs.Prelude.{ℕ, List, length}
use Rattle.answer.specs.Outcome.{Outcome, mapped}
use Rattle.answer.specs.Size.{of_file}
use Rattle.label.specs.declared.Versions.{Versions}
use Rattle.sfdu.specs.Row.{Row}
use Rattle.sfdu.specs.Scan.{scan}

-- how many rows were found
abbrev pub counting : Outcome (List Row) → Outcome ℕ
counting o = mapped length o

-- which versions of the label are allowed
module _ (versions : Versions) where
  -- the rows of a labelled file that is not too big
  unfoldable pub rows_of_file : List ℕ → Outcome (List Row)
  rows_of_file f = of_file f (scan versions f)

  unfoldable pub check_labelled : List ℕ → Outcome ℕ
  check_labelled f = counting (rows_of_file f)
