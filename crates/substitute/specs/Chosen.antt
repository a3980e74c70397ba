-- What is said of a row that was chosen: which of the two files "it came from" (document 02, item 6), and the row's record in that file.
use Rattle.std.specs.Prelude.{ℕ, List}
use Rattle.answer.specs.declared.Shown.{Shown}
use Rattle.substitute.specs.declared.Source.{Source}
use Rattle.substitute.specs.declared.Source.TheVariants.{Original, Substitute}
use Rattle.substitute.specs.declared.Chosen.{Chosen}

-- the number of each at the C boundary
abbrev pub source_number : Source → ℕ
source_number Original = 0
source_number Substitute = 1

-- the file of the two that is named
abbrev pub file_named : Source → (original substitute : List ℕ) → List ℕ
file_named Original original substitute = original
file_named Substitute original substitute = substitute

-- a row, and the file that it came from
abbrev pub from : Source → Shown → Chosen
from source row = record { source = source; row = row }
