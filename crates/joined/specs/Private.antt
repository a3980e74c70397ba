-- Cited only by promises of private functions: the entries of a joined index that stand in the second file.
use Rattle.std.specs.Prelude.{ℕ, ◌+◌, List, map}
use Rattle.label.specs.declared.Versions.{Versions}
use Rattle.sfdu.specs.Check.{rows_of_file}
use Rattle.row_index.specs.Index.{every}
use Rattle.row_index.specs.Private.{known}

-- the places of every sixteenth row of a file behind so many bytes, after so many rows that are passed
unfoldable pub further : Versions → ℕ → List ℕ → ℕ → List ℕ
further versions base f passed = map (λ place. base + place) (every passed (known (rows_of_file versions f)))
