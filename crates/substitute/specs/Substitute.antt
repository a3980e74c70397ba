-- Substitute files (document 02, item 6: "Show the row from the substitute file if that file is accepted and has the row, else from the
-- original, and say which one it came from"). What is accepted, and the rows, are demand 2's; one choice of versions holds for both files.
use Rattle.std.specs.Prelude.{ℕ, Bool, false, cond, List, ltb}
use Rattle.answer.specs.Outcome.{Outcome, answer, refuse, mapped}
use Rattle.label.specs.declared.Versions.{Versions}
use Rattle.reader.specs.Rows.{check_file, row_of}
use Rattle.reader.specs.declared.Kind.TheVariants.{Labelled}
use Rattle.substitute.specs.Chosen.{file_named, from}
use Rattle.substitute.specs.declared.Source.{Source}
use Rattle.substitute.specs.declared.Source.TheVariants.{Original, Substitute}
use Rattle.substitute.specs.declared.Chosen.{Chosen}

-- a file that was accepted with so many rows has row k; one that was refused has none
abbrev pub has : Outcome ℕ → ℕ → Bool
has (answer rows) k = ltb k rows
has (refuse n p) k = false

-- which versions of the label are allowed
module _ (versions : Versions) where
  -- a file serves a row: it "is accepted and has the row"
  unfoldable pub serves : List ℕ → ℕ → Bool
  serves f k = has (check_file (Labelled versions) f) k

  -- the file that the row comes from
  abbrev pub source_of : (substitute : List ℕ) → ℕ → Source
  source_of substitute k = cond (serves substitute k) Substitute Original

  -- row k, whole, of the file that it comes from; a refusal is the original's, as a file that serves has the row: 14, faults, 6
  unfoldable pub read_either : (original substitute : List ℕ) → ℕ → Outcome Chosen
  read_either original substitute k =
      let source = source_of substitute k in
      mapped (from source) (row_of (Labelled versions) (file_named source original substitute) k)
