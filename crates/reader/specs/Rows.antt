-- The rows of a file of any kind, as demand 2 gives them: which bytes of the file each row is (document 01, "The rows of a
-- labelled file are its leaves in file order"; "The rows of a waveform file are its 2,048-byte sample parts"; document 02, item 1: "A
-- row is a whole record of 1,272 bytes"). The labelled kind carries the choice of versions (document 02, item 11) and that of bursts
-- the first record's place, one for every call over the kind.
use Rattle.std.specs.Prelude.{ℕ, List, map}
use Rattle.answer.specs.Outcome.{Outcome, and_then, mapped}
use Rattle.answer.specs.Nth.{nth}
use Rattle.answer.specs.declared.Shown.{Shown}
use Rattle.sfdu.specs.Row.{whole}
use Rattle.sfdu.specs.Check.{rows_of_file, check_labelled}
use Rattle.fixed_rows.specs.Check.{count_rows}
use Rattle.fixed_rows.specs.Rows as fixed
use Rattle.waveform.specs.Rows.{waveform}
use Rattle.bursts.specs.Rows.{bursts}
use Rattle.reader.specs.declared.Kind.{Kind}
use Rattle.reader.specs.declared.Kind.TheVariants.{Labelled, Waveform, Bursts}

-- the rows, in file order, each whole and with its address (document 02, item 8)
unfoldable pub row_parts : Kind → List ℕ → Outcome (List Shown)
row_parts (Labelled versions) f = mapped (map whole) (rows_of_file versions f)
row_parts Waveform f = fixed.row_parts waveform f
row_parts (Bursts first) f = fixed.row_parts (bursts first) f

-- the check of a file: how many rows it has
unfoldable pub check_file : Kind → List ℕ → Outcome ℕ
check_file (Labelled versions) f = check_labelled versions f
check_file Waveform f = count_rows waveform f
check_file (Bursts first) f = count_rows (bursts first) f

-- row k of a file, counted from 0: its place, its size and its address, or why there is none
unfoldable pub row_of : Kind → List ℕ → ℕ → Outcome Shown
row_of kind f k = and_then (row_parts kind f) (λ rows. nth rows k)
