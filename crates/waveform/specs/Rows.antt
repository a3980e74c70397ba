-- The rows of an RPWS wideband file (document 01, "Waveform files"; source document 003, appendix E, the objects
-- WBR_ROW_PREFIX_TABLE and TIME_SERIES): 32 bytes of prefix, then 2,048 samples of one byte, row after row with nothing
-- before, between or after them. They are rows of one size, from the file's first byte on; what is said of such rows in `fixed_rows` is
-- said of these.
use Rattle.std.specs.Prelude.{ℕ, ◌+◌, ◌*◌}
use Rattle.fixed_rows.specs.Shape.{Shape}

-- the bytes of a row in the file, those of its prefix, and those of its samples
abbrev pub row_size : ℕ
row_size = 2080

abbrev pub prefix_size : ℕ
prefix_size = 32

abbrev pub samples_size : ℕ
samples_size = 2048

abbrev pub waveform : Shape
waveform = record { first = 0; skip = prefix_size; size = samples_size }

-- the place of row k's first sample, after its prefix (document 01, "The label", the paragraph on rows: 2,080·k + 32)
abbrev pub first_sample : ℕ → ℕ
first_sample k = row_size * k + prefix_size
