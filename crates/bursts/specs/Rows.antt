-- The rows of a Cassini short burst file (document 02, item 1: "A row is a whole record of 1,272 bytes"; "The caller gives the first
-- record's place, counted from 0"; source document 000, section 8.1: "An SBDR record is 1272 bytes long"). They are rows of one size from that
-- place on, of which nothing is passed over; what is said of such rows in `fixed_rows` is said of these.
use Rattle.std.specs.Prelude.{ℕ}
use Rattle.fixed_rows.specs.Shape.{Shape}

-- the bytes of a record
abbrev pub record_size : ℕ
record_size = 1272

-- records from this place on
abbrev pub bursts : ℕ → Shape
bursts first = record { first = first; skip = 0; size = record_size }
