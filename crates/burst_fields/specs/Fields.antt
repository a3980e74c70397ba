-- The fields of a short burst record (document 02, item 1: "Read the fields of section 8.1 .. and give limit verdicts for those stored as
-- integers whose two limits are plain numbers. Floats are answered as their stored bits, text as its bytes; where source document 000
-- leaves the byte order open, it is little-endian").
use Rattle.std.specs.Prelude.{ℕ, ◌+◌, Bool, true, false, List, ltb, ℤ, pos, ◌-ℤ◌}
use Rattle.answer.specs.Outcome.{Outcome, answer, refuse, and_then}
use Rattle.answer.specs.Window.{bytes_at}
use Rattle.answer.specs.declared.Part.{Part}
use Rattle.little.specs.LittleEndian.{le_number}
use Rattle.fixed_rows.specs.Read.{find_row}
use Rattle.bursts.specs.Rows.{bursts}
use Rattle.burst_layout.specs.Layout.{field_at}
use Rattle.burst_layout.specs.declared.Field.{Field}
use Rattle.burst_layout.specs.declared.Storage.{Storage}
use Rattle.burst_layout.specs.declared.Storage.TheVariants as stored
use Rattle.limits.specs.declared.Table.TheVariants.{Bursts}
use Rattle.verdicts.specs.Verdict.{verdict_of}
use Rattle.verdicts.specs.declared.Side.{Side}
use Rattle.burst_fields.specs.declared.Value.{Value}
use Rattle.burst_fields.specs.declared.Value.TheVariants.{Unsigned, Signed, Float4, Float8, Text}

abbrev pub pick_signed : (is_positive : Bool) → ℕ → ℤ
pick_signed true n = pos n
pick_signed false n = pos n -ℤ pos 4294967296

-- the signed number with these 32 bits: from 2^31 on, 2^32 less
abbrev pub signed_of : ℕ → ℤ
signed_of n = pick_signed (ltb n 2147483648) n

-- what the bytes at a part hold, by their storage type
abbrev pub content_of : Storage → List ℕ → Part → Value
content_of stored.Unsigned f p = Unsigned (le_number (bytes_at f p.place p.count))
content_of stored.Signed f p = Signed (signed_of (le_number (bytes_at f p.place p.count)))
content_of stored.Float4 f p = Float4 (le_number (bytes_at f p.place p.count))
content_of stored.Float8 f p = Float8 (le_number (bytes_at f p.place p.count))
content_of stored.Text f p = Text p

-- where a field of the row at this place stands
abbrev pub part_of : ℕ → Field → Part
part_of start l = record { place = start + l.place; count = l.size }

-- the field at this position of the row that starts at this place: 10 for a field not in section 8.1
abbrev pub field_from : List ℕ → ℕ → ℕ → Outcome Value
field_from f start n = and_then (field_at n) (λ l. answer (content_of l.stored f (part_of start l)))

-- field n of row k: 14, 16, 12, 6, 10
unfoldable pub field_of : List ℕ → (first : ℕ) → ℕ → ℕ → Outcome Value
field_of f first k n = and_then (find_row (bursts first) f k) (λ row. field_from f row.part.place n)

-- the integer that a field holds; 10 for a float or a text, which have no limits
abbrev pub integer_in : Value → Outcome ℤ
integer_in (Unsigned n) = answer (pos n)
integer_in (Signed z) = answer z
integer_in (Float4 bits) = refuse 10 0
integer_in (Float8 bits) = refuse 10 0
integer_in (Text p) = refuse 10 0

-- the verdict on what a field at position n holds: 10 "without the limits a verdict needs"
abbrev pub verdict_on : ℕ → Value → Outcome Side
verdict_on n c = and_then (integer_in c) (λ z. verdict_of Bursts n z)

-- the verdict on field n of row k: 14, 16, 12, 6, 10
abbrev pub field_verdict : List ℕ → (first : ℕ) → ℕ → ℕ → Outcome Side
field_verdict f first k n = and_then (field_of f first k n) (verdict_on n)
