-- Demand 2: "A file is accepted exactly when it divides, with no gap or overlap, into labelled objects or into waveform rows."
-- Document 02, item 1, adds the records of short bursts. One statement over every kind: what a division of a file is, that the rows are
-- those of the division, that it is the only one, and that the bytes of a row are a leaf's value, a row's samples or a record.
use Rattle.std.specs.Prelude.{ℕ, ◌≤◌, ◌≡◌, ◌↔◌, List, map, length}
use Rattle.answer.specs.Outcome.{answer, mapped}
use Rattle.answer.specs.Size.{largest_file}
use Rattle.answer.specs.Window.{bytes_at}
use Rattle.answer.specs.declared.Shown.{Shown}
use Rattle.sfdu.specs.Row.{whole}
use Rattle.sfdu.specs.Forest.{Forest, encode, Valid, leaves, values}
use Rattle.fixed_rows.specs.Rows as fixed
use Rattle.waveform.specs.Rows.{waveform}
use Rattle.bursts.specs.Rows.{bursts}
use Rattle.reader.specs.Rows.{row_parts, check_file}
use Rattle.reader.specs.declared.Kind.{Kind}
use Rattle.reader.specs.declared.Kind.TheVariants.{Labelled, Waveform, Bursts}

-- what a file of this kind is divided into: a forest of labelled objects, or rows of one size, behind the bytes in front of the first
-- record of a burst file and behind nothing in a waveform file
abbrev pub Division : Kind → Type 0
Division (Labelled versions) = Forest
Division Waveform = fixed.Division
Division (Bursts first) = fixed.Division

-- the bytes of a division, end to end
abbrev pub together : (kind : Kind) → Division kind → List ℕ
together (Labelled versions) F = encode F
together Waveform d = fixed.together d
together (Bursts first) d = fixed.together d

-- each of its pieces is as the documents say: labels of the versions that are allowed with their values, at depths 1 to 8; 32 and
-- 2,048 bytes; 1,272 bytes from the first place on
abbrev pub Sound : (kind : Kind) → Division kind → Type 0
Sound (Labelled versions) F = Valid versions 8 F
Sound Waveform d = fixed.IsDivision waveform d
Sound (Bursts first) d = fixed.IsDivision (bursts first) d

-- its rows, each a place, a count and an address
abbrev pub rows_in : (kind : Kind) → Division kind → List Shown
rows_in (Labelled versions) F = map whole (leaves 1 (λ at. at) 0 F)
rows_in Waveform d = fixed.rows_in waveform d
rows_in (Bursts first) d = fixed.rows_in (bursts first) d

-- the bytes of its rows: the leaves' values, the samples, or the records
abbrev pub bytes_in : (kind : Kind) → Division kind → List (List ℕ)
bytes_in (Labelled versions) F = values F
bytes_in Waveform d = fixed.bytes_in d
bytes_in (Bursts first) d = fixed.bytes_in d

-- the file divides so, with no gap and no overlap
pub record Divides (kind : Kind) (f : List ℕ) (d : Division kind) : Type 0 where
  pub bytes : together kind d ≡ f
  pub sound : Sound kind d

pub record Demand2 (kind : Kind) (f : List ℕ) : Type 0 where
  -- accepted with so many rows: exactly where the file is not too big and divides into so many
  pub accepted : (n : ℕ)
      → (check_file kind f ≡ answer n) ↔ ((length f ≤ largest_file) × ((d : Division kind) × Divides kind f d × (length (rows_in kind d) ≡ n)))
  -- the rows are those of the division
  pub rows_are : (rows : List Shown)
      → (row_parts kind f ≡ answer rows) ↔ ((length f ≤ largest_file) × ((d : Division kind) × Divides kind f d × (rows_in kind d ≡ rows)))
  -- the check counts these rows, and refuses where they cannot be had
  pub counts : check_file kind f ≡ mapped length (row_parts kind f)
  -- there is one division only
  pub only_one : (d e : Division kind) → Divides kind f d → Divides kind f e → d ≡ e
  -- the bytes of the file at each row are that row's bytes
  pub values_are : (d : Division kind) → Divides kind f d → map (λ (r : Shown). bytes_at f r.part.place r.part.count) (rows_in kind d) ≡ bytes_in kind d
