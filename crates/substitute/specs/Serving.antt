-- What document 02, item 6, asks of every two files and every row: the substitute's row where the substitute serves, "else from the
-- original"; and that the bytes are those of the row in the file that is told.
use Rattle.std.specs.Prelude.{ℕ, ◌≡◌, ◌↔◌, true, false, List, length}
use Rattle.answer.specs.Outcome.{answer, refuse, mapped}
use Rattle.answer.specs.Nth.{nth}
use Rattle.answer.specs.declared.Shown.{Shown}
use Rattle.label.specs.declared.Versions.{Versions}
use Rattle.reader.specs.Rows.{row_of}
use Rattle.reader.specs.Demand2.{Division, Divides, bytes_in}
use Rattle.reader.specs.Demand3.{shown_bytes, AllFilled}
use Rattle.reader.specs.declared.Kind.{Kind}
use Rattle.reader.specs.declared.Kind.TheVariants.{Labelled}
use Rattle.substitute.specs.Chosen.{file_named, from}
use Rattle.substitute.specs.Substitute.{serves, read_either}
use Rattle.substitute.specs.declared.Source.TheVariants.{Original, Substitute}
use Rattle.substitute.specs.declared.Chosen.{Chosen}

-- the whole of row k of a file is shown, as demand 2 gives the rows, with every part of its address: all its bytes lie in the file, and
-- they are those of the row in the division of the file, of a labelled one the value of a leaf
pub record ShowsRow (kind : Kind) (f : List ℕ) (k : ℕ) (row : Shown) : Type 0 where
  pub is_row : row_of kind f k ≡ answer row
  pub address : AllFilled row.address
  pub size : length (shown_bytes f row) ≡ row.part.count
  pub bytes : (d : Division kind) → Divides kind f d → nth (bytes_in kind d) k ≡ answer (shown_bytes f row)

pub record Serving (versions : Versions) (original substitute : List ℕ) (k : ℕ) : Type 0 where
  -- a file serves exactly the rows that it has
  pub serves_exactly : (f : List ℕ) → (serves versions f k ≡ true) ↔ ((row : Shown) × (row_of (Labelled versions) f k ≡ answer row))
  -- the substitute serves: its row, whatever the original is
  pub by_substitute : serves versions substitute k ≡ true
      → (row : Shown) × ShowsRow (Labelled versions) substitute k row × ((any : List ℕ) → read_either versions any substitute k ≡ answer (from Substitute row))
  -- it does not: row k of the original, or the original's refusal
  pub by_original : serves versions substitute k ≡ false
      → read_either versions original substitute k ≡ mapped (from Original) (row_of (Labelled versions) original k)
  -- refused exactly where neither serves, with the refusal of the original
  pub refused_exactly : (n p : ℕ)
      → (read_either versions original substitute k ≡ refuse n p)
      ↔ ((serves versions substitute k ≡ false) × (serves versions original k ≡ false) × (row_of (Labelled versions) original k ≡ refuse n p))
  -- what is shown is row k of the file that is told
  pub shows : (found : Chosen) → read_either versions original substitute k ≡ answer found
      → ShowsRow (Labelled versions) (file_named found.source original substitute) k found.row
