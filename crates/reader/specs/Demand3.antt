-- Demand 3: "The jump and reading from the first byte give the same answer, whatever the row and window", where "the documents
-- call for it and nowhere else". For labelled files it supposes that the check and the index check accept, told the same choice of
-- versions as reading and the jump (document 02, item 11: "suppose one choice throughout"); for waveform files and bursts, from any first
-- place, it supposes nothing. Document 02, item 8: it "compares the parts that both fill".
use Rattle.std.specs.Prelude.{ℕ, ◌+◌, ◌<◌, ◌≡◌, List, length, get_or}
use Rattle.answer.specs.Outcome.{answer, and_then}
use Rattle.answer.specs.Window.{bytes_at, window_in}
use Rattle.answer.specs.Address.{label_in, depth_in, outermost_in, IsFilled, IsAbsent, SameAnswer}
use Rattle.answer.specs.declared.Address.{Address}
use Rattle.answer.specs.declared.Shown.{Shown}
use Rattle.row_index.specs.Index.{check_index}
use Rattle.reader.specs.Rows.{row_of, check_file}
use Rattle.reader.specs.Read.{read_row, jump_row}
use Rattle.reader.specs.declared.Kind.{Kind}
use Rattle.reader.specs.declared.Kind.TheVariants.{Labelled, Waveform, Bursts}

-- the bytes that are shown
abbrev pub shown_bytes : List ℕ → Shown → List ℕ
shown_bytes f s = bytes_at f s.part.place s.part.count

-- what is supposed of a file and a list
abbrev pub Supposed : Kind → List ℕ → List ℕ → Type 0
Supposed (Labelled versions) f xs = (n : ℕ) × (check_file (Labelled versions) f ≡ answer n) × (check_index versions f xs ≡ answer tt)
Supposed Waveform f xs = Unit
Supposed (Bursts first) f xs = Unit

-- the part that is shown is the window (a, c) of row k, as demand 2 gives the rows: it begins a bytes after the row's first
-- byte, has c bytes, and these are those of the row from a on; byte i of it is the file's byte at row's place + a + i. Its address is
-- the row's, whatever the window
pub record ShowsWindow (kind : Kind) (f : List ℕ) (k a c : ℕ) (window : Shown) : Type 0 where
  pub row : Shown
  pub is_row : row_of kind f k ≡ answer row
  pub place : window.part.place ≡ row.part.place + a
  pub count : window.part.count ≡ c
  pub address : window.address ≡ row.address
  pub bytes : shown_bytes f window ≡ bytes_at (shown_bytes f row) a c
  pub size : length (shown_bytes f window) ≡ c
  pub behind : (i : ℕ) → i < c → get_or (shown_bytes f window) i 0 ≡ get_or f (row.part.place + a + i) 0

-- an address in which all three parts are filled
pub record AllFilled (address : Address) : Type 0 where
  pub label : IsFilled (label_in address)
  pub depth : IsFilled (depth_in address)
  pub outermost : IsFilled (outermost_in address)

-- what the jump fills (document 02, item 8): in a labelled file the label's place alone, "and says that the other two are absent"; of
-- a row without a label all three
pub record LabelFilled (address : Address) : Type 0 where
  pub label : IsFilled (label_in address)
  pub depth : IsAbsent (depth_in address)
  pub outermost : IsAbsent (outermost_in address)

abbrev pub JumpFills : Kind → Address → Type 0
JumpFills (Labelled versions) address = LabelFilled address
JumpFills Waveform address = AllFilled address
JumpFills (Bursts first) address = AllFilled address

pub record Demand3 (kind : Kind) (f xs : List ℕ) (k a c : ℕ) : Type 0 where
  -- the same answer: the same part of the file, and the same address in the parts that both fill; or the same refusal and its place
  pub same : SameAnswer (jump_row kind f xs k a c) (read_row kind f k a c)
  -- and it is the window of demand 2's row k: refused where there is no such row or the window does not fit it, and nowhere else
  pub reads : read_row kind f k a c ≡ and_then (row_of kind f k) (window_in a c)
  -- an answer shows that window of that row
  pub shows : (window : Shown) → read_row kind f k a c ≡ answer window → ShowsWindow kind f k a c window
  -- reading fills every part of the address, and the jump those that the request names
  pub reading_fills : (window : Shown) → read_row kind f k a c ≡ answer window → AllFilled window.address
  pub jump_fills : (window : Shown) → jump_row kind f xs k a c ≡ answer window → JumpFills kind window.address
