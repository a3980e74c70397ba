-- Every dot of a strip is traced to its byte (document 02, item 7): of a strip that is drawn, each bit of the lines is the dot that
-- `dot_behind` tells at its column and line, and the byte that stands behind it is that of the row and the window.
use Rattle.std.specs.Prelude.{ℕ, ◌+◌, ◌-◌, ◌*◌, ◌/◌, ◌≤◌, ◌<◌, ◌≡◌, List, length, get_or}
use Rattle.answer.specs.Outcome.{answer}
use Rattle.answer.specs.declared.Shown.{Shown}
use Rattle.dots.specs.Tone as curve
use Rattle.dots.specs.Dot.{is_dot, bit, total}
use Rattle.dot_lines.specs.Line.{line_bytes, bit_in}
use Rattle.reader.specs.Rows.{row_of}
use Rattle.reader.specs.declared.Kind.{Kind}
use Rattle.trace.specs.Behind.{dot_behind}
use Rattle.trace.specs.declared.Dot.{Dot}

-- a dot at column x of line y: its byte is byte a + x of demand 2's row first + y, and lies in the file
pub record StandsBehind (kind : Kind) (f : List ℕ) (first a c x y : ℕ) (dot : Dot) : Type 0 where
  pub row : Shown
  pub is_row : row_of kind f (first + y) ≡ answer row
  pub place : dot.place ≡ row.part.place + a + x
  pub in_row : a + x < row.part.count
  pub in_file : dot.place < length f
  pub byte : dot.byte ≡ get_or f dot.place 0
  pub tone : dot.tone ≡ curve.tone dot.byte
  pub set : dot.set ≡ is_dot dot.tone x y

-- the lines of a strip of n rows
pub record Traced (kind : Kind) (f : List ℕ) (first n a c : ℕ) (bytes : List ℕ) : Type 0 where
  -- whole bytes for each line, one line a row
  pub size : length bytes ≡ n * line_bytes c
  -- the dot at each column of the window and each line
  pub dots : (x y : ℕ) → x < c → y < n
      → (dot : Dot) × (dot_behind kind f first a c x y ≡ answer dot) × StandsBehind kind f first a c x y dot × (bit_in bytes (line_bytes c) x y ≡ bit dot.set)
  -- "unused bits zero"
  pub unused : (x y : ℕ) → c ≤ x → x < 8 * line_bytes c → y < n → bit_in bytes (line_bytes c) x y ≡ 0
  -- an aligned tile of 8 columns and 8 lines in which every tone is t
  pub tile : (X Y t : ℕ) → t < 256 → 8 * X + 8 ≤ c → 8 * Y + 8 ≤ n
      → ((i j : ℕ) → i < 8 → j < 8 → (dot : Dot) → dot_behind kind f first a c (8 * X + i) (8 * Y + j) ≡ answer dot → dot.tone ≡ t)
      → total 8 (λ j. total 8 (λ i. bit_in bytes (line_bytes c) (8 * X + i) (8 * Y + j))) ≡ 64 - (t + 2) / 4
