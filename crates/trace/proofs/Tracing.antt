-- The theorem: in a strip that is drawn, each bit is the dot that is traced. A line's bits are those of its window's bytes, and these are
-- the bytes of the row that is read.
use Prim.Native.Nat.{ℕ, zero, suc, ◌+◌, ◌-◌, ◌*◌, ◌/◌, ◌%◌, ◌^◌, ◌≤◌, ◌<◌}
use native.Mathlib.Nat.{not-suc-le-zero}
use native.Mathlib.Omega.{arith}
use mathlib.Core.Path.{◌≡◌, refl, ◌∙◌, sym, ap, subst}
use mathlib.Core.Bool.{Bool, true, cond}
use mathlib.Core.List.{List, [], ◌∷◌, map}
use lib.ListN.{length, get_or, drop, length-map}
use lib.Seq.{get_or-take, get_or-drop}
use lib.Dec.{leb}
use borrow.Author.Tests.{lt-ltb, le-ltb}
use Rattle.answer.specs.Outcome.{answer, need, mapped}
use Rattle.answer.specs.Window.{fits}
use Rattle.answer.specs.declared.Shown.{Shown}
use Rattle.answer.proofs.Outcomes.{answer_injective, first_answered, mapped_answer, passed}
use Rattle.answer.proofs.Tests.{both_hold, hold_together}
use Rattle.answer.proofs.Windows.{fitting_is_inside}
use Rattle.dots.specs.Tone.{tone}
use Rattle.dots.specs.Dot.{is_dot, bit, total, dots_in_tile}
use Rattle.dots.proofs.Tile.{same_total, tile_law}
use Rattle.std.specs.List.{range_with_len}
use Rattle.dot_lines.specs.Line.{line_bytes, dot_bit, line, lines, bit_in}
use Rattle.dot_lines.proofs.Bytes.{bit_of_line}
use Rattle.dot_lines.proofs.Lines.{byte_of_lines}
use Rattle.reader.specs.declared.Kind.{Kind}
use Rattle.reader.specs.Rows.{check_file, row_of}
use Rattle.reader.specs.Demand3.{shown_bytes}
use Rattle.reader.proofs.Found.{row_inside}
use Rattle.reader.proofs.Rows.{reads_the_rows}
use Rattle.plotter.specs.Strip.{each_of, windows_of, draw_into, strip_into}
use Rattle.trace.specs.Behind.{dot_from, dot_behind}
use Rattle.trace.specs.Tracing.{StandsBehind, Traced}
use Rattle.plotter.proofs.Windows.{all_fit, rows_of_windows}
use Rattle.plotter.proofs.Held.{window_bytes, bytes_wide}
use Rattle.plotter.proofs.Drawing.{rows_inside}
use Rattle.plotter.proofs.Drawn.{window_inside, each_many, each_wide, are_drawn}
use Rattle.trace.proofs.OneDot.{dot_of_row}

-- one of the rows of a strip, and its window
record RowOfStrip (kind : Kind) (f : List ℕ) (a c k : ℕ) (window : List ℕ) : Type 0 where
  pub row : Shown
  pub is_row : row_of kind f k ≡ answer row
  pub fit : fits row.part.count a c ≡ true
  pub is_window : window ≡ window_bytes f a c row

module _ (kind : Kind) (f : List ℕ) (a c : ℕ) where
  row_of_strip : (n first : ℕ) (rows : List Shown) → each_of (row_of kind f) (range_with_len first n) ≡ answer rows → all_fit a c rows ≡ true
      → (k : ℕ) → k < n → RowOfStrip kind f a c (first + k) (get_or (map (window_bytes f a c) rows) k [])
  row_of_strip zero first rows e fit k h = absurd (not-suc-le-zero h)
  row_of_strip (suc n) first rows e fit k h =
      let (row, is_row, more) = first_answered (row_of kind f first) (λ r. mapped (λ rest. r ∷ rest) (each_of (row_of kind f) (range_with_len (first + 1) n))) rows e in
      let (rest, left, are) = mapped_answer (λ rest. row ∷ rest) (each_of (row_of kind f) (range_with_len (first + 1) n)) rows more in
      let both = both_hold (fits row.part.count a c) (all_fit a c rest) (ap (all_fit a c) are ∙ fit) in
      subst (λ (rs : List Shown). RowOfStrip kind f a c (first + k) (get_or (map (window_bytes f a c) rs) k [])) are
      (go k h row is_row rest both.0 (λ i g. row_of_strip n (first + 1) rest left both.1 i g))
    where
      go : (i : ℕ) → i < suc n → (row : Shown) → row_of kind f first ≡ answer row → (rest : List Shown) → fits row.part.count a c ≡ true
          → ((j : ℕ) → j < n → RowOfStrip kind f a c ((first + 1) + j) (get_or (map (window_bytes f a c) rest) j []))
          → RowOfStrip kind f a c (first + i) (get_or (map (window_bytes f a c) (row ∷ rest)) i [])
      go zero g row is_row rest fits_it others = record { row = row; is_row = ap (row_of kind f) {x = first + 0} {y = first} (omega arith) ∙ is_row; fit = fits_it; is_window = refl }
      go (suc i) g row is_row rest fits_it others =
          subst (λ (m : ℕ). RowOfStrip kind f a c m (get_or (map (window_bytes f a c) rest) i [])) {x = (first + 1) + i} {y = first + suc i} (omega arith) (others i (omega arith))

module _ (kind : Kind) (f : List ℕ) (first n a c : ℕ) where
  -- a column of a row's window
  module _ (x y : ℕ) (column : x < c) (window : List ℕ) (r : RowOfStrip kind f a c (first + y) window) where
    abbrev place : ℕ
    place = r.row.part.place + a + x

    inside : r.row.part.place + a + c ≤ length f
    inside = window_inside f r.row a c (row_inside kind f (first + y) r.row (reads_the_rows kind f (first + y) ∙ r.is_row)) r.fit

    byte_is : get_or window x 0 ≡ get_or f place 0
    byte_is =
        ap (λ (w : List ℕ). get_or w x 0) r.is_window
        ∙ get_or-take c (drop (r.row.part.place + a) f) x 0 column
        ∙ get_or-drop (r.row.part.place + a) f x 0

    told : dot_behind kind f first a c x y ≡ answer (dot_from f x y place)
    told =
        dot_of_row kind f first a c x y r.row (reads_the_rows kind f (first + y) ∙ r.is_row) true (hold_together r.fit (lt-ltb x c column))

    stands : StandsBehind kind f first a c x y (dot_from f x y place)
    stands =
        let w = fitting_is_inside r.row.part.count a c r.fit in
        record {
          row = r.row;
          is_row = r.is_row;
          place = refl;
          in_row = omega (arith, w.begins, w.ends, column);
          in_file = omega (arith, inside, column);
          byte = refl;
          tone = refl;
          set = refl;
        }

    bit_of_column : dot_bit y window x ≡ bit (is_dot (tone (get_or window x 0)) x y)
    bit_of_column =
        ap (λ (b : Bool). cond b (bit (is_dot (tone (get_or window x 0)) x y)) 0)
        (lt-ltb x (length window) (omega (arith, column, ap length r.is_window, bytes_wide f (r.row.part.place + a) c inside)))

    bit_is : dot_bit y window x ≡ bit (is_dot (tone (get_or f place 0)) x y)
    bit_is = bit_of_column ∙ ap (λ (v : ℕ). bit (is_dot (tone v) x y)) byte_is

  -- the lines of rows that are all there
  module _ (rows : List Shown) (found : each_of (row_of kind f) (range_with_len first n) ≡ answer rows) (fit : all_fit a c rows ≡ true) where
    abbrev windows : List (List ℕ)
    windows = map (window_bytes f a c) rows

    row_at : (y : ℕ) → y < n → RowOfStrip kind f a c (first + y) (get_or windows y [])
    row_at y h = row_of_strip kind f a c n first rows found fit y h

    width : (y : ℕ) → y < n → length (get_or windows y []) ≡ c
    width y h =
        let r = row_at y h in
        ap length r.is_window
        ∙ bytes_wide f (r.row.part.place + a) c (window_inside f r.row a c (row_inside kind f (first + y) r.row (reads_the_rows kind f (first + y) ∙ r.is_row)) r.fit)

    bit_at : (x y : ℕ) → x < 8 * line_bytes c → y < n → bit_in (lines 0 windows) (line_bytes c) x y ≡ dot_bit y (get_or windows y []) x
    unfolding bit_in
    bit_at x y column row =
        ap (λ (b : ℕ). b / 2 ^ (7 - x % 8) % 2)
        (byte_of_lines c 0 windows (each_wide (row_of kind f) f (rows_inside kind f) a c n first rows found fit) y (x / 8)
        (omega (arith, length-map rows (window_bytes f a c), each_many (row_of kind f) f (rows_inside kind f) a c n first rows found, row)) (omega (arith, column))
        ∙ ap (λ (k : ℕ). get_or (line k (get_or windows y [])) (x / 8) 0) {x = 0 + y} {y = y} (omega arith))
        ∙ bit_of_line y (get_or windows y []) x (omega (arith, column, ap line_bytes (width y row)))

    -- the picture of their tones
    abbrev tones : ℕ → ℕ → ℕ
    tones x y = tone (get_or (get_or windows y []) x 0)

    tile_at : (X Y : ℕ) → 8 * X + 8 ≤ c → 8 * Y + 8 ≤ n → total 8 (λ j. total 8 (λ i. bit_in (lines 0 windows) (line_bytes c) (8 * X + i) (8 * Y + j))) ≡ dots_in_tile tones X Y
    unfolding dots_in_tile
    tile_at X Y columns lines_there =
        same_total 8 _ (λ j. total 8 (λ i. bit (is_dot (tones (8 * X + i) (8 * Y + j)) (8 * X + i) (8 * Y + j))))
        (λ j hj.
        same_total 8 _ (λ i. bit (is_dot (tones (8 * X + i) (8 * Y + j)) (8 * X + i) (8 * Y + j)))
        (λ i hi.
        bit_at (8 * X + i) (8 * Y + j) (omega arith) (omega arith)
        ∙ bit_of_column (8 * X + i) (8 * Y + j) (omega arith) (get_or windows (8 * Y + j) []) (row_at (8 * Y + j) (omega arith))))

    lines_traced : (bytes : List ℕ) → lines 0 windows ≡ bytes → length bytes ≡ n * line_bytes c → Traced kind f first n a c bytes
    lines_traced bytes is long = record {
      size = long;
      dots = λ x y column row.
          let w = get_or windows y [] in
          let r = row_at y row in (
            dot_from f x y (place x y column w r),
            told x y column w r,
            stands x y column w r,
            ap (λ (l : List ℕ). bit_in l (line_bytes c) x y) (sym is) ∙ bit_at x y (omega arith) row ∙ bit_is x y column w r,
          );
      unused = λ x y behind column row.
          ap (λ (l : List ℕ). bit_in l (line_bytes c) x y) (sym is)
          ∙ bit_at x y column row
          ∙ ap (λ (b : Bool). cond b (bit (is_dot (tones x y) x y)) 0) (le-ltb x (length (get_or windows y [])) (omega (arith, behind, width y row)));
      tile = λ X Y t small columns lines_there one-tone.
          ap (λ (l : List ℕ). total 8 (λ j. total 8 (λ i. bit_in l (line_bytes c) (8 * X + i) (8 * Y + j)))) (sym is)
          ∙ tile_at X Y columns lines_there
          ∙ tile_law.holds tones X Y t small
          (λ i j hi hj.
          let w = get_or windows (8 * Y + j) [] in
          let r = row_at (8 * Y + j) (omega arith) in
          ap tone (byte_is (8 * X + i) (8 * Y + j) (omega arith) w r)
          ∙ one-tone i j hi hj (dot_from f (8 * X + i) (8 * Y + j) (place (8 * X + i) (8 * Y + j) (omega arith) w r)) (told (8 * X + i) (8 * Y + j) (omega arith) w r));
    }

-- every strip that is drawn
pub strip_is_traced : (room : ℕ) (kind : Kind) (f : List ℕ) (first n a c : ℕ) (bytes : List ℕ) → strip_into room kind f first n a c ≡ answer bytes → Traced kind f first n a c bytes
unfolding strip_into draw_into
strip_is_traced room kind f first n a c bytes e =
    let (many, checked, drew) = first_answered (check_file kind f) (λ rows. draw_into room f (row_of kind f) first n a c 0) bytes e in
    let (shown, all, needed) = first_answered (windows_of (row_of kind f) first n a c) (λ ws. need (leb (n * line_bytes c) room) 8 (answer (lines 0 (map (shown_bytes f) ws)))) bytes drew in
    let is = answer_injective (passed 0 (leb (n * line_bytes c) room) 8 (answer (lines 0 (map (shown_bytes f) shown))) bytes needed).1 in
    let w = rows_of_windows a c (row_of kind f) first n shown all in
    let d = are_drawn (row_of kind f) f (rows_inside kind f) a c room first n 0 shown all in
    let same : w.rows ≡ d.rows = answer_injective (sym w.found ∙ d.found) in
    lines_traced kind f first n a c w.rows w.found w.fit bytes
    (ap (λ (rs : List Shown). lines 0 (map (window_bytes f a c) rs)) same ∙ d.drawn ∙ is)
    (ap length (sym (d.drawn ∙ is)) ∙ d.long)
