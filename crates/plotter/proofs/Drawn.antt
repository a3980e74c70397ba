-- Rows that are all there, over any function of the rows' numbers whose rows lie in the file: their windows, their lines, and what is drawn of
-- them, refused for a row, refused for want of room, or written.
use Prim.Native.Nat.{ℕ, zero, suc, ◌+◌, ◌*◌, ◌≤◌}
use native.Mathlib.Omega.{arith}
use mathlib.Core.Path.{◌≡◌, ◌∙◌, sym, ap, ap₂, subst}
use mathlib.Core.Bool.{Bool, true, false}
use mathlib.Core.List.{List, ◌∷◌, map, map-map}
use lib.ListN.{length, length-map}
use lib.Dec.{leb}
use Rattle.answer.specs.Outcome.{Outcome, answer, refuse, need, mapped}
use Rattle.answer.specs.Filled.{amount}
use Rattle.answer.specs.Window.{window_at, fits}
use Rattle.answer.specs.declared.Shown.{Shown}
use Rattle.answer.proofs.Outcomes.{after_answer, after_refusal, answer_injective, first_answered, mapped_answer, refused_first}
use Rattle.answer.proofs.Tests.{both_hold}
use Rattle.answer.proofs.Windows.{fitting_is_inside}
use Rattle.std.specs.List.{range_with_len}
use Rattle.dot_lines.specs.Line.{line_bytes, lines}
use Rattle.dot_lines.proofs.Lines.{AllWide, lines_long}
use Rattle.reader.specs.Demand3.{shown_bytes}
use Rattle.plotter.specs.Strip.{each_of, windows_of, draw_into}
use Rattle.plotter.specs.Private.{end_of, judged}
use Rattle.plotter.proofs.Held.{window_bytes, bytes_wide}
use Rattle.plotter.proofs.Windows.{all_fit, rows_of_windows}

-- a window that fits a row inside the file has its bytes there
pub window_inside : (f : List ℕ) (row : Shown) (a c : ℕ) → end_of row ≤ length f → fits row.part.count a c ≡ true → row.part.place + a + c ≤ length f
window_inside f row a c h e =
    let w = fitting_is_inside row.part.count a c e in
    omega (arith, h, w.begins, w.ends)

module _ (row : ℕ → Outcome Shown) (f : List ℕ) (inside : (k : ℕ) (r : Shown) → row k ≡ answer r → end_of r ≤ length f) (a c : ℕ) where
  pub each_many : (n first : ℕ) (rows : List Shown) → each_of row (range_with_len first n) ≡ answer rows → length rows ≡ n
  each_many zero first rows e = ap length (sym (answer_injective e))
  each_many (suc n) first rows e =
      let (r, is_row, more) = first_answered (row first) (λ r. mapped (λ rest. r ∷ rest) (each_of row (range_with_len (first + 1) n))) rows e in
      let (rest, left, are) = mapped_answer (λ rest. r ∷ rest) (each_of row (range_with_len (first + 1) n)) rows more in
      ap length (sym are) ∙ ap suc (each_many n (first + 1) rest left)

  pub each_wide : (n first : ℕ) (rows : List Shown) → each_of row (range_with_len first n) ≡ answer rows → all_fit a c rows ≡ true → AllWide c (map (window_bytes f a c) rows)
  each_wide zero first rows e fit = subst (λ (rs : List Shown). AllWide c (map (window_bytes f a c) rs)) (answer_injective e) tt
  each_wide (suc n) first rows e fit =
      let (r, is_row, more) = first_answered (row first) (λ r. mapped (λ rest. r ∷ rest) (each_of row (range_with_len (first + 1) n))) rows e in
      let (rest, left, are) = mapped_answer (λ rest. r ∷ rest) (each_of row (range_with_len (first + 1) n)) rows more in
      let both = both_hold (fits r.part.count a c) (all_fit a c rest) (ap (all_fit a c) are ∙ fit) in
      let there = window_inside f r a c (inside first r is_row) both.0 in
      subst (λ (rs : List Shown). AllWide c (map (window_bytes f a c) rs)) are (bytes_wide f (r.part.place + a) c there, each_wide n (first + 1) rest left both.1)

  module _ (room first n y : ℕ) where
    -- the lines of rows that are drawn, the first of them line y
    pub record Drawn (windows : List Shown) : Type 0 where
      pub rows : List Shown
      pub found : each_of row (range_with_len first n) ≡ answer rows
      pub many : length rows ≡ n
      pub wide : AllWide c (map (window_bytes f a c) rows)
      pub drawn : lines y (map (window_bytes f a c) rows) ≡ lines y (map (shown_bytes f) windows)
      pub long : length (lines y (map (window_bytes f a c) rows)) ≡ n * line_bytes c
      pub called : (b : Bool) → leb (n * line_bytes c) room ≡ b → draw_into room f row first n a c y ≡ need b 8 (answer (lines y (map (window_bytes f a c) rows)))

    pub are_drawn : (windows : List Shown) → windows_of row first n a c ≡ answer windows → Drawn windows
    unfolding draw_into
    are_drawn windows all =
        let w = rows_of_windows a c row first n windows all in
        let many = each_many n first w.rows w.found in
        let wide = each_wide n first w.rows w.found w.fit in
        let drawn : lines y (map (window_bytes f a c) w.rows) ≡ lines y (map (shown_bytes f) windows) =
        ap (lines y) (sym (map-map (shown_bytes f) (window_at a c) w.rows) ∙ ap (map (shown_bytes f)) w.are) in
        record {
          rows = w.rows;
          found = w.found;
          many = many;
          wide = wide;
          drawn = drawn;
          long = lines_long c y (map (window_bytes f a c) w.rows) wide ∙ ap (λ (k : ℕ). k * line_bytes c) (length-map w.rows (window_bytes f a c) ∙ many);
          called = λ b e.
              after_answer (windows_of row first n a c) (λ ws. need (leb (n * line_bytes c) room) 8 (answer (lines y (map (shown_bytes f) ws)))) windows all
              ∙ ap₂ (λ (t : Bool) (l : List ℕ). need t 8 (answer l)) e (sym drawn);
        }

    pub windows_refused : (m p : ℕ) → judged (windows_of row first n a c) ≡ refuse m p → draw_into room f row first n a c y ≡ refuse m p
    unfolding draw_into
    windows_refused m p e =
        after_refusal (windows_of row first n a c) (λ ws. need (leb (n * line_bytes c) room) 8 (answer (lines y (map (shown_bytes f) ws)))) m p
        (refused_first (windows_of row first n a c) (λ ws. tt) e)

    pub windows_there : judged (windows_of row first n a c) ≡ answer tt → (windows : List Shown) × (windows_of row first n a c ≡ answer windows)
    windows_there e =
        let (windows, all, is) = mapped_answer (λ ws. tt) (windows_of row first n a c) tt e in
        (windows, all)

    module _ (windows : List Shown) (all : windows_of row first n a c ≡ answer windows) where
      pub too_small : leb (n * line_bytes c) room ≡ false → draw_into room f row first n a c y ≡ refuse 8 0
      too_small e = (are_drawn windows all).called false e

      pub drawn_amount : leb (n * line_bytes c) room ≡ true → amount (draw_into room f row first n a c y) ≡ answer (n * line_bytes c)
      drawn_amount e =
          let w = are_drawn windows all in
          ap amount (w.called true e) ∙ ap answer w.long
