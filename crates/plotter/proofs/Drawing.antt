-- The lines of a strip, drawn one after the other: after y of them the buffer holds their lines and behind them what it held.
use Prim.Native.Nat.{ℕ, ◌+◌, ◌-◌, ◌*◌, ◌≤◌, ◌<◌}
use native.Mathlib.Nat.{le_trans, mul-le-mul_right}
use native.Mathlib.Omega.{arith}
use mathlib.Core.Path.{◌≡◌, refl, ◌∙◌, sym, ap, ap₂}
use mathlib.Core.Bool.{Bool, true, false}
use mathlib.Core.List.{List, [], ◌∷◌, ◌++◌, map, append_assoc, append-nil}
use lib.ListN.{length, take, drop, length-drop}
use lib.Seq.{drop-drop}
use lib.Dec.{leb}
use borrow.Author.Tests.{le-leb, leb-true}
use Rattle.std.proofs.lemmas.List.{take_all, drop_all}
use Rattle.std.proofs.Common.{rules}
use Rattle.std.specs.Prelude.{Result, Ok, Err, IsOk}
use Rattle.answer.specs.Told.{told}
use Rattle.answer.specs.declared.Refused.{Refused}
use Rattle.reader.specs.Read.{row_from}
use Rattle.answer.specs.Outcome.{Outcome, answer, refuse, need}
use Rattle.answer.specs.Filled.{filled}
use Rattle.answer.specs.Window.{bytes_at, fits}
use Rattle.answer.specs.declared.Shown.{Shown}
use Rattle.answer.specs.declared.Part.{Part}
use Rattle.answer.proofs.Outcomes.{answer_injective, answer_is_no_refusal, mapped_answer}
use Rattle.std.specs.List.{range_with_len}
use Rattle.dot_lines.specs.Line.{line_bytes, line, lines, line_into}
use Rattle.dot_lines.proofs.Bytes.{line_long}
use Rattle.reader.specs.declared.Kind.{Kind}
use Rattle.reader.specs.Rows.{row_of}
use Rattle.reader.proofs.Found.{row_inside}
use Rattle.reader.proofs.Rows.{reads_the_rows}
use Rattle.plotter.specs.Strip.{each_of, windows_of, draw_into}
use Rattle.plotter.specs.Private.{end_of}
use Rattle.plotter.proofs.Drawn.{window_inside, are_drawn}
use Rattle.plotter.proofs.Held.{window_bytes, bytes_wide, Held, nothing_held, held_long, held_size, held_more}
use Rattle.plotter.proofs.Found.{each_refused, each_rest}
use Rattle.plotter.proofs.Going.{Starts, NextRow, Going, next_refused, nothing_found, one_found, all_found}
use Rattle.plotter.proofs.Windows.{all_fit, fits_the_middle, rows_of_windows}

-- the rows of a strip lie in the file
pub rows_inside : (kind : Kind) (f : List ℕ) (k : ℕ) (r : Shown) → row_of kind f k ≡ answer r → end_of r ≤ length f
rows_inside kind f k r e = row_inside kind f k r (reads_the_rows kind f k ∙ e)

-- a line that has room is drawn
pub line_drawn : (f out : List ℕ) (place c y at : ℕ) → place + c ≤ length f → at + line_bytes c ≤ length out
    → take at out ++ filled (line_into (length (drop at out)) y (bytes_at f place c)) (drop at out) ≡ take at out ++ line y (bytes_at f place c) ++ drop (at + line_bytes c) out
unfolding line_into
line_drawn f out place c y at inside room =
    let w = line y (bytes_at f place c) in
    let wide : line_bytes (length (bytes_at f place c)) ≡ line_bytes c = ap line_bytes (bytes_wide f place c inside) in
    let long : length w ≡ line_bytes c = line_long y (bytes_at f place c) ∙ wide in
    ap (λ (l : List ℕ). take at out ++ l)
    (ap (λ (b : Bool). filled (need b 8 (answer w)) (drop at out)) (le-leb (line_bytes (length (bytes_at f place c))) (length (drop at out)) (omega (arith, wide, room, length-drop at out)))
    ∙ ap (λ (l : List ℕ). w ++ l) (drop-drop (length w) at out ∙ ap (λ (k : ℕ). drop (at + k) out) long))
    ∙ sym (append_assoc (take at out) w (drop (at + line_bytes c) out))

-- and behind the buffer's end none is
no_bytes : (xs : List ℕ) → length xs ≡ 0 → xs ≡ []
no_bytes [] h = refl
no_bytes (x ∷ xs) h = absurd (omega (arith, h))

nowhere : (y : ℕ) (w : List ℕ) → filled (line_into 0 y w) [] ≡ []
unfolding line_into
nowhere y w = cases (leb (line_bytes (length w)) 0) refl
  where
    cases : (b : Bool) → leb (line_bytes (length w)) 0 ≡ b → filled (need b 8 (answer (line y w))) [] ≡ []
    cases true e = ap (λ (l : List ℕ). l ++ drop (length l) []) (no_bytes (line y w) (omega (arith, line_long y w, leb-true (line_bytes (length w)) 0 e)))
    cases false e = refl

pub line_beyond : (out w : List ℕ) (at y : ℕ) → length out < at → out ≡ take at out ++ filled (line_into (length (drop at out)) y w) (drop at out)
line_beyond out w at y h =
    sym
    (ap₂ (λ (front back : List ℕ). front ++ filled (line_into (length back) y w) back) (take_all at out (omega arith)) (drop_all at out (omega arith))
    ∙ ap (λ (l : List ℕ). out ++ l) (nowhere y w)
    ∙ append-nil out)

pub record Drawing (kind : Kind) (f : List ℕ) (first n a c : ℕ) (old out : List ℕ) (from y : ℕ) : Type 0 where
  pub rows : List Shown
  pub going : Going kind f first n y from rows
  pub held : Held f a c 0 old out rows y

module _ (kind : Kind) (f : List ℕ) (first n a c : ℕ) (old : List ℕ) where
  pub nothing_drawn : (from : ℕ) → Starts kind f first from → Drawing kind f first n a c old old from 0
  nothing_drawn from s = record { rows = []; going = nothing_found kind f first n from s; held = nothing_held f a c 0 old }

  module _ (out : List ℕ) (from y : ℕ) (d : Drawing kind f first n a c old out from y) where
    pub lines_fit : n * line_bytes c ≤ length old → y * line_bytes c ≤ length old
    lines_fit room = le_trans (mul-le-mul_right (line_bytes c) d.going.within) room

    pub same_size : n * line_bytes c ≤ length old → length out ≡ length old
    same_size room = held_size f a c 0 old out d.rows y d.held (lines_fit room)

    pub one_drawn : y < n → (next : Shown) → NextRow kind f (first + y) next → fits next.part.count a c ≡ true → (after : List ℕ)
        → after ≡ take (y * line_bytes c) out ++ line y (bytes_at f (next.part.place + a) c) ++ drop (y * line_bytes c + line_bytes c) out
        → Drawing kind f first n a c old after (end_of next) (y + 1)
    one_drawn more next r fit after e =
        let same : window_bytes f a c r.row ≡ bytes_at f (next.part.place + a) c = ap (λ (p : Part). bytes_at f (p.place + a) c) r.part in
        let inside : r.row.part.place + a + c ≤ length f = omega (arith, window_inside f next a c r.inside fit, ap (λ (p : Part). p.place) r.part) in
        record {
          rows = d.rows ++ r.row ∷ [];
          going = one_found kind f first n y from d.rows d.going more next r;
          held =
              held_more f a c 0 old out d.rows y d.held r.row inside after
              (e
              ∙ ap₂ (λ (k : ℕ) (w : List ℕ). take (y * line_bytes c) out ++ line k w ++ drop (y * line_bytes c + line_bytes c) out) {x = y} {y = 0 + y} (omega arith) (sym same));
        }

    -- where the window fits all rows, it fits the next one, and there is a next one
    module _ (windows : List Shown) (all : windows_of (row_of kind f) first n a c ≡ answer windows) where
      pub next_fits : y < n → (row : Shown) → row_of kind f (first + y) ≡ answer row → fits row.part.count a c ≡ true
      next_fits more row is_row =
          let w = rows_of_windows a c (row_of kind f) first n windows all in
          let (rest, left, are) = mapped_answer (λ rest. d.rows ++ row ∷ rest) (each_of (row_of kind f) (range_with_len (first + (y + 1)) (n - (y + 1)))) w.rows (sym (each_rest (row_of kind f) first y d.rows d.going.so_far n more row is_row) ∙ w.found) in
          fits_the_middle a c d.rows rest row (ap (all_fit a c) are ∙ w.fit)

      pub none_missing : y < n → (m p : ℕ) → row_of kind f (first + y) ≡ refuse m p → ⊥
      none_missing more m p e =
          let w = rows_of_windows a c (row_of kind f) first n windows all in
          answer_is_no_refusal (sym w.found ∙ each_refused (row_of kind f) first y d.rows d.going.so_far n m p more e)

      pub is_there : y < n → (r : Result Shown Refused) → told r ≡ row_from kind f from → IsOk r
      is_there more (Ok row) e = search rules
      is_there more (Err why) e = absurd (none_missing more _ _ (next_refused kind f (first + y) from d.going.next _ _ (sym e)))

      -- all lines drawn
      pub all_drawn : n ≤ y → n * line_bytes c ≤ length old → out ≡ filled (draw_into (length old) f (row_of kind f) first n a c 0) old
      all_drawn done room =
          let w = are_drawn (row_of kind f) f (rows_inside kind f) a c (length old) first n 0 windows all in
          let rows : d.rows ≡ w.rows = answer_injective (sym (all_found kind f first n y from d.rows d.going done) ∙ w.found) in
          d.held.holds
          ∙ ap (λ (k : ℕ). lines 0 (map (window_bytes f a c) d.rows) ++ drop k old) (sym (held_long f a c 0 old out d.rows y d.held))
          ∙ ap (λ (rs : List Shown). lines 0 (map (window_bytes f a c) rs) ++ drop (length (lines 0 (map (window_bytes f a c) rs))) old) rows
          ∙ ap (λ (o : Outcome (List ℕ)). filled o old) (sym (w.called true (le-leb (n * line_bytes c) (length old) room)))
