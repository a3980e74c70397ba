-- The byte behind a dot, by the tests of the code, and a row whose number passes 64 bits.
use Prim.Native.Nat.{ℕ, ◌+◌, ◌≤◌, ◌<◌}
use native.Mathlib.Omega.{arith}
use mathlib.Core.Path.{◌≡◌, refl, ◌∙◌, sym, ap}
use mathlib.Core.Bool.{Bool, true, false, ◌&&◌}
use mathlib.Core.List.{List}
use lib.ListN.{length}
use lib.Dec.{ltb}
use Rattle.answer.specs.Outcome.{Outcome, answer, refuse, need, and_then}
use Rattle.answer.specs.Window.{fits, window_at, window_in}
use Rattle.answer.specs.Nth.{nth}
use Rattle.answer.specs.declared.Shown.{Shown}
use Rattle.answer.proofs.Outcomes.{after_answer, after_refusal, refused_first}
use Rattle.answer.proofs.Nths.{nth_is_not}
use Rattle.reader.specs.declared.Kind.{Kind}
use Rattle.reader.specs.Rows.{row_parts, check_file, row_of}
use Rattle.reader.specs.Read.{find_row, read_row}
use Rattle.reader.proofs.Rows.{reads_the_rows}
use Rattle.reader.proofs.Demand2.{demand_2}
use Rattle.reader.proofs.Found.{row_inside}
use Rattle.plotter.proofs.Drawn.{window_inside}
use Rattle.plotter.proofs.Starting.{checked}
use Rattle.trace.specs.Behind.{dot_from, dot_behind}

module _ (kind : Kind) (f : List ℕ) (first a c x y : ℕ) where
  -- a row that is there: by whether the window fits it and has the column
  pub dot_of_row : (row : Shown) → find_row kind f (first + y) ≡ answer row → (inside : Bool) → (fits row.part.count a c && ltb x c) ≡ inside
      → dot_behind kind f first a c x y ≡ need inside 7 (answer (dot_from f x y (row.part.place + a + x)))
  unfolding dot_behind read_row
  dot_of_row row found inside e =
      ap (λ (o : Outcome Shown). and_then (and_then o (window_in a c)) (λ window. need (ltb x c) 7 (answer (dot_from f x y (window.part.place + x))))) found
      ∙ go (fits row.part.count a c) (ltb x c)
      ∙ ap (λ (b : Bool). need b 7 (answer (dot_from f x y (row.part.place + a + x)))) e
    where
      go : (s t : Bool) → and_then (need s 7 (answer (window_at a c row))) (λ window. need t 7 (answer (dot_from f x y (window.part.place + x))))
          ≡ need (s && t) 7 (answer (dot_from f x y (row.part.place + a + x)))
      go true true = refl
      go true false = refl
      go false true = refl
      go false false = refl

  -- the byte behind a dot lies in the file
  pub byte_inside : (row : Shown) → find_row kind f (first + y) ≡ answer row → fits row.part.count a c ≡ true → x < c → row.part.place + a + x < length f
  byte_inside row found fit column = omega (arith, window_inside f row a c (row_inside kind f (first + y) row found) fit, column)

  pub dot_refused : (m p : ℕ) → find_row kind f (first + y) ≡ refuse m p → dot_behind kind f first a c x y ≡ refuse m p
  unfolding dot_behind read_row
  dot_refused m p e = ap (λ (o : Outcome Shown). and_then (and_then o (window_in a c)) (λ window. need (ltb x c) 7 (answer (dot_from f x y (window.part.place + x))))) e

module _ (kind : Kind) (f : List ℕ) where
  -- a row past the last
  pub past_the_last : (n k : ℕ) → check_file kind f ≡ answer n → n ≤ k → find_row kind f k ≡ refuse 6 0
  unfolding row_of
  past_the_last n k e h =
      let (rows, accepted, many) = checked kind f n e in
      reads_the_rows kind f k ∙ after_answer (row_parts kind f) (λ rs. nth rs k) rows accepted ∙ nth_is_not rows k (omega (arith, many, h))

  pub of_a_refused_file : (m p k : ℕ) → check_file kind f ≡ refuse m p → find_row kind f k ≡ refuse m p
  unfolding row_of
  of_a_refused_file m p k e =
      reads_the_rows kind f k ∙ after_refusal (row_parts kind f) (λ rs. nth rs k) m p (refused_first (row_parts kind f) length (sym (demand_2 kind f).counts ∙ e))
