-- The windows of rows: each of them where the window fits all rows, else 7.
use Prim.Native.Nat.{ℕ}
use mathlib.Core.Path.{◌≡◌, refl, ◌∙◌, sym, ap}
use mathlib.Core.Bool.{Bool, true, false, ◌&&◌}
use mathlib.Core.List.{List, [], ◌∷◌, ◌++◌, map}
use Rattle.answer.specs.Outcome.{Outcome, answer, need, and_then, mapped}
use Rattle.answer.specs.Window.{fits, window_at, window_in}
use Rattle.answer.specs.declared.Shown.{Shown}
use Rattle.answer.proofs.Outcomes.{after_answer, first_answered, passed, answer_injective}
use Rattle.answer.proofs.Tests.{both_hold}
use Rattle.std.specs.List.{range_with_len}
use Rattle.plotter.specs.Strip.{each_of, windows_of}

-- the window fits each of the rows
abbrev pub all_fit : ℕ → ℕ → List Shown → Bool
all_fit a c [] = true
all_fit a c (row ∷ rows) = fits row.part.count a c && all_fit a c rows

module _ (a c : ℕ) where
  pub windows_are : (rows : List Shown) → each_of (window_in a c) rows ≡ need (all_fit a c rows) 7 (answer (map (window_at a c) rows))
  windows_are [] = refl
  windows_are (row ∷ rows) =
      ap (λ (o : Outcome (List Shown)). and_then (window_in a c row) (λ w. mapped (λ ws. w ∷ ws) o)) (windows_are rows)
      ∙ go (fits row.part.count a c) (all_fit a c rows)
    where
      go : (s t : Bool) → and_then (need s 7 (answer (window_at a c row))) (λ w. mapped (λ ws. w ∷ ws) (need t 7 (answer (map (window_at a c) rows))))
          ≡ need (s && t) 7 (answer (window_at a c row ∷ map (window_at a c) rows))
      go true true = refl
      go true false = refl
      go false true = refl
      go false false = refl

  pub fit_one_more : (rows : List Shown) (row : Shown) → all_fit a c (rows ++ row ∷ []) ≡ (all_fit a c rows && fits row.part.count a c)
  fit_one_more [] row = go (fits row.part.count a c)
    where
      go : (t : Bool) → (t && true) ≡ (true && t)
      go true = refl
      go false = refl
  fit_one_more (r ∷ rows) row = ap (λ (t : Bool). fits r.part.count a c && t) (fit_one_more rows row) ∙ go (fits r.part.count a c) (all_fit a c rows) (fits row.part.count a c)
    where
      go : (s t u : Bool) → (s && (t && u)) ≡ ((s && t) && u)
      go true t u = refl
      go false true true = refl
      go false true false = refl
      go false false true = refl
      go false false false = refl

  -- where the window fits all of them, it fits the one in the middle
  pub fits_the_middle : (rows rest : List Shown) (row : Shown) → all_fit a c (rows ++ row ∷ rest) ≡ true → fits row.part.count a c ≡ true
  fits_the_middle [] rest row e = (both_hold (fits row.part.count a c) (all_fit a c rest) e).0
  fits_the_middle (r ∷ rows) rest row e = fits_the_middle rows rest row (both_hold (fits r.part.count a c) (all_fit a c (rows ++ row ∷ rest)) e).1

  module _ (row : ℕ → Outcome Shown) (first n : ℕ) where
    -- the windows of rows that are all there
    pub windows_of_rows : (rows : List Shown) → each_of row (range_with_len first n) ≡ answer rows
        → windows_of row first n a c ≡ need (all_fit a c rows) 7 (answer (map (window_at a c) rows))
    unfolding windows_of
    windows_of_rows rows e = after_answer (each_of row (range_with_len first n)) (each_of (window_in a c)) rows e ∙ windows_are rows

    -- and the rows of windows that are all there
    pub record Windows (windows : List Shown) : Type 0 where
      pub rows : List Shown
      pub found : each_of row (range_with_len first n) ≡ answer rows
      pub fit : all_fit a c rows ≡ true
      pub are : map (window_at a c) rows ≡ windows

    pub rows_of_windows : (windows : List Shown) → windows_of row first n a c ≡ answer windows → Windows windows
    unfolding windows_of
    rows_of_windows windows e =
        let (rows, found, fitted) = first_answered (each_of row (range_with_len first n)) (each_of (window_in a c)) windows e in
        let (fit, are) = passed 0 (all_fit a c rows) 7 (answer (map (window_at a c) rows)) windows (sym (windows_are rows) ∙ fitted) in
        record { rows = rows; found = found; fit = fit; are = answer_injective are }
