-- The rows of a strip, judged one after the other: those found so far, and whether the window fits all of them.
use Prim.Native.Nat.{ℕ, ◌+◌, ◌≤◌, ◌<◌}
use mathlib.Core.Path.{◌≡◌, refl, ◌∙◌, sym, ap, ap₂}
use mathlib.Core.Bool.{Bool, true, false, ◌&&◌}
use mathlib.Core.List.{List, [], ◌∷◌, ◌++◌, map}
use Rattle.answer.specs.Outcome.{answer, refuse, need}
use Rattle.answer.specs.Window.{fits, window_at, window_in}
use Rattle.answer.specs.declared.Part.{Part}
use Rattle.answer.specs.declared.Shown.{Shown}
use Rattle.answer.proofs.Outcomes.{after_refusal}
use Rattle.std.specs.List.{range_with_len}
use Rattle.reader.specs.declared.Kind.{Kind}
use Rattle.reader.specs.Rows.{row_of}
use Rattle.plotter.specs.Strip.{each_of, windows_of}
use Rattle.plotter.specs.Private.{end_of, judged}
use Rattle.plotter.proofs.Found.{each_refused}
use Rattle.plotter.proofs.Going.{Starts, NextRow, Going, nothing_found, one_found, all_found}
use Rattle.plotter.proofs.Windows.{all_fit, fit_one_more, windows_of_rows}

pub record Judging (kind : Kind) (f : List ℕ) (first n a c : ℕ) (fit : Bool) (from found : ℕ) : Type 0 where
  pub rows : List Shown
  pub going : Going kind f first n found from rows
  pub fits_all : fit ≡ all_fit a c rows

module _ (kind : Kind) (f : List ℕ) (first n a c : ℕ) where
  pub nothing_judged : (from : ℕ) → Starts kind f first from → Judging kind f first n a c true from 0
  nothing_judged from s = record { rows = []; going = nothing_found kind f first n from s; fits_all = refl }

  -- windows that are refused because a row is
  pub row_refused : (m p : ℕ) → each_of (row_of kind f) (range_with_len first n) ≡ refuse m p → windows_of (row_of kind f) first n a c ≡ refuse m p
  unfolding windows_of
  row_refused m p e = after_refusal (each_of (row_of kind f) (range_with_len first n)) (each_of (window_in a c)) m p e

  module _ (fit : Bool) (from found : ℕ) (j : Judging kind f first n a c fit from found) where
    pub one_judged : found < n → (next : Shown) → NextRow kind f (first + found) next → (fitted : Bool) → fitted ≡ fits next.part.count a c
        → Judging kind f first n a c (fit && fitted) (end_of next) (found + 1)
    one_judged more next r fitted e = record {
      rows = j.rows ++ r.row ∷ [];
      going = one_found kind f first n found from j.rows j.going more next r;
      fits_all =
          ap₂ ◌&&◌ j.fits_all (e ∙ ap (λ (p : Part). fits p.count a c) (sym r.part))
          ∙ sym (fit_one_more a c j.rows r.row);
    }

    pub one_refused : found < n → (m p : ℕ) → row_of kind f (first + found) ≡ refuse m p → judged (windows_of (row_of kind f) first n a c) ≡ refuse m p
    one_refused more m p e = ap judged (row_refused m p (each_refused (row_of kind f) first found j.rows j.going.so_far n m p more e))

    pub all_judged : n ≤ found → judged (windows_of (row_of kind f) first n a c) ≡ need fit 7 (answer tt)
    all_judged done =
        ap judged
        (windows_of_rows a c (row_of kind f) first n j.rows (all_found kind f first n found from j.rows j.going done) ∙ ap (λ (b : Bool). need b 7 (answer (map (window_at a c) j.rows))) (sym j.fits_all))
        ∙ go fit
      where
        go : (b : Bool) → judged (need b 7 (answer (map (window_at a c) j.rows))) ≡ need b 7 (answer tt)
        go true = refl
        go false = refl
