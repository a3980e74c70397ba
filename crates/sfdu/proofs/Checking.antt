-- The check of a file, and reading a row: too big, or the scan of all of it.
use Prim.Native.Nat.{ℕ, ◌≤◌, ◌<◌}
use mathlib.Core.Path.{◌≡◌, ◌∙◌, sym, ap}
use mathlib.Core.List.{List}
use lib.ListN.{length}
use borrow.Author.Tests.{le-leb, lt-leb, leb-true}
use lib.Dec.{leb}
use Rattle.std.specs.Prelude.{None, unwrap_or}
use Rattle.label.specs.declared.Versions.{Versions}
use Rattle.answer.specs.Outcome.{Outcome, answer, refuse, mapped}
use Rattle.answer.specs.Nth.{nth}
use Rattle.answer.specs.Size.{largest_file}
use Rattle.answer.proofs.Outcomes.{passed, after_answer}
use Rattle.sfdu.specs.Row.{Row, whole}
use Rattle.sfdu.specs.Scan.{scan}
use Rattle.sfdu.specs.Check.{rows_of_file}
use Rattle.sfdu.specs.Find.{find_row}
use Rattle.sfdu.specs.Search.{nothing_seen, see_all}
use Rattle.sfdu.specs.Private.{Searched}
use Rattle.sfdu.specs.declared.Seen.{Seen}

-- which versions of the label are allowed
module _ (versions : Versions) where
  pub too_big : (f : List ℕ) → largest_file < length f → rows_of_file versions f ≡ refuse 14 0
  unfolding rows_of_file
  too_big f h = rw (lt-leb (length f) largest_file h)

  pub not_too_big : (f : List ℕ) → length f ≤ largest_file → rows_of_file versions f ≡ scan versions f
  unfolding rows_of_file
  not_too_big f h = rw (le-leb (length f) largest_file h)

  -- the nested search of the whole file sees the file's rows
  pub whole_file : (f : List ℕ) (k : ℕ) (r : Outcome Seen) → length f ≤ largest_file → Searched versions f 0 8 (unwrap_or None) k nothing_seen r
      → r ≡ mapped (see_all k nothing_seen) (rows_of_file versions f)
  unfolding scan
  whole_file f k r h searched = searched.sees ∙ ap (mapped (see_all k nothing_seen)) (sym (not_too_big f h))

  -- a file whose rows are known: reading row k is taking the k-th of them
  pub reads_the_row : (f : List ℕ) (rows : List Row) → rows_of_file versions f ≡ answer rows → (k : ℕ) → find_row versions f k ≡ mapped whole (nth rows k)
  unfolding find_row
  reads_the_row f rows e k = after_answer (rows_of_file versions f) (λ rs. mapped whole (nth rs k)) rows e

  -- an accepted file is small enough, and its rows are the scan's
  pub accepted_says : (f : List ℕ) (rows : List Row) → rows_of_file versions f ≡ answer rows → (length f ≤ largest_file) × (scan versions f ≡ answer rows)
  unfolding rows_of_file
  accepted_says f rows e =
      let (small, is) = passed 0 (leb (length f) largest_file) 14 (scan versions f) rows e in (leb-true _ _ small, is)
