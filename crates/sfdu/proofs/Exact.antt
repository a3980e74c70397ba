-- Demand 2's "exactly", for labelled files, told by the grammar; the work is in `Forests`. The statement over every kind of
-- file is the reader's `demand_2`.
use Prim.Native.Nat.{ℕ, ◌≤◌}
use mathlib.Core.Path.{◌≡◌, ◌∙◌, sym, ap}
use mathlib.Core.Logic.{◌↔◌}
use mathlib.Core.List.{List}
use lib.ListN.{length}
use Rattle.label.specs.declared.Versions.{Versions}
use Rattle.answer.specs.Outcome.{answer}
use Rattle.answer.specs.Size.{largest_file}
use Rattle.sfdu.specs.Row.{Row}
use Rattle.sfdu.specs.Scan.{scan}
use Rattle.sfdu.specs.Forest.{Forest, encode, Valid, leaves}
use Rattle.sfdu.specs.Check.{rows_of_file}
use Rattle.sfdu.proofs.ForestOf.{forest_of}
use Rattle.sfdu.proofs.Checking.{accepted_says, not_too_big}
use Rattle.sfdu.proofs.Forests.{valid_is_accepted_from, accepted_divides_from, forest_again}

-- the leaves of a file's forest, as rows
abbrev pub file_leaves : Forest → List Row
file_leaves F = leaves 1 (λ at. at) 0 F

-- which versions of the label are allowed
module _ (versions : Versions) where
  -- the forest of a file, at depths 1 to 8
  abbrev pub forest_of_file : List ℕ → Forest
  forest_of_file f = forest_of versions 8 f

  -- this forest divides the file, with no gap and no overlap, and these are its leaves
  pub record DividesFile (f : List ℕ) (rows : List Row) (F : Forest) : Type 0 where
    pub bytes : encode F ≡ f
    pub valid : Valid versions 8 F
    pub rows_are : file_leaves F ≡ rows

  -- where the scan finds rows, the file's forest divides it and these are its leaves
  pub accepted_divides : (f : List ℕ) (rows : List Row) → scan versions f ≡ answer rows → DividesFile f rows (forest_of_file f)
  unfolding scan
  accepted_divides f rows e =
      let d = accepted_divides_from versions 8 1 (λ at. at) 0 f rows e in
      record { bytes = d.bytes; valid = d.valid; rows_are = d.rows_are }

  -- where some forest divides the file, the scan finds its leaves
  pub dividing_is_accepted : (f : List ℕ) (rows : List Row) (F : Forest) → DividesFile f rows F → scan versions f ≡ answer rows
  unfolding scan
  dividing_is_accepted f rows F d =
      ap (scan versions) (sym d.bytes) ∙ valid_is_accepted_from versions 8 1 (λ at. at) 0 F d.valid ∙ ap answer d.rows_are

  -- the scan finds rows exactly when there is a forest that divides the file into them
  pub exact : (f : List ℕ) (rows : List Row) → (scan versions f ≡ answer rows) ↔ ((F : Forest) × DividesFile f rows F)
  exact f rows = ((λ e. (forest_of_file f, accepted_divides f rows e)), (λ d. dividing_is_accepted f rows d.0 d.1))

  -- and that forest is the only one
  pub only_one_forest : (F G : Forest) → Valid versions 8 F → Valid versions 8 G → encode F ≡ encode G → F ≡ G
  only_one_forest F G v w e = sym (forest_again versions 8 F v) ∙ ap (forest_of versions 8) e ∙ forest_again versions 8 G w

  -- the rows of a file that is not too big: exactly those of a forest that divides it
  pub accepted_exactly : (f : List ℕ) (rows : List Row)
      → (rows_of_file versions f ≡ answer rows) ↔ ((length f ≤ largest_file) × ((F : Forest) × DividesFile f rows F))
  accepted_exactly f rows = (
    (λ e. let (small, found) = accepted_says versions f rows e in (small, (exact f rows).0 found)),
    (λ d. not_too_big versions f d.0 ∙ (exact f rows).1 d.1),
  )
