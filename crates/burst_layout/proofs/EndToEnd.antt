-- The fields of section 8.1 stand end to end and fill the row, each of a size that fits its type. That is one test computed
-- over the whole list; what it says of the field at any position follows by induction.
use Prim.Native.Nat.{ℕ, zero, suc, ◌+◌, ◌≤◌}
use native.Mathlib.Omega.{arith}
use mathlib.Core.Path.{◌≡◌, refl, sym, subst}
use mathlib.Core.Bool.{Bool, true, ◌&&◌}
use mathlib.Core.List.{List, [], ◌∷◌}
use lib.Dec.{eqb, ltb}
use borrow.Author.Tests.{eqb-true, ltb-true}
use Rattle.answer.specs.Outcome.{answer}
use Rattle.answer.proofs.Outcomes.{answer_is_no_refusal, answer_injective}
use Rattle.answer.proofs.Tests.{both_hold}
use Rattle.burst_layout.specs.declared.Storage.{Storage}
use Rattle.burst_layout.specs.declared.Storage.TheVariants.{Unsigned, Signed, Float4, Float8, Text}
use Rattle.burst_layout.specs.declared.Field.{Field}
use Rattle.burst_layout.specs.Layout.{layout, line_in, field_at}
use Rattle.bursts.specs.Rows.{record_size}
use Rattle.burst_layout.specs.Row.{SizeFits, EndToEnd}

-- the test: what `SizeFits` and `EndToEnd` say, as Booleans
abbrev size_fits : Storage → ℕ → Bool
size_fits Unsigned n = eqb n 4
size_fits Signed n = eqb n 4
size_fits Float4 n = eqb n 4
size_fits Float8 n = eqb n 8
size_fits Text n = ltb 0 n

abbrev end_to_end : (n at : ℕ) → List Field → Bool
end_to_end n at [] = eqb n 256 && eqb at record_size
end_to_end n at (f ∷ fs) = (eqb f.position n && (eqb f.place at && size_fits f.stored f.size)) && end_to_end (n + 1) (at + f.size) fs

fits_as_tested : (s : Storage) (n : ℕ) → size_fits s n ≡ true → SizeFits s n
fits_as_tested Unsigned n e = eqb-true n 4 e
fits_as_tested Signed n e = eqb-true n 4 e
fits_as_tested Float4 n e = eqb-true n 4 e
fits_as_tested Float8 n e = eqb-true n 8 e
fits_as_tested Text n e = ltb-true 0 n e

as_tested : (n at : ℕ) (fs : List Field) → end_to_end n at fs ≡ true → EndToEnd n at fs
as_tested n at [] e =
    let t = both_hold (eqb n 256) (eqb at record_size) e in
    (eqb-true n 256 t.0, eqb-true at record_size t.1)
as_tested n at (f ∷ fs) e =
    let t = both_hold (eqb f.position n && (eqb f.place at && size_fits f.stored f.size)) _ e in
    let u = both_hold (eqb f.position n) _ t.0 in
    let v = both_hold (eqb f.place at) _ u.1 in
    (eqb-true f.position n u.0, eqb-true f.place at v.0, fits_as_tested f.stored f.size v.1, as_tested (n + 1) (at + f.size) fs t.1)

pub fields_stand_end_to_end : EndToEnd 1 0 layout
unfolding layout
fields_stand_end_to_end = as_tested 1 0 layout refl

-- fields that begin at `at` begin in the row or at its end
begin_in_the_row : (n at : ℕ) (fs : List Field) → EndToEnd n at fs → at ≤ record_size
begin_in_the_row n at [] e = omega arith
begin_in_the_row n at (f ∷ fs) e = omega (arith, begin_in_the_row (n + 1) (at + f.size) fs e.3)

-- the field at i, counted from 0, of fields end to end whose first has position n and begins at `at`
pub record Stands (n at i : ℕ) (f : Field) : Type 0 where
  pub in_order : f.position ≡ n + i
  pub not_before : at ≤ f.place
  pub in_the_row : f.place + f.size ≤ record_size
  pub fits : SizeFits f.stored f.size

pub stands : (n at : ℕ) (fs : List Field) → EndToEnd n at fs → (i : ℕ) (f : Field) → line_in fs i ≡ answer f → Stands n at i f
stands n at [] e i f q = absurd (answer_is_no_refusal (sym q))
stands n at (g ∷ fs) e zero f q = subst (λ (x : Field). Stands n at 0 x) (answer_injective q) here
  where
    here : Stands n at 0 g
    here = record { in_order = omega arith; not_before = omega arith; in_the_row = omega (arith, begin_in_the_row (n + 1) (at + g.size) fs e.3); fits = e.2 }
stands n at (g ∷ fs) e (suc i) f q =
    let later = stands (n + 1) (at + g.size) fs e.3 i f q in
    record { in_order = omega arith; not_before = omega arith; in_the_row = later.in_the_row; fits = later.fits }

-- the field at position n is the one at n where the first has position 0
stands_in_the_row : (n : ℕ) (f : Field) → field_at n ≡ answer f → Stands 0 0 n f
stands_in_the_row zero f q = absurd (answer_is_no_refusal (sym q))
stands_in_the_row (suc i) f q =
    let it = stands 1 0 layout fields_stand_end_to_end i f q in
    record { in_order = omega arith; not_before = it.not_before; in_the_row = it.in_the_row; fits = it.fits }

module _ (n : ℕ) (f : Field) (q : field_at n ≡ answer f) where
  pub field_has_its_position : f.position ≡ n
  field_has_its_position = omega (arith, (stands_in_the_row n f q).in_order)

  pub field_is_in_the_row : f.place + f.size ≤ record_size
  field_is_in_the_row = (stands_in_the_row n f q).in_the_row

  pub field_fits_its_type : SizeFits f.stored f.size
  field_fits_its_type = (stands_in_the_row n f q).fits
