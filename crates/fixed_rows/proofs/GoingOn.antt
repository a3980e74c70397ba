-- Going on from a place, case by case; and from the start of row k the row is row k, so that from the end of one row's bytes it is
-- the next.
use Prim.Native.Nat.{ℕ, ◌+◌, ◌*◌, ◌-◌, ◌≤◌, ◌<◌}
use native.Mathlib.Nat.{lt_of_not-le, mul-mod_right, mul-le-mul_left}
use native.Mathlib.Decide.{dec_le}
use native.Mathlib.Omega.{arith}
use mathlib.Core.Path.{◌≡◌, ◌∙◌, sym, ap}
use mathlib.Core.Bool.{true, false}
use mathlib.Core.List.{List}
use lib.ListN.{length}
use borrow.Author.Tests.{le-leb, lt-ltb, le-ltb}
use Rattle.answer.specs.Outcome.{answer, refuse, mapped}
use Rattle.answer.proofs.Outcomes.{after_answer}
use Rattle.fixed_rows.specs.Shape.{Shape, step, row_at}
use Rattle.fixed_rows.specs.Check.{row_count}
use Rattle.fixed_rows.specs.Read.{find_row}
use Rattle.fixed_rows.specs.Jump.{start_of}
use Rattle.fixed_rows.specs.From.{starts, start_from, row_from}
use Rattle.fixed_rows.proofs.Accepted.{accepted_is_whole}
use Rattle.fixed_rows.proofs.Rows.{ends_inside, row_is_there, no_such_row}

-- a row starts there, or none does
module _ (first step : ℕ) (f : List ℕ) (n : ℕ) (counted : row_count first step f ≡ answer n) (from : ℕ) where
  pub starts_there : starts first step (length f) from ≡ true → start_from first step f from ≡ answer from
  starts_there t = after_answer (row_count first step f) _ n counted ∙ rw t

  pub starts_nowhere : starts first step (length f) from ≡ false → start_from first step f from ≡ refuse 6 0
  starts_nowhere t = after_answer (row_count first step f) _ n counted ∙ rw t

module _ (first step bytes : ℕ) where
  -- the start of a row
  is_start : (k : ℕ) → first + step * k < bytes → starts first step bytes (first + step * k) ≡ true
  is_start k h =
      let rest : first + step * k - first ≡ step * k = omega arith in
      rw (le-leb first (first + step * k) (omega arith), lt-ltb (first + step * k) bytes h, rest, mul-mod_right step k)

  -- the end of the file, and what lies behind it
  no_start : (from : ℕ) → first ≤ from → bytes ≤ from → starts first step bytes from ≡ false
  no_start from g h = rw (le-leb first from g, le-ltb from bytes h)

module _ (s : Shape) (some : 0 < step s) (f : List ℕ) (n : ℕ) (counted : row_count s.first (step s) f ≡ answer n) (from k : ℕ) (begins : from ≡ start_of s.first (step s) k) where
  begins_there : k < n → row_from s f from ≡ find_row s f k
  begins_there h =
      let inside = ends_inside s.first (step s) f k n counted h in
      let yes : starts s.first (step s) (length f) from ≡ true =
      ap (starts s.first (step s) (length f)) begins ∙ is_start s.first (step s) (length f) k (omega (arith, some, inside)) in
      ap (mapped (row_at s)) (starts_there s.first (step s) f n counted from yes)
      ∙ ap (λ (p : ℕ). answer (row_at s p)) begins ∙ sym (row_is_there s some f n counted k h)

  ends_there : n ≤ k → row_from s f from ≡ find_row s f k
  ends_there h =
      let whole = (accepted_is_whole s.first (step s) f n counted).rows in
      let more = mul-le-mul_left (step s) h in
      let no = no_start s.first (step s) (length f) from (omega (arith, begins)) (omega (arith, begins, whole, more)) in
      ap (mapped (row_at s)) (starts_nowhere s.first (step s) f n counted from no) ∙ sym (no_such_row s some f n counted k h)

  -- the theorem: from where row k starts, or would start, the row is row k
  pub row_begins : row_from s f from ≡ find_row s f k
  row_begins = elim (dec_le n k) [ yes g ↦ ends_there g | no g ↦ begins_there (lt_of_not-le g) ]
