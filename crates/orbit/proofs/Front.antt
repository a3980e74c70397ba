-- The opening that is read of the first 20 bytes alone, as an array of them, is the opening of all bytes.
use Prim.Native.Nat.{ℕ, ◌+◌, ◌*◌, ◌≤◌}
use native.Mathlib.Nat.{zero-add}
use native.Mathlib.Omega.{arith}
use mathlib.Core.Path.{◌≡◌, ◌∙◌, sym, ap, ap₂}
use mathlib.Core.List.{List}
use lib.ListN.{length}
use borrow.Author.Tests.{le-leb}
use Rattle.std.proofs.lemmas.List.{length-take-le}
use Rattle.std.specs.Array.{IsFirstChunk}
use Rattle.answer.specs.Window.{bytes_at}
use Rattle.answer.proofs.Windows.{window_of_the_row}
use Rattle.vax.proofs.Front.{word}
use Rattle.vax.specs.Numbers.{vax_D}
use Rattle.orbit.specs.Opening.{orbit_number, in_part, time_at, per_orbit_opening}

module _ (s front : List ℕ) (is : IsFirstChunk s front 20) where
  number : orbit_number front ≡ orbit_number s
  number = ap₂ (λ (a b : ℕ). a + 65536 * b) (word 20 s front is 0 (omega arith)) (word 20 s front is 2 (omega arith))

  time : (at : ℕ) → at + 8 ≤ 20 → time_at front at ≡ time_at s at
  time at h =
      ap (λ (x : List ℕ). time_at x at) is.same
      ∙ ap (λ (x : List ℕ). in_part at (vax_D x)) (sym (window_of_the_row s 0 20 at 8 (record { begins = omega arith; ends = omega arith })) ∙ ap (λ (k : ℕ). bytes_at s k 8) (zero-add at))

  long : length front ≡ 20
  long = ap length is.same ∙ length-take-le 20 s is.enough

  pub opening : per_orbit_opening front ≡ per_orbit_opening s
  opening = simp (le-leb 20 (length front) (omega (arith, long)), le-leb 20 (length s) is.enough, time 4 (omega arith), time 12 (omega arith), number)
