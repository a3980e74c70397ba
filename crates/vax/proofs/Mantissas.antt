-- What `vax_f`, `vax_d` and `vax_d_dropped` hand on to `number` gives the floats of the definitions. It is the exponent e and 52 digits,
-- which are those of a mantissa q of 53 digits behind its leading one: of F with 29 zeros more, and 181 for 152; of D with three fewer,
-- rounded or dropped, and 181 for 184.
use Prim.Native.Nat.{ℕ, ◌+◌, ◌*◌, ◌/◌, ◌^◌, ◌≤◌, ◌<◌}
use native.Mathlib.Omega.{arith}
use mathlib.Core.Path.{◌≡◌, ◌∙◌, sym, ap}
use mathlib.Core.List.{List}
use lib.ListN.{length}
use lib.Ieee.{Float, odd}
use lib.Ieee.Nearest.{closest}
use Rattle.vax.specs.Fields.{sign_of, negative, exponent, fraction_D, mantissa_F, mantissa_D}
use Rattle.vax.specs.Numbers.{by_exponent, exact_F, nearest_D, dropped_D, vax_F, vax_D, vax_D_dropped}
use Rattle.vax.specs.Private.{patterned, below_sign_F, below_sign_D, BitsF, BitsD}
use Rattle.vax.proofs.Scaled.{odd_shifted}
use Rattle.vax.proofs.Patterns.{read_as}
use Rattle.vax.proofs.Rounded.{eighth_is, eighth_above, rounded}
use Rattle.vax.proofs.Cases.{long_enough}

module _ (s : List ℕ) where
  -- any mantissa of 53 digits, or 2^53
  of_mantissa : (size q : ℕ) → sign_of s < 2 → 2 ^ 52 ≤ q → q ≤ 2 ^ 53 → size + 2 ^ 52 ≡ exponent s * 2 ^ 52 + q
      → patterned size s ≡ odd 53 (negative s) q (exponent s) 181
  of_mantissa size q one_bit low high e = read_as (sign_of s) (exponent s) q one_bit (omega arith) low high (sign_of s * 2 ^ 63 + 894 * 2 ^ 52 + size) (omega arith)

  widened : BitsF s → patterned (below_sign_F s * 2 ^ 29) s ≡ exact_F s
  widened bits =
      let small = bits.1 in
      of_mantissa (below_sign_F s * 2 ^ 29) (mantissa_F s * 2 ^ 29) bits.0 (omega arith) (omega arith) (omega arith)
      ∙ odd_shifted 24 (negative s) (mantissa_F s) (exponent s) 152 29 (omega arith)

  pub three_fewer : BitsD s → patterned (below_sign_D s / 8) s ≡ dropped_D s
  three_fewer bits =
      let small = bits.1 in
      let q = mantissa_D s / 8 in
      of_mantissa (below_sign_D s / 8) q bits.0 (omega arith) (omega arith) (omega arith)
      ∙ sym (odd_shifted 53 (negative s) q (exponent s) 181 3 (omega arith))
      ∙ ap (λ (m : ℕ). odd 56 (negative s) m (exponent s) 184) (omega arith)

  pub to_nearest : BitsD s → patterned (closest (below_sign_D s) 8) s ≡ nearest_D s
  to_nearest bits =
      let small = bits.1 in
      let eighth = eighth_is (mantissa_D s) in
      let all = eighth_above (exponent s) (fraction_D s) in
      let leading = eighth_above 1 (fraction_D s) in
      of_mantissa (closest (below_sign_D s) 8) (closest (mantissa_D s) 8) bits.0 (omega (arith, small, eighth)) (omega (arith, small, eighth)) (omega (arith, all, leading))
      ∙ sym (rounded (negative s) (mantissa_D s) (exponent s) (omega arith) (omega arith) (omega arith))

  pub from-F : (b : ℕ) → b ≡ below_sign_F s → BitsF s → 4 ≤ length s → by_exponent (patterned (b * 2 ^ 29) s) s ≡ vax_F s
  from-F b e bits h = rw e (ap (λ (x : Float). by_exponent x s) (widened bits) ∙ sym (long_enough (exact_F s) s 4 h))

  pub from-D : (b : ℕ) → b ≡ below_sign_D s → BitsD s → 8 ≤ length s → by_exponent (patterned (closest b 8) s) s ≡ vax_D s
  from-D b e bits h = rw e (ap (λ (x : Float). by_exponent x s) (to_nearest bits) ∙ sym (long_enough (nearest_D s) s 8 h))

  pub from-D-dropped : (b : ℕ) → b ≡ below_sign_D s → BitsD s → 8 ≤ length s → by_exponent (patterned (b / 8) s) s ≡ vax_D_dropped s
  from-D-dropped b e bits h = rw e (ap (λ (x : Float). by_exponent x s) (three_fewer bits) ∙ sym (long_enough (dropped_D s) s 8 h))
