-- The D number's float over whole numbers: it is the nearest float, it is at most 4 last places off, a carry included, and the dropped
-- form's float is the same or the next one towards zero.
use Prim.Native.Nat.{ℕ, suc, ◌+◌, ◌-◌, ◌*◌, ◌/◌, ◌%◌, ◌^◌, ◌≤◌, ◌<◌, compare, Ordering}
use native.Mathlib.Nat.{eq-zero-or-pos, zero-mul}
use native.Mathlib.Omega.{arith}
use mathlib.Core.Path.{◌≡◌, ◌∙◌, refl, sym, ap, subst}
use mathlib.Core.Bool.{Bool, true, false, not, ◌&&◌, cond}
use mathlib.Core.Logic.{◌⊎◌, inl, inr}
use mathlib.Core.List.{List}
use lib.ListN.{length, get_or}
use lib.Dec.{T, leb, eqb}
use lib.Pow.{pow_pos}
use lib.Ieee.{Float, nan, inf, fin, binary64, nearest, odd, round, fits, to_bits}
use lib.Ieee.Exact.{HasValue, odd_sign}
use lib.Ieee.Nearest.{closest}
use lib.Ieee.Bits.{of_bits-fits}
use lib.Ieee.Scale.{finite}
use Rattle.answer.specs.Outcome.{answer, need}
use Rattle.rounding.specs.Nearest.{TheNearest, sign_in, NextToZero}
use Rattle.rounding.proofs.Law.{round_is_nearest}
use Rattle.rounding.proofs.Steps.{follows}
use Rattle.vax.specs.Fields.{sign_of, negative, exponent, fraction_D, mantissa_D, dropped_mantissa_D}
use Rattle.vax.specs.Numbers.{zero_float, nearest_D, dropped_D, vax_D}
use Rattle.vax.specs.Private.{patterned, below_sign_D}
use Rattle.vax.specs.Nearest.{ToNearest, NearestD, OneStep, OneStepD}
use Rattle.vax.proofs.Scaled.{odd_shifted}
use Rattle.vax.proofs.Patterns.{written}
use Rattle.vax.proofs.Rounded.{eighth_is, rounded}
use Rattle.vax.proofs.Mantissas.{to_nearest, three_fewer}
use Rattle.vax.proofs.Cases.{reading_has}
use Rattle.vax.proofs.Exact.{zero_value}

-- ---- one number
finite_value : (x : Float) (s : Bool) (a c : ℕ) → HasValue x s a c → T (finite x)
finite_value nan s a c v = absurd v
finite_value (inf t) s a c v = absurd v
finite_value (fin t m e) s a c v = tt

sign_value : (x : Float) (s : Bool) (a c : ℕ) → HasValue x s a c → sign_in x ≡ s
sign_value nan s a c v = absurd v
sign_value (inf t) s a c v = absurd v
sign_value (fin t m e) s a c v = v.0

-- the last of the mantissas become the next power of two
carries : (m : ℕ) → m < 2 ^ 56 → 2 ^ 56 ≤ m + 4 → closest m 8 * 8 ≡ 2 ^ 56
carries m high h =
    let cut : m / 8 ≡ 2 ^ 53 - 1 = omega arith in
    let ends_in_1 : m / 8 % 2 ≡ 1 = ap (λ (x : ℕ). x % 2) cut in
    omega (arith, eighth_is m)

of_mantissa : (s : Bool) (m e : ℕ) → 2 ^ 55 ≤ m → m < 2 ^ 56 → e < 256 → ToNearest (round binary64 s (m * 2 ^ e) (2 ^ 184)) s m e
of_mantissa s m e low high small =
    let x = round binary64 s (m * 2 ^ e) (2 ^ 184) in
    let q = closest m 8 in
    let eighth = eighth_is m in
    let is : odd 56 s (q * 8) e 184 ≡ x = odd_shifted 53 s q e 181 3 (omega arith) ∙ sym (rounded s m e low high small) in
    let v : HasValue x s (q * 8 * 2 ^ e) (2 ^ 184) = subst (λ (y : Float). HasValue y s (q * 8 * 2 ^ e) (2 ^ 184)) is (odd_sign 56 s (q * 8) e 184) in
    record {
      nearest = round_is_nearest binary64 s (m * 2 ^ e) (2 ^ 184) (pow_pos 184) (finite_value x s (q * 8 * 2 ^ e) (2 ^ 184) v);
      places = q * 8;
      value = v;
      error = omega arith;
      carry = carries m high;
    }

zero_rounded : round binary64 false 0 (2 ^ 184) ≡ zero_float
zero_rounded = unfold round in refl

of_zero : (e : ℕ) → ToNearest zero_float false 0 e
of_zero e =
    let none : 0 ≡ 0 * 2 ^ e = sym (zero-mul (2 ^ e)) in
    record {
      nearest =
          subst (λ (a : ℕ). TheNearest binary64 zero_float false a (2 ^ 184)) none
          (subst (λ (x : Float). TheNearest binary64 x false 0 (2 ^ 184)) zero_rounded
          (round_is_nearest binary64 false 0 (2 ^ 184) (pow_pos 184) (subst (λ (x : Float). T (finite x)) (sym zero_rounded) tt)));
      places = 0;
      value = zero_value e 184;
      error = omega arith;
      carry = λ (h : 2 ^ 56 ≤ 0 + 4). absurd (omega arith);
    }

-- ---- what a call answers
pub vax_D_nearest : (s : List ℕ) → fraction_D s < 2 ^ 55 → NearestD s (vax_D s)
vax_D_nearest s small =
    reading_has (λ (y : Float) (sign : Bool) (m : ℕ). ToNearest y sign m (exponent s)) 8 (nearest_D s) s (mantissa_D s)
    (of_mantissa (negative s) (mantissa_D s) (exponent s) (omega arith) (omega arith) (omega arith)) (of_zero (exponent s))

-- ---- the two forms
module _ (s : List ℕ) (bytes : (i : ℕ) → get_or s i 0 < 256) where
  one_bit : sign_of s < 2
  one_bit = let a = bytes 0 in let b = bytes 1 in omega arith

  small : fraction_D s < 2 ^ 55
  small =
      let a = bytes 0 in
      let b = bytes 1 in
      let c = bytes 2 in
      let d = bytes 3 in
      let e = bytes 4 in
      let f = bytes 5 in
      let g = bytes 6 in
      let h = bytes 7 in
      omega arith

  abbrev m : ℕ
  m = below_sign_D s

  abbrev bits : ℕ → ℕ
  bits size = sign_of s * 2 ^ 63 + 894 * 2 ^ 52 + size

  own_bits : (size : ℕ) → size ≤ 2 ^ 60 → to_bits binary64 (patterned size s) ≡ bits size
  own_bits size h = written (bits size) (omega (arith, one_bit)) (omega arith)

  nearest_is : patterned (closest m 8) s ≡ nearest_D s
  nearest_is = to_nearest s (one_bit, small)

  dropped_is : patterned (m / 8) s ≡ dropped_D s
  dropped_is = three_fewer s (one_bit, small)

  -- a float of the sign s and of any size
  float : (x : Float) (size a : ℕ) → patterned size s ≡ x → HasValue x (negative s) a (2 ^ 184)
      → T (finite x) × T (fits binary64 x) × (sign_in x ≡ negative s)
  float x size a e v =
      (finite_value x (negative s) a (2 ^ 184) v, subst (λ (y : Float). T (fits binary64 y)) e (of_bits-fits binary64 (bits size)), sign_value x (negative s) a (2 ^ 184) v)

  up_one : closest m 8 ≡ suc (m / 8) → NextToZero binary64 (dropped_D s) (nearest_D s)
  up_one e =
      let x = float (dropped_D s) (m / 8) (dropped_mantissa_D s * 2 ^ exponent s) dropped_is (odd_sign 56 (negative s) (dropped_mantissa_D s) (exponent s) 184) in
      let near = of_mantissa (negative s) (mantissa_D s) (exponent s) (omega arith) (omega (arith, small)) (omega arith) in
      let y = float (nearest_D s) (closest m 8) (near.places * 2 ^ exponent s) nearest_is near.value in
      follows binary64 (dropped_D s) (nearest_D s) x.0 y.0 x.1 y.1 (x.2 ∙ sym y.2)
      (ap (λ (z : Float). to_bits binary64 z) (sym nearest_is)
      ∙ own_bits (closest m 8) (omega (arith, small, eighth_is m))
      ∙ ap bits e
      ∙ one_more (m / 8)
      ∙ ap suc (sym (own_bits (m / 8) (omega (arith, small))) ∙ ap (λ (z : Float). to_bits binary64 z) dropped_is))
    where
      one_more : (q : ℕ) → bits (suc q) ≡ suc (bits q)
      one_more q = omega arith

  eighths : (closest m 8 ≡ m / 8) ⊎ (closest m 8 ≡ suc (m / 8))
  eighths = go (compare (m % 8 * 2) 8)
    where
      go : (o : Ordering) → (nearest (m / 8) o ≡ m / 8) ⊎ (nearest (m / 8) o ≡ suc (m / 8))
      go Ordering.lt = inl refl
      go Ordering.gt = inr refl
      go Ordering.eq = elim (eq-zero-or-pos (m / 8 % 2)) [ inl z ↦ inl (omega arith) | inr o ↦ inr (omega arith) ]

  step : OneStep (answer (dropped_D s)) (answer (nearest_D s))
  step = elim eighths [
    | inl e ↦ inl (sym dropped_is ∙ ap (λ (q : ℕ). patterned q s) (sym e) ∙ nearest_is)
    | inr e ↦ inr (up_one e)
  ]

pub one_step : (s : List ℕ) → OneStepD s
one_step s bytes = go (leb 8 (length s)) (negative s) (eqb (exponent s) 0)
  where
    go : (long sign zero : Bool)
        → OneStep (need long 1 (need (not (sign && zero)) 9 (answer (cond zero zero_float (dropped_D s)))))
        (need long 1 (need (not (sign && zero)) 9 (answer (cond zero zero_float (nearest_D s)))))
    go false sign zero = (refl, refl)
    go true true true = (refl, refl)
    go true true false = step s bytes
    go true false true = inl refl
    go true false false = step s bytes
