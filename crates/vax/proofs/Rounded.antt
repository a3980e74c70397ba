-- ±m·2^e / 2^184, of a mantissa m of 56 digits, rounded: the float of the nearest eighth of m, whose last place is 2^(e−181). The rounding
-- works in units of 2^(−1074), of which the number has e + 946 digits; it drops e + 893 of them, so that 53 are left.
use Prim.Native.Nat.{ℕ, ◌+◌, ◌-◌, ◌*◌, ◌/◌, ◌%◌, ◌^◌, ◌≤◌, ◌<◌, compare, Ordering}
use native.Mathlib.Nat.{lt_of_lt_of_le, mul_assoc, mul-pos, mul-le-mul_right, mul-div_cancel}
use native.Mathlib.Omega.{arith}
use mathlib.Core.Path.{◌≡◌, ◌∙◌, sym, ap, subst}
use mathlib.Core.Bool.{Bool}
use lib.Dec.{lit<}
use lib.Pow.{pow-add, pow_pos, pow_mono, shl_lt}
use lib.Ieee.{binary64, size, nearest, odd, units, round}
use lib.Ieee.Digits.{size-le}
use lib.Ieee.Fits.{round_is}
use lib.Ieee.Nearest.{closest, closest_same}
use borrow.Author.Tests.{lt-ltb}
use Rattle.rounding.proofs.Multiples.{Says, says}
use Rattle.rounding.proofs.Patterns.{size_gt}
use Rattle.vax.proofs.Scaled.{odd_raised, odd_digit}

-- the nearest eighth, in one formula: three is added, and one more where the eighth that is cut off is odd
pub eighth_is : (m : ℕ) → (m + 3 + m / 8 % 2) / 8 ≡ closest m 8
eighth_is m = go (compare (m % 8 * 2) 8) (says (m % 8 * 2) 8)
  where
    go : (o : Ordering) → Says o (m % 8 * 2) 8 → (m + 3 + m / 8 % 2) / 8 ≡ nearest (m / 8) o
    go Ordering.lt h = omega arith
    go Ordering.eq h = omega arith
    go Ordering.gt h = omega arith

-- whole multiples of 16 in front come out as they are
pub eighth_above : (e f : ℕ) → closest (e * 2 ^ 55 + f) 8 ≡ e * 2 ^ 52 + closest f 8
eighth_above e f =
    sym (eighth_is (e * 2 ^ 55 + f))
    ∙ ap (λ (b : ℕ). (e * 2 ^ 55 + f + 3 + b) / 8) same_parity
    ∙ cut (f / 8 % 2)
    ∙ ap (λ (x : ℕ). e * 2 ^ 52 + x) (eighth_is f)
  where
    above : (e * 2 ^ 55 + f) / 8 ≡ e * 2 ^ 52 + f / 8
    above = omega arith

    parity : (x : ℕ) → (e * 2 ^ 52 + x) % 2 ≡ x % 2
    parity x = omega arith

    same_parity : (e * 2 ^ 55 + f) / 8 % 2 ≡ f / 8 % 2
    same_parity = ap (λ (x : ℕ). x % 2) above ∙ parity (f / 8)

    cut : (b : ℕ) → (e * 2 ^ 55 + f + 3 + b) / 8 ≡ e * 2 ^ 52 + (f + 3 + b) / 8
    cut b = omega arith

units_is : (s : Bool) (q k : ℕ) → q * 2 ^ k < 2 ^ 2098 → units binary64 s q k ≡ odd 54 s q k 1074
unfolding units
units_is s q k h = simp (lt-ltb (q * 2 ^ k) (2 ^ 2098) h)

module _ (s : Bool) (m e : ℕ) (low : 2 ^ 55 ≤ m) (high : m < 2 ^ 56) (small : e < 256) where
  abbrev q : ℕ
  q = closest m 8

  abbrev n : ℕ
  n = m * 2 ^ e * 2 ^ 1074

  -- n with any power of two divided out
  scaled : (j i : ℕ) → e + 1074 ≡ j + i → n ≡ m * 2 ^ j * 2 ^ i
  scaled j i h =
      mul_assoc m (2 ^ e) (2 ^ 1074)
      ∙ ap (λ (x : ℕ). m * x) (sym (pow-add 2 e 1074) ∙ ap (λ (x : ℕ). 2 ^ x) h ∙ pow-add 2 j i)
      ∙ sym (mul_assoc m (2 ^ j) (2 ^ i))

  whole : n / 2 ^ 184 ≡ m * 2 ^ (e + 890)
  whole = ap (λ (x : ℕ). x / 2 ^ 184) (scaled (e + 890) 184 (omega arith)) ∙ mul-div_cancel (m * 2 ^ (e + 890)) (pow_pos 184)

  dropped : size (n / 2 ^ 184) - 53 ≡ e + 893
  dropped =
      ap (λ (x : ℕ). size x - 53) whole
      ∙ exactly (size (m * 2 ^ (e + 890)))
      (size-le (m * 2 ^ (e + 890)) (56 + (e + 890)) (shl_lt 56 (e + 890) high))
      (size_gt (m * 2 ^ (e + 890)) (55 + (e + 890)) (subst (λ (x : ℕ). x ≤ m * 2 ^ (e + 890)) (sym (pow-add 2 55 (e + 890))) (mul-le-mul_right (2 ^ (e + 890)) low)))
    where
      exactly : (z : ℕ) → z ≤ 56 + (e + 890) → 55 + (e + 890) < z → z - 53 ≡ e + 893
      exactly z a b = omega arith

  kept : closest n (2 ^ 184 * 2 ^ (e + 893)) ≡ q
  kept = closest_same n (2 ^ 184 * 2 ^ (e + 893)) m 8 (mul-pos (pow_pos 184) (pow_pos (e + 893))) (lit< tt) alike
    where
      digits : e + 1077 ≡ 184 + (e + 893)
      digits = omega arith

      alike : n * 8 ≡ m * (2 ^ 184 * 2 ^ (e + 893))
      alike =
          mul_assoc (m * 2 ^ e) (2 ^ 1074) 8
          ∙ mul_assoc m (2 ^ e) (2 ^ 1077)
          ∙ ap (λ (x : ℕ). m * x) (sym (pow-add 2 e 1077) ∙ ap (λ (x : ℕ). 2 ^ x) digits ∙ pow-add 2 184 (e + 893))

  bounds : (0 < q) × (q < 2 ^ 54)
  bounds = let is = eighth_is m in (omega arith, omega arith)

  pub rounded : round binary64 s (m * 2 ^ e) (2 ^ 184) ≡ odd 53 s q e 181
  rounded =
      let digits : 54 + (e + 893) ≤ 2098 = omega arith in
      let under : q * 2 ^ (e + 893) < 2 ^ 2098 = lt_of_lt_of_le (shl_lt 54 (e + 893) bounds.1) (pow_mono digits) in
      round_is binary64 s (m * 2 ^ e) (2 ^ 184)
      ∙ ap (λ (k : ℕ). units binary64 s (closest n (2 ^ 184 * 2 ^ k)) k) dropped
      ∙ ap (λ (x : ℕ). units binary64 s x (e + 893)) kept
      ∙ units_is s q (e + 893) under
      ∙ odd_raised 54 s q e 181 893
      ∙ odd_digit 53 s q e 181 bounds.0 bounds.1
