-- The pattern of bits sign·2^63 + (e + 893)·2^52 + q is read as the float q·2^(e−181). The leading bit of q adds one to the exponent's
-- field; where q is 2^53 it adds two, and the digits' field is empty.
use Prim.Native.Nat.{ℕ, suc, ◌+◌, ◌-◌, ◌*◌, ◌/◌, ◌%◌, ◌^◌, ◌≤◌, ◌<◌}
use native.Mathlib.Nat.{eq-or-lt_of_le}
use native.Mathlib.Omega.{arith}
use mathlib.Core.Path.{◌≡◌, ◌∙◌, sym, ap, subst}
use mathlib.Core.Logic.{inl, inr}
use mathlib.Core.Bool.{Bool, not}
use lib.Dec.{T, leb, eqb, lit<}
use lib.Ieee.{binary64, odd, of_fields, of_bits, to_bits, nan_bits}
use lib.Ieee.Bits.{nan_bits_above, nan_bits_is, to_bits-of_bits}
use borrow.Author.Tests.{le-leb, lt-leb, eq-eqb, ne_eqb, le-ltb}
use Rattle.vax.proofs.Scaled.{odd_raised, odd_shifted, odd_digit}

abbrev pub bits_of : ℕ → ℕ → ℕ → ℕ
bits_of sign e q = sign * 2 ^ 63 + (e + 893) * 2 ^ 52 + q

-- a field above 0 and below the one of the infinities has the leading digit
read_normal : (s : Bool) (x t : ℕ) → suc x < 2047 → of_fields binary64 s (suc x) t ≡ odd 53 s (2 ^ 52 + t) x 1074
unfolding of_fields
read_normal s x t h = simp (ne_eqb (suc x) 2047 (λ p. omega arith))

read_fields : (b x t : ℕ) → b % 2 ^ 63 / 2 ^ 52 ≡ suc x → b % 2 ^ 52 ≡ t → suc x < 2047
    → of_bits binary64 b ≡ odd 53 (leb (2 ^ 63) b) (2 ^ 52 + t) x 1074
unfolding of_bits
read_fields b x t field digits h =
    ap (λ (y : ℕ). of_fields binary64 (leb (2 ^ 63) b) y (b % 2 ^ 52)) field
    ∙ ap (λ (y : ℕ). of_fields binary64 (leb (2 ^ 63) b) (suc x) y) digits
    ∙ read_normal (leb (2 ^ 63) b) x t h

-- no pattern below those of the NaNs is a NaN's
pub no_nan : (b : ℕ) → b % 2 ^ 63 ≤ 2047 * 2 ^ 52 → T (not (nan_bits binary64 b))
no_nan b small =
    subst (λ (t : Bool). T (not t)) (sym (nan_bits_above binary64 b ∙ le-ltb (2047 * 2 ^ 52) (b % 2 ^ 63) small)) tt

-- such a pattern is the float's own
pub written : (b : ℕ) → b < 2 ^ 64 → b % 2 ^ 63 ≤ 2047 * 2 ^ 52 → to_bits binary64 (of_bits binary64 b) ≡ b
written b h small = to_bits-of_bits binary64 b h (subst (λ (t : Bool). T (not t)) (nan_bits_is binary64 b) (no_nan b small))

-- 2^53 written with one exponent less
carried : (s : Bool) (e : ℕ) → odd 53 s (2 ^ 52) e 180 ≡ odd 53 s (2 ^ 53) e 181
carried s e = odd_digit 52 s (2 ^ 52) e 180 (lit< tt) (lit< tt) ∙ sym (odd_shifted 52 s (2 ^ 52) e 180 1 (lit< tt))

module _ (sign e q : ℕ) (one_bit : sign < 2) (eight_bits : e < 256) (low : 2 ^ 52 ≤ q) (high : q ≤ 2 ^ 53) where
  sign_bit : leb (2 ^ 63) (bits_of sign e q) ≡ eqb sign 1
  sign_bit = elim (eq-or-lt_of_le one) [
    | inl p ↦ le-leb (2 ^ 63) (bits_of sign e q) (omega arith) ∙ sym (eq-eqb sign 1 p)
    | inr p ↦ lt-leb (2 ^ 63) (bits_of sign e q) (omega arith) ∙ sym (ne_eqb sign 1 (λ (z : sign ≡ 1). omega arith))
  ]
    where
      one : sign ≤ 1
      one = omega arith

  reads_back : of_bits binary64 (bits_of sign e q) ≡ odd 53 (eqb sign 1) q e 181
  reads_back = elim (eq-or-lt_of_le high) [
    | inl p ↦
        read_fields (bits_of sign e q) (e + 894) 0 (omega arith) (omega arith) (omega arith)
        ∙ ap (λ (s : Bool). odd 53 s (2 ^ 52) (e + 894) 1074) sign_bit
        ∙ odd_raised 53 (eqb sign 1) (2 ^ 52) e 180 894
        ∙ carried (eqb sign 1) e
        ∙ ap (λ (x : ℕ). odd 53 (eqb sign 1) x e 181) (sym p)
    | inr p ↦
        let back : 2 ^ 52 + (q - 2 ^ 52) ≡ q = omega arith in
        read_fields (bits_of sign e q) (e + 893) (q - 2 ^ 52) (omega arith) (omega arith) (omega arith)
        ∙ ap (λ (s : Bool). odd 53 s (2 ^ 52 + (q - 2 ^ 52)) (e + 893) 1074) sign_bit
        ∙ ap (λ (x : ℕ). odd 53 (eqb sign 1) x (e + 893) 1074) back
        ∙ odd_raised 53 (eqb sign 1) q e 181 893
  ]

  pub read_as : (b : ℕ) → b ≡ bits_of sign e q → of_bits binary64 b ≡ odd 53 (eqb sign 1) q e 181
  read_as b same = ap (λ (x : ℕ). of_bits binary64 x) same ∙ reads_back
