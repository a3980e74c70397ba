-- The pattern of bits of a float that is n units in size: it is the float's own, and it ends as the digits that n keeps.
use Prim.Native.Nat.{ℕ, suc, ◌+◌, ◌-◌, ◌*◌, ◌/◌, ◌%◌, ◌^◌, ◌≤◌, ◌<◌}
use native.Mathlib.Nat.{le_refl, le_of_eq, lt_of_lt_of_le, lt_of_not-le, not-le_of_lt, eq-or-lt_of_le, mul-le-mul_right, mul-mod_left, mul-div_cancel, pow-suc}
use native.Mathlib.Omega.{arith}
use mathlib.Core.Path.{◌≡◌, ◌∙◌, refl, sym, ap, subst}
use mathlib.Core.Bool.{Bool, true, false, beq, cond}
use mathlib.Core.Logic.{◌⊎◌, inl, inr}
use lib.Dec.{T}
use lib.IntN.{ℤ}
use lib.Pow.{pow-add, pow_mono, pow-lt, shl_lt, shl-shr}
use lib.Ieee.{Float, nan, inf, fin, Format, binary32, binary64, prec, hid, top, down, size, fits, to_bits, of_bits}
use lib.Ieee.Digits.{size-lt, size-le}
use lib.Ieee.Fits.{down_pos}
use lib.Ieee.Bits.{of_bits-to_bits}
use lib.Ieee.Scale.{finite}
use Rattle.rounding.proofs.Floats.{Units, alike}

pub bits_in_units : (f : Format) (t : Bool) (m : ℕ) (e : ℤ) (n : ℕ) → Units f (fin t m e) n
    → to_bits f (fin t m e) ≡ cond t (top f) 0 + (size n - prec f) * hid f + n / 2 ^ (size n - prec f)
unfolding to_bits
bits_in_units f t m e n h =
    ap (λ (x : ℕ). cond t (top f) 0 + (size x - prec f) * hid f + x / 2 ^ (size x - prec f))
    (ap (λ (x : ℕ). x / down e) h ∙ mul-div_cancel n (down_pos e))

-- ---- one float for each sign and size

same_sign : (t s : Bool) → beq t s ≡ true → t ≡ s
same_sign true true e = refl
same_sign false false e = refl
same_sign true false e = sym e
same_sign false true e = e

pub same_float : (f : Format) (x y : Float) (s : Bool) (n : ℕ) → T (finite x) → T (finite y) → T (fits f x) → T (fits f y)
    → alike x s ≡ true → alike y s ≡ true → Units f x n → Units f y n → x ≡ y
same_float f nan y s n h k a b p q e g = absurd h
same_float f (inf t) y s n h k a b p q e g = absurd h
same_float f (fin t m d) nan s n h k a b p q e g = absurd k
same_float f (fin t m d) (inf u) s n h k a b p q e g = absurd k
same_float f (fin t m d) (fin u i j) s n h k a b p q e g =
    let rest = (size n - prec f) * hid f in
    let digits = n / 2 ^ (size n - prec f) in
    sym (of_bits-to_bits f (fin t m d) a)
    ∙ ap (λ (z : ℕ). of_bits f z)
    (bits_in_units f t m d n e
    ∙ ap (λ (z : Bool). cond z (top f) 0 + rest + digits) (same_sign t s p ∙ sym (same_sign u s q))
    ∙ sym (bits_in_units f u i j n g))
    ∙ of_bits-to_bits f (fin u i j) b

-- ---- the last bit

pub size_gt : (n j : ℕ) → 2 ^ j ≤ n → j < size n
size_gt n j h = lt_of_not-le (λ (g : size n ≤ j). not-le_of_lt (lt_of_lt_of_le (size-lt n) (pow_mono g)) h)

pow_even : (j : ℕ) → 2 ^ suc j % 2 ≡ 0
pow_even j = ap (λ (x : ℕ). x % 2) (pow-suc 2 j) ∙ mul-mod_left (2 ^ j) 2

-- q·2^k keeps q, or, where q is 2^p, half of it
module _ (p q k : ℕ) where
  kept : q < 2 ^ p → (k ≡ 0) ⊎ (2 ^ (p - 1) ≤ q) → q * 2 ^ k / 2 ^ (size (q * 2 ^ k) - p) ≡ q
  kept h big = ap (λ (d : ℕ). q * 2 ^ k / 2 ^ d) dropped ∙ shl-shr q k
    where
      at_most : size (q * 2 ^ k) ≤ p + k
      at_most = size-le (q * 2 ^ k) (p + k) (shl_lt p k h)

      at_least : 2 ^ (p - 1) ≤ q → p - 1 + k < size (q * 2 ^ k)
      at_least b = size_gt (q * 2 ^ k) (p - 1 + k) (subst (λ (x : ℕ). x ≤ q * 2 ^ k) (sym (pow-add 2 (p - 1) k)) (mul-le-mul_right (2 ^ k) b))

      exactly : (z : ℕ) → z ≤ p + k → p - 1 + k < z → z - p ≡ k
      exactly z a b = omega arith

      none : (z : ℕ) → k ≡ 0 → z ≤ p + k → z - p ≡ k
      none z e a = omega arith

      dropped : size (q * 2 ^ k) - p ≡ k
      dropped = elim big [ inl e ↦ none (size (q * 2 ^ k)) e at_most | inr b ↦ exactly (size (q * 2 ^ k)) at_most (at_least b) ]

  halved : 2 ≤ p → q ≡ 2 ^ p → q * 2 ^ k / 2 ^ (size (q * 2 ^ k) - p) ≡ 2 ^ (p - 1)
  halved two e = ap (λ (d : ℕ). q * 2 ^ k / 2 ^ d) dropped ∙ ap (λ (x : ℕ). x / 2 ^ suc k) half ∙ shl-shr (2 ^ (p - 1)) (suc k)
    where
      power : q * 2 ^ k ≡ 2 ^ (p + k)
      power = ap (λ (x : ℕ). x * 2 ^ k) e ∙ sym (pow-add 2 p k)

      exactly : (z : ℕ) → z ≤ suc (p + k) → p + k < z → z - p ≡ suc k
      exactly z a b = omega arith

      dropped : size (q * 2 ^ k) - p ≡ suc k
      dropped =
          exactly (size (q * 2 ^ k))
          (size-le (q * 2 ^ k) (suc (p + k)) (subst (λ (x : ℕ). x < 2 ^ suc (p + k)) (sym power) (pow-lt (le_refl (suc (p + k))))))
          (size_gt (q * 2 ^ k) (p + k) (le_of_eq (sym power)))

      shifted : p + k ≡ p - 1 + suc k
      shifted = omega arith

      half : q * 2 ^ k ≡ 2 ^ (p - 1) * 2 ^ suc k
      half = power ∙ ap (λ (x : ℕ). 2 ^ x) shifted ∙ pow-add 2 (p - 1) (suc k)

  kept_even : 2 ≤ p → q % 2 ≡ 0 → q ≤ 2 ^ p → (k ≡ 0) ⊎ (2 ^ (p - 1) ≤ q) → q * 2 ^ k / 2 ^ (size (q * 2 ^ k) - p) % 2 ≡ 0
  kept_even two even h big = elim (eq-or-lt_of_le h) [
    | inl e ↦ ap (λ (x : ℕ). x % 2) (halved two e) ∙ ap (λ (x : ℕ). 2 ^ x % 2) less ∙ pow_even (p - 2)
    | inr l ↦ ap (λ (x : ℕ). x % 2) (kept l big) ∙ even
  ]
    where
      less : p - 1 ≡ suc (p - 2)
      less = omega arith

-- sign and exponent stand above the last bit
ends_as : (f : Format) (t : Bool) (field digits : ℕ) → (cond t (top f) 0 + field * hid f + digits) % 2 ≡ digits % 2
ends_as binary32 true field digits = omega arith
ends_as binary32 false field digits = omega arith
ends_as binary64 true field digits = omega arith
ends_as binary64 false field digits = omega arith

-- a float of q·2^k units ends as what it keeps
last_bit : (f : Format) (x : Float) (n : ℕ) → T (finite x) → Units f x n → to_bits f x % 2 ≡ n / 2 ^ (size n - prec f) % 2
last_bit f nan n h e = absurd h
last_bit f (inf t) n h e = absurd h
last_bit f (fin t m d) n h e =
    ap (λ (x : ℕ). x % 2) (bits_in_units f t m d n e) ∙ ends_as f t (size n - prec f) (n / 2 ^ (size n - prec f))

pub ends_in_0 : (f : Format) (x : Float) (q k : ℕ) → 2 ≤ prec f → T (finite x) → Units f x (q * 2 ^ k)
    → q % 2 ≡ 0 → q ≤ 2 ^ prec f → (k ≡ 0) ⊎ (2 ^ (prec f - 1) ≤ q) → to_bits f x % 2 ≡ 0
ends_in_0 f x q k two h e even le big = last_bit f x (q * 2 ^ k) h e ∙ kept_even (prec f) q k two even le big

pub ends_as_digits : (f : Format) (x : Float) (q k : ℕ) → T (finite x) → Units f x (q * 2 ^ k)
    → q < 2 ^ prec f → (k ≡ 0) ⊎ (2 ^ (prec f - 1) ≤ q) → to_bits f x % 2 ≡ q % 2
ends_as_digits f x q k h e lt big = last_bit f x (q * 2 ^ k) h e ∙ ap (λ (z : ℕ). z % 2) (kept (prec f) q k lt big)
