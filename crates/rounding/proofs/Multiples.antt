-- `closest n u`, n / u rounded to a whole number, gives the nearest multiple of u: no other multiple is nearer to n, and where another is
-- as near, the number is even and the other one odd.
use Prim.Native.Nat.{ℕ, suc, ◌+◌, ◌*◌, ◌/◌, ◌%◌, ◌≤◌, ◌<◌, compare, Ordering}
use native.Mathlib.Nat.{eq-zero-or-pos, mul-le-mul_right, suc-mul, mod-lt, div-add-mod', eq_of_mul-eq-mul_right}
use native.Mathlib.Omega.{arith}
use mathlib.Core.Path.{◌≡◌, sym, subst}
use mathlib.Core.Bool.{Bool, true, false, not}
use mathlib.Core.Logic.{◌⊎◌, inl, inr}
use lib.Dec.{T, leb, is_le, compare_is_eq, leb→le, nleb→lt, eqb→eq, eqb, eqb_refl}
use lib.Arith.{lt_of_le-ne}
use lib.Ieee.{nearest}
use lib.Ieee.Nearest.{closest}
use Rattle.rounding.specs.Nearest.{apart}

-- what `compare` says
abbrev pub Says : Ordering → ℕ → ℕ → Type 0
Says Ordering.lt a b = a < b
Says Ordering.eq a b = a ≡ b
Says Ordering.gt a b = b < a

pub says : (a b : ℕ) → Says (compare a b) a b
says a b = go (compare a b) (leb→le a b) (nleb→lt a b) (eqb→eq a b) (λ (e : a ≡ b). subst (λ (x : ℕ). T (eqb a x)) e (eqb_refl a))
  where
    go : (o : Ordering) → (T (is_le o) → a ≤ b) → (T (not (is_le o)) → b < a) → (T (compare_is_eq o) → a ≡ b) → (a ≡ b → T (compare_is_eq o)) → Says o a b
    go Ordering.lt h k e n = lt_of_le-ne (h tt) n
    go Ordering.eq h k e n = e tt
    go Ordering.gt h k e n = k tt

-- a multiple r·u is q·u at most, or (q + 1)·u at least
beside : (u q r : ℕ) → (r * u ≤ q * u) ⊎ (q * u + u ≤ r * u)
beside u q r = go (leb r q) (leb→le r q) (nleb→lt r q)
  where
    go : (b : Bool) → (T b → r ≤ q) → (T (not b) → q < r) → (r * u ≤ q * u) ⊎ (q * u + u ≤ r * u)
    go true h k = inl (mul-le-mul_right u (h tt))
    go false h k = inr (subst (λ (x : ℕ). x ≤ r * u) (suc-mul q u) (mul-le-mul_right u (k tt)))

-- q·u is no farther from n than r·u, and where it is as far, r is q or q is even and r odd
abbrev pub Least : ℕ → ℕ → ℕ → ℕ → Type 0
Least n u r q = (apart (q * u) n ≤ apart (r * u) n) × (apart (q * u) n ≡ apart (r * u) n → (r ≡ q) ⊎ ((q % 2 ≡ 0) × (r % 2 ≡ 1)))

module _ (n u r q rest : ℕ) (above : 0 < u) (cut : q * u + rest ≡ n) (small : rest < u) where
  next : suc q * u ≡ q * u + u
  next = suc-mul q u

  same : (p : ℕ) → r * u ≡ p * u → r ≡ p
  same p e = eq_of_mul-eq-mul_right u above r p e

  down : rest * 2 < u → Least n u r q
  down h = elim (beside u q r) [
    | inl b ↦ (omega arith, λ (e : apart (q * u) n ≡ apart (r * u) n). inl (same q (omega arith)))
    | inr b ↦ (omega arith, λ (e : apart (q * u) n ≡ apart (r * u) n). absurd (omega arith))
  ]

  up : u < rest * 2 → Least n u r (suc q)
  up h = elim (beside u q r) [
    | inl b ↦ (omega (arith, next), λ (e : apart (suc q * u) n ≡ apart (r * u) n). absurd (omega (arith, next)))
    | inr b ↦ (omega (arith, next), λ (e : apart (suc q * u) n ≡ apart (r * u) n). inl (same (suc q) (omega (arith, next))))
  ]

  -- a tie: both neighbours of n are as near, and one of them is even
  tie_below : rest * 2 ≡ u → q % 2 ≡ 0 → Least n u r q
  tie_below h even = elim (beside u q r) [
    | inl b ↦ (omega arith, λ (e : apart (q * u) n ≡ apart (r * u) n). inl (same q (omega arith)))
    | inr b ↦ (omega arith, λ (e : apart (q * u) n ≡ apart (r * u) n). inr (even, let is : r ≡ suc q = same (suc q) (omega (arith, next)) in omega arith))
  ]

  tie_above : rest * 2 ≡ u → q % 2 ≡ 1 → Least n u r (suc q)
  tie_above h odd = elim (beside u q r) [
    | inl b ↦ (
      omega (arith, next),
      λ (e : apart (suc q * u) n ≡ apart (r * u) n).
          inr (omega arith, let is : r ≡ q = same q (omega (arith, next)) in omega arith),
    )
    | inr b ↦ (omega (arith, next), λ (e : apart (suc q * u) n ≡ apart (r * u) n). inl (same (suc q) (omega (arith, next))))
  ]

  tie : rest * 2 ≡ u → Least n u r (q + q % 2)
  tie h = elim (eq-zero-or-pos (q % 2)) [
    | inl z ↦ let is : q + q % 2 ≡ q = omega arith in subst (λ (p : ℕ). Least n u r p) (sym is) (tie_below h z)
    | inr o ↦ let is : q + q % 2 ≡ suc q = omega arith in subst (λ (p : ℕ). Least n u r p) (sym is) (tie_above h (omega arith))
  ]

pub closest_is_least : (n u r : ℕ) → 0 < u → Least n u r (closest n u)
closest_is_least n u r above = go (compare (n % u * 2) u) (says (n % u * 2) u)
  where
    go : (o : Ordering) → Says o (n % u * 2) u → Least n u r (nearest (n / u) o)
    go Ordering.lt h = down n u r (n / u) (n % u) above (div-add-mod' n u) (mod-lt n above) h
    go Ordering.eq h = tie n u r (n / u) (n % u) above (div-add-mod' n u) (mod-lt n above) h
    go Ordering.gt h = up n u r (n / u) (n % u) above (div-add-mod' n u) (mod-lt n above) h
