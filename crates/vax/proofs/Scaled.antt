-- `odd` writes one float for q·2^e / 2^l, however the powers of two are shared out among q, e and l: a power may stand
-- in both e and l or in neither, zeros at the end of q may stand in l instead, and a digit more may be allowed than q has.
use Prim.Native.Nat.{ℕ, zero, suc, ◌+◌, ◌-◌, ◌*◌, ◌/◌, ◌%◌, ◌^◌, ◌≤◌, ◌<◌}
use native.Mathlib.Nat.{add-zero, add-suc, add_assoc, add_right_comm, mul-one, mul-pos, mul-div-mul_right, lt_irrefl, pow-suc, div-lt_iff_lt-mul}
use native.Mathlib.Omega.{arith}
use mathlib.Core.Path.{◌≡◌, ◌∙◌, refl, sym, ap, subst}
use mathlib.Core.Bool.{Bool, true, false, not, cond}
use lib.Dec.{T, leb, leb→le, nleb→lt, lit<}
use lib.IntN.{ℤ, pos, negsuc}
use lib.Pow.{pow-add, pow_pos}
use lib.Bits.{shifted_half, shifted_even}
use lib.Count.{count_trailing_zeros, under}
use lib.Ieee.{fin, minus, odd}
use borrow.Author.Tests.{le-leb, lt-leb}

-- j more on both sides of a difference
minus_both : (a l j : ℕ) → minus (a + j) (l + j) ≡ minus a l
minus_both a l j = go (leb l a) (leb→le l a) (nleb→lt l a)
  where
    go : (b : Bool) → (T b → l ≤ a) → (T (not b) → a < l) → minus (a + j) (l + j) ≡ cond b (pos (a - l)) (negsuc (l - suc a))
    go true h k =
        let e : l ≤ a = h tt in
        let d : a + j - (l + j) ≡ a - l = omega arith in
        simp (le-leb (l + j) (a + j) (omega arith), d)
    go false h k =
        let e : a < l = k tt in
        let d : l + j - suc (a + j) ≡ l - suc a = omega arith in
        simp (lt-leb (l + j) (a + j) (omega arith), d)

-- j more in the exponent and in what divides it
pub odd_raised : (d : ℕ) (s : Bool) (q k l j : ℕ) → odd d s q (k + j) (l + j) ≡ odd d s q k l
unfolding odd
odd_raised d s zero k l j = refl
odd_raised d s (suc q) k l j =
    let t = count_trailing_zeros d (suc q) in
    ap (λ (e : ℤ). fin s (suc q / 2 ^ t) e) (ap (λ (x : ℕ). minus x (l + j)) (add_right_comm k j t) ∙ minus_both (k + t) l j)

-- j more zeros at a number's end
zeros_added : (d q j : ℕ) → count_trailing_zeros (d + j) (q * 2 ^ j) ≡ count_trailing_zeros d q + j
unfolding count_trailing_zeros
zeros_added d q zero = simp (add-zero, mul-one)
zeros_added d q (suc j) =
    ap (λ (x : ℕ). count_trailing_zeros x (q * 2 ^ suc j)) (add-suc d j)
    ∙ ap (λ (r : ℕ). under r (count_trailing_zeros (d + j) (q * 2 ^ suc j / 2))) (shifted_even q j)
    ∙ ap (λ (x : ℕ). suc (count_trailing_zeros (d + j) x)) (shifted_half q j)
    ∙ ap suc (zeros_added d q j)
    ∙ sym (add-suc (count_trailing_zeros d q) j)

odd_above_zero : (d : ℕ) (s : Bool) (q k l : ℕ) → 0 < q → odd d s q k l ≡ fin s (q / 2 ^ count_trailing_zeros d q) (minus (k + count_trailing_zeros d q) l)
unfolding odd
odd_above_zero d s zero k l h = absurd (lt_irrefl 0 h)
odd_above_zero d s (suc q) k l h = refl

-- j zeros at the end of q, divided out again
pub odd_shifted : (d : ℕ) (s : Bool) (q k l j : ℕ) → 0 < q → odd (d + j) s (q * 2 ^ j) k (l + j) ≡ odd d s q k l
odd_shifted d s q k l j h =
    let t = count_trailing_zeros d q in
    odd_above_zero (d + j) s (q * 2 ^ j) k (l + j) (mul-pos h (pow_pos j))
    ∙ ap (λ (x : ℕ). fin s (q * 2 ^ j / 2 ^ x) (minus (k + x) (l + j))) (zeros_added d q j)
    ∙ ap (λ (x : ℕ). fin s (q * 2 ^ j / x) (minus (k + (t + j)) (l + j))) (pow-add 2 t j)
    ∙ ap (λ (x : ℕ). fin s x (minus (k + (t + j)) (l + j))) (mul-div-mul_right q (2 ^ t) (pow_pos j))
    ∙ ap (λ (x : ℕ). fin s (q / 2 ^ t) (minus x (l + j))) (sym (add_assoc k t j))
    ∙ ap (λ (e : ℤ). fin s (q / 2 ^ t) e) (minus_both (k + t) l j)
    ∙ sym (odd_above_zero d s q k l h)

-- a number of d + 1 digits has at most d zeros at its end
digit_more : (d q : ℕ) → 0 < q → q < 2 ^ suc d → count_trailing_zeros (suc d) q ≡ count_trailing_zeros d q
unfolding count_trailing_zeros
digit_more zero q above small = ap (λ (r : ℕ). under r 0) one
  where
    one : q % 2 ≡ 1
    one = omega arith
digit_more (suc d) q above small = go (q % 2) refl (digit_more d (q / 2))
  where
    go : (r : ℕ) → q % 2 ≡ r → (0 < q / 2 → q / 2 < 2 ^ suc d → count_trailing_zeros (suc d) (q / 2) ≡ count_trailing_zeros d (q / 2))
        → under r (count_trailing_zeros (suc d) (q / 2)) ≡ under r (count_trailing_zeros d (q / 2))
    go zero e again = ap suc (again (omega arith) ((div-lt_iff_lt-mul (lit< tt)).1 (subst (λ (x : ℕ). q < x) (pow-suc 2 (suc d)) small)))
    go (suc r) e again = refl

pub odd_digit : (d : ℕ) (s : Bool) (q k l : ℕ) → 0 < q → q < 2 ^ suc d → odd (suc d) s q k l ≡ odd d s q k l
odd_digit d s q k l above small =
    odd_above_zero (suc d) s q k l above
    ∙ ap (λ (t : ℕ). fin s (q / 2 ^ t) (minus (k + t) l)) (digit_more d q above small)
    ∙ sym (odd_above_zero d s q k l above)
