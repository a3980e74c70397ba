-- Digits without the zeros in front, one digit at a time: a number's digits are those of its tens and then its last one.
-- That is what a numeral's loop writes, from the last digit on, and it bounds how many digits there are.
use Prim.Native.Nat.{ℕ, zero, suc, ◌+◌, ◌/◌, ◌%◌, ◌^◌, ◌≤◌, ◌<◌}
use native.Mathlib.Nat.{pow-zero, pow-suc}
use native.Mathlib.Decide.{dec_lt}
use native.Mathlib.Omega.{arith}
use mathlib.Core.Path.{◌≡◌, refl, ◌∙◌, sym, ap}
use mathlib.Core.Bool.{Bool, true, false}
use mathlib.Core.List.{List, [], ◌∷◌, ◌++◌}
use lib.ListN.{length, set, drop, length-append, length-set}
use lib.Seq.{drop-cons, get_or-set_same, drop-set-lt}
use lib.Dec.{eqb}
use borrow.Author.Tests.{ne_eqb}
use Rattle.text.specs.Digits.{digits_of}
use Rattle.text.specs.Decimal.{either, unpadded, decimal_text}

-- ---- a list of digits, and more behind it

zeros_in_front : (xs ys : List ℕ) → unpadded xs ≡ [] → unpadded (xs ++ ys) ≡ unpadded ys
zeros_in_front [] ys e = refl
zeros_in_front (b ∷ bs) ys e = step (eqb b 48) e (zeros_in_front bs ys)
  where
    step : (t : Bool) → either t (unpadded bs) (b ∷ bs) ≡ [] → (unpadded bs ≡ [] → unpadded (bs ++ ys) ≡ unpadded ys)
        → either t (unpadded (bs ++ ys)) (b ∷ (bs ++ ys)) ≡ unpadded ys
    step true e f = f e
    step false e f = let z : ◌≡◌ {A = ℕ} 0 1 = cc in absurd (omega arith)

a_digit_in_front : (xs ys : List ℕ) (c : ℕ) (cs : List ℕ) → unpadded xs ≡ c ∷ cs → unpadded (xs ++ ys) ≡ unpadded xs ++ ys
a_digit_in_front [] ys c cs e = let z : ◌≡◌ {A = ℕ} 0 1 = cc in absurd (omega arith)
a_digit_in_front (b ∷ bs) ys c cs e = step (eqb b 48) e (a_digit_in_front bs ys c cs)
  where
    step : (t : Bool) → either t (unpadded bs) (b ∷ bs) ≡ c ∷ cs → (unpadded bs ≡ c ∷ cs → unpadded (bs ++ ys) ≡ unpadded bs ++ ys)
        → either t (unpadded (bs ++ ys)) (b ∷ (bs ++ ys)) ≡ either t (unpadded bs) (b ∷ bs) ++ ys
    step true e f = f e
    step false e f = refl

one_more_at_most : (xs : List ℕ) (b : ℕ) → length (unpadded (xs ++ (b ∷ []))) ≤ length (unpadded xs) + 1
one_more_at_most [] b = step (eqb b 48)
  where
    step : (t : Bool) → length (either t [] (b ∷ [])) ≤ 0 + 1
    step true = omega arith
    step false = omega arith
one_more_at_most (x ∷ xs) b = step (eqb x 48) (one_more_at_most xs b)
  where
    step : (t : Bool) → length (unpadded (xs ++ (b ∷ []))) ≤ length (unpadded xs) + 1
        → length (either t (unpadded (xs ++ (b ∷ []))) (x ∷ (xs ++ (b ∷ [])))) ≤ length (either t (unpadded xs) (x ∷ xs)) + 1
    step true h = h
    step false h = omega (arith, length-append xs (b ∷ []))

-- ---- the digits of a number

pub no_digits_of_nought : (w : ℕ) → unpadded (digits_of w 0) ≡ []
no_digits_of_nought zero = refl
no_digits_of_nought (suc w) = zeros_in_front (digits_of w 0) (48 ∷ []) (no_digits_of_nought w)

starts : (xs : List ℕ) (b : ℕ) → (c : ℕ) × (cs : List ℕ) × (xs ++ (b ∷ []) ≡ c ∷ cs)
starts [] b = (b, [], refl)
starts (x ∷ xs) b = (x, xs ++ (b ∷ []), refl)

one_digit : (w n : ℕ) → 0 < n → n / 10 ≡ 0
    → unpadded (digits_of (suc w) n) ≡ unpadded (digits_of w (n / 10)) ++ ((48 + n % 10) ∷ [])
one_digit w n h e =
    let none : unpadded (digits_of w (n / 10)) ≡ [] = ap (λ (m : ℕ). unpadded (digits_of w m)) e ∙ no_digits_of_nought w in
    zeros_in_front (digits_of w (n / 10)) ((48 + n % 10) ∷ []) none
    ∙ ap (λ (t : Bool). either t [] ((48 + n % 10) ∷ [])) (ne_eqb (48 + n % 10) 48 (λ z. omega arith))
    ∙ ap (λ (xs : List ℕ). xs ++ ((48 + n % 10) ∷ [])) (sym none)

-- the digits of the tens, then the last digit
pub tens_then_last : (w n : ℕ) → 0 < n → n < 10 ^ suc w
    → unpadded (digits_of (suc w) n) ≡ unpadded (digits_of w (n / 10)) ++ ((48 + n % 10) ∷ [])
tens_then_last zero n h k = one_digit 0 n h (omega (arith, pow-suc 10 0, pow-zero 10))
tens_then_last (suc w) n h k =
    elim (dec_lt 0 (n / 10)) [
      | yes t ↦
          let tens = tens_then_last w (n / 10) t (omega (arith, pow-suc 10 (suc w))) in
          let (c, cs, is) = starts (unpadded (digits_of w (n / 10 / 10))) (48 + n / 10 % 10) in
          a_digit_in_front (digits_of (suc w) (n / 10)) ((48 + n % 10) ∷ []) c cs (tens ∙ is)
      | no t ↦ one_digit (suc w) n h (omega arith)
    ]

-- no more digits than the number has
pub few_digits : (v w n : ℕ) → n < 10 ^ w → length (unpadded (digits_of v n)) ≤ w
few_digits zero w n h = omega arith
few_digits (suc v) zero n h =
    let nought : n ≡ 0 = omega (arith, pow-zero 10) in
    omega (arith, ap (λ (m : ℕ). length (unpadded (digits_of (suc v) m))) nought, ap length (no_digits_of_nought (suc v)))
few_digits (suc v) (suc w) n h =
    omega (arith, one_more_at_most (digits_of v (n / 10)) (48 + n % 10), few_digits v w (n / 10) (omega (arith, pow-suc 10 w)))

pub few_bytes : (w n : ℕ) → n < 10 ^ suc w → length (decimal_text n) ≤ suc w
unfolding decimal_text
few_bytes w n h =
    omega (arith, length-append (unpadded (digits_of 19 (n / 10))) ((48 + n % 10) ∷ []), few_digits 19 w (n / 10) (omega (arith, pow-suc 10 w)))

-- ---- what a numeral's loop does: one digit more in front

pub set_in_front : (xs : List ℕ) (i b : ℕ) → i < length xs → drop i (set xs i b) ≡ b ∷ drop (suc i) xs
set_in_front xs i b h =
    drop-cons (set xs i b) i 0 (omega (arith, length-set xs i b))
    ∙ cc (get_or-set_same xs i b 0 h, drop-set-lt (suc i) xs i b (omega arith))
