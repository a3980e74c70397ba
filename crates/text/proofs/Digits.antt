-- Reading decimal digits, one after the other: what a digit adds, that any other byte is refused, and that the digits
-- which are written for a number read back as that number.
use Prim.Native.Nat.{ℕ, zero, suc, ◌+◌, ◌*◌, ◌-◌, ◌/◌, ◌%◌, ◌^◌, ◌≤◌, ◌<◌}
use native.Mathlib.Nat.{pow-zero, pow-suc, mul-le-mul_right, mul_assoc, pow-succ', lt_of_lt_of_le}
use native.Mathlib.Numerals.{add-one}
use native.Mathlib.Omega.{arith}
use mathlib.Core.Path.{◌≡◌, refl, ◌∙◌, sym, ap}
use mathlib.Core.Bool.{Bool, true, false}
use mathlib.Core.List.{List, [], ◌∷◌, ◌++◌}
use Rattle.std.specs.Prelude.{Option, None, Some}
use lib.ListN.{length, length-append}
use lib.Dec.{leb}
use borrow.Author.Tests.{le-leb, lt-leb, leb-true}
use Rattle.answer.proofs.Tests.{both_hold}
use Rattle.text.specs.Digits.{is_digit, given, decimal, digits_in, digits_of}

some_injective : {a b : ℕ} → Some a ≡ Some b → a ≡ b
some_injective e = cc

pub none_is_not_some : {a : ℕ} → None ≡ Some a → ⊥
none_is_not_some e = let z : ◌≡◌ {A = ℕ} 0 1 = cc in omega arith

pub a_digit_counts : (n b : ℕ) (bs : List ℕ) → 48 ≤ b → b ≤ 57 → decimal n (b ∷ bs) ≡ decimal (n * 10 + (b - 48)) bs
a_digit_counts n b bs h k = simp (le-leb _ _ h, le-leb _ _ k)

pub too_low_is_none : (n b : ℕ) (bs : List ℕ) → b < 48 → decimal n (b ∷ bs) ≡ None
too_low_is_none n b bs h = simp (lt-leb _ _ h)

-- what is read after digits that were read goes on from their number
pub read_on : (n : ℕ) (xs ys : List ℕ) (m : ℕ) → decimal n xs ≡ Some m → decimal n (xs ++ ys) ≡ decimal m ys
read_on n [] ys m e = ap (λ (k : ℕ). decimal k ys) (some_injective e)
read_on n (b ∷ bs) ys m e =
    under (is_digit b) (decimal (n * 10 + (b - 48)) bs) (decimal (n * 10 + (b - 48)) (bs ++ ys)) m (decimal m ys) e
    (read_on (n * 10 + (b - 48)) bs ys m)
  where
    under : (t : Bool) (o p : Option ℕ) (m : ℕ) (q : Option ℕ) → given t o ≡ Some m → (o ≡ Some m → p ≡ q) → given t p ≡ q
    under true o p m q e f = f e
    under false o p m q e f = absurd (none_is_not_some e)

-- the digits that are written for a number read back as that number
pub digits_read_back : (w n : ℕ) → n < 10 ^ w → decimal 0 (digits_of w n) ≡ Some n
digits_read_back zero n h = ap Some (omega (arith, pow-zero 10))
digits_read_back (suc w) n h =
    let q : n / 10 < 10 ^ w = omega (arith, pow-suc 10 w) in
    read_on 0 (digits_of w (n / 10)) ((48 + n % 10) ∷ []) (n / 10) (digits_read_back w (n / 10) q)
    ∙ a_digit_counts (n / 10) (48 + n % 10) [] (omega arith) (omega arith)
    ∙ ap Some (omega arith)

-- as many digits as places, in any base
pub length_digits : (base nought w n : ℕ) → length (digits_in base nought w n) ≡ w
length_digits base nought zero n = refl
length_digits base nought (suc w) n =
    length-append (digits_in base nought w (n / base)) ((nought + n % base) ∷ [])
    ∙ ap (λ (k : ℕ). k + 1) (length_digits base nought w (n / base)) ∙ add-one w

-- digits that were read write a number with no more digits
pub no_more_digits : (n : ℕ) (xs : List ℕ) (m : ℕ) → decimal n xs ≡ Some m → m < (n + 1) * 10 ^ length xs
no_more_digits n [] m e = omega (arith, some_injective e, pow-zero 10)
no_more_digits n (b ∷ bs) m e =
    let (digit, rest) = was_given (is_digit b) (decimal (n * 10 + (b - 48)) bs) m e in
    let low : b ≤ 57 = leb-true b 57 (both_hold (leb 48 b) (leb b 57) digit).1 in
    let k = length bs in
    let first : m < (n * 10 + (b - 48) + 1) * 10 ^ k = no_more_digits (n * 10 + (b - 48)) bs m rest in
    let small : (n * 10 + (b - 48) + 1) * 10 ^ k ≤ (n + 1) * 10 * 10 ^ k = mul-le-mul_right (10 ^ k) (omega arith) in
    let same : (n + 1) * 10 ^ suc k ≡ (n + 1) * 10 * 10 ^ k =
    ap (λ (p : ℕ). (n + 1) * p) (pow-succ' 10 k) ∙ sym (mul_assoc (n + 1) 10 (10 ^ k)) in
    rw same (lt_of_lt_of_le first small)
  where
    was_given : (t : Bool) (o : Option ℕ) (m : ℕ) → given t o ≡ Some m → (t ≡ true) × (o ≡ Some m)
    was_given true o m e = (refl, e)
    was_given false o m e = absurd (none_is_not_some e)
