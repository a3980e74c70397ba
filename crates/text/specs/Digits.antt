-- Decimal digits in ASCII: `0` is 48, `9` 57. `decimal` is how digits are read as a number and `digits_of` how a number of so
-- many digits is written (document 01: the digits of the label's length field, and the numbers of the list program). `digits_in` is
-- the same in any base; in base 256 it writes the bytes of a binary number (document 02, item 11).
use Rattle.std.specs.Prelude.{ℕ, zero, suc, ◌+◌, ◌*◌, ◌-◌, ◌/◌, ◌%◌, Bool, true, false, ◌&&◌, List, [], ◌∷◌, ◌++◌, leb, Option, None, Some}

-- one of `0` to `9`
abbrev pub is_digit : ℕ → Bool
is_digit b = leb 48 b && leb b 57

abbrev pub given : Bool → Option ℕ → Option ℕ
given true o = o
given false o = None

-- the number that n and then these digits write, most significant first; none where a byte is no digit
abbrev pub decimal : ℕ → List ℕ → Option ℕ
decimal n [] = Some n
decimal n (b ∷ bs) = given (is_digit b) (decimal (n * 10 + (b - 48)) bs)

-- the last w digits of n in some base, most significant first, where a digit of value 0 is written as `nought`
abbrev pub digits_in : ℕ → ℕ → ℕ → ℕ → List ℕ
digits_in base nought zero n = []
digits_in base nought (suc w) n = digits_in base nought w (n / base) ++ ((nought + n % base) ∷ [])

-- the last w decimal digits of n, as characters
abbrev pub digits_of : ℕ → ℕ → List ℕ
digits_of w n = digits_in 10 48 w n
