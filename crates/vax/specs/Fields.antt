-- The fields of a VAX number (document 01, "Numbers"; source document 001, appendix B): little-endian 16-bit words, of
-- which the first holds the sign in bit 15, the exponent in bits 14-7 and the top 7 fraction bits below; each further
-- word holds the next 16 fraction bits.
use Rattle.std.specs.Prelude.{ℕ, ◌+◌, ◌-◌, ◌*◌, ◌/◌, ◌%◌, ◌^◌, Bool, List, get_or, eqb}

-- the word whose first byte is at `at`: its lower byte first
abbrev pub word_at : List ℕ → ℕ → ℕ
word_at s at = get_or s at 0 + 256 * get_or s (at + 1) 0

-- bit 15 of the first word: 1 for a negative number
abbrev pub sign_of : List ℕ → ℕ
sign_of s = word_at s 0 / 32768

abbrev pub negative : List ℕ → Bool
negative s = eqb (sign_of s) 1

-- bits 14-7 of the first word
abbrev pub exponent : List ℕ → ℕ
exponent s = word_at s 0 / 128 % 256

-- the 23 fraction bits of an F number: bits 6-0 of the first word, then the second word
abbrev pub fraction_F : List ℕ → ℕ
fraction_F s = word_at s 0 % 128 * 65536 + word_at s 2

-- the 55 fraction bits of a D number: those of F, then the third and the fourth word
abbrev pub fraction_D : List ℕ → ℕ
fraction_D s = (fraction_F s * 65536 + word_at s 4) * 65536 + word_at s 6

-- the mantissas, with the leading bit that is not stored
abbrev pub mantissa_F : List ℕ → ℕ
mantissa_F s = 2 ^ 23 + fraction_F s

abbrev pub mantissa_D : List ℕ → ℕ
mantissa_D s = 2 ^ 55 + fraction_D s

-- D's without its three lowest bits
abbrev pub dropped_mantissa_D : List ℕ → ℕ
dropped_mantissa_D s = mantissa_D s - mantissa_D s % 8
