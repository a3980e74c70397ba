-- Only the promises of private functions cite this file: steps of the code, and no part of what a call means.
use Rattle.std.specs.Prelude.{ℕ, ◌+◌, ◌*◌, ◌^◌, ◌<◌, List, Float}
use Rattle.std.specs.Float.{binary64}
use Rattle.std.specs.Float.Ieee.{of_bits}
use Rattle.vax.specs.Fields.{sign_of, exponent, fraction_F, fraction_D}

-- exponent and fraction, the bits below the sign
abbrev pub below_sign_F : List ℕ → ℕ
below_sign_F s = exponent s * 2 ^ 23 + fraction_F s

abbrev pub below_sign_D : List ℕ → ℕ
below_sign_D s = exponent s * 2 ^ 55 + fraction_D s

-- how many bits each field has
abbrev pub BitsF : List ℕ → Type 0
BitsF s = (sign_of s < 2) × (fraction_F s < 2 ^ 23)

abbrev pub BitsD : List ℕ → Type 0
BitsD s = (sign_of s < 2) × (fraction_D s < 2 ^ 55)

-- the float that has the number's sign and, below it, the pattern 894·2^52 + size
abbrev pub patterned : ℕ → List ℕ → Float
patterned size s = of_bits binary64 (sign_of s * 2 ^ 63 + 894 * 2 ^ 52 + size)
