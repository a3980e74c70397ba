-- Document 02, item 5, over whole numbers: how far a D number's float is from the number, and how far the two forms are from one
-- another. D's last place is 2^(e−184), so that a number is as many last places as its mantissa says.
use Rattle.std.specs.Prelude.{ℕ, ◌+◌, ◌*◌, ◌^◌, ◌≤◌, ◌<◌, Bool, cond, List, ◌⊎◌, ◌≡◌, get_or, eqb, Float}
use Rattle.std.specs.Float.{binary64}
use Rattle.std.specs.Float.Ieee.Exact.{HasValue}
use Rattle.answer.specs.Outcome.{Outcome, answer, refuse}
use Rattle.rounding.specs.Nearest.{apart, TheNearest, NextToZero}
use Rattle.vax.specs.Fields.{negative, exponent, mantissa_D}
use Rattle.vax.specs.Numbers.{vax_D, vax_D_dropped}

-- a number in last places: none for zero, which has the exponent 0
abbrev pub last_places : List ℕ → ℕ
last_places s = cond (eqb (exponent s) 0) 0 (mantissa_D s)

-- a float x for the number of that sign and of m last places with the exponent e: it is the nearest one, and no other is; "the error is
-- at most 4 units of D's own last place"; "also where rounding carries into the next power of two", which mantissas from 2^56 − 4 on
-- do, 56 ones among them: they become 2^56
pub record ToNearest (x : Float) (sign : Bool) (m e : ℕ) : Type 0 where
  pub nearest : TheNearest binary64 x sign (m * 2 ^ e) (2 ^ 184)
  pub places : ℕ
  pub value : HasValue x sign (places * 2 ^ e) (2 ^ 184)
  pub error : apart places m ≤ 4
  pub carry : 2 ^ 56 ≤ m + 4 → places ≡ 2 ^ 56

abbrev pub NearestD : List ℕ → Outcome Float → Type 0
NearestD s o = (x : Float) → o ≡ answer x → ToNearest x (negative s) (last_places s) (exponent s)

-- "the two never differ by more than one step of the 64-bit float": they are the same, or the first is the next float from the second
-- towards zero; or both are refused alike
abbrev pub OneStep : Outcome Float → Outcome Float → Type 0
OneStep (answer x) (answer y) = (x ≡ y) ⊎ NextToZero binary64 x y
OneStep (answer x) (refuse n p) = ⊥
OneStep (refuse n p) (answer y) = ⊥
OneStep (refuse n p) (refuse m q) = (n ≡ m) × (p ≡ q)

-- the dropped form and the nearest, of any bytes
abbrev pub OneStepD : List ℕ → Type 0
OneStepD s = ((i : ℕ) → get_or s i 0 < 256) → OneStep (vax_D_dropped s) (vax_D s)
