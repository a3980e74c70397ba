-- The text of a number reads back as that number: the definition is no other number's text.
use Prim.Native.Nat.{ℕ, ◌+◌, ◌/◌, ◌%◌, ◌^◌, ◌<◌}
use native.Mathlib.Omega.{arith}
use mathlib.Core.Path.{◌≡◌, refl, ◌∙◌}
use mathlib.Core.Bool.{Bool, true, false}
use mathlib.Core.List.{List, [], ◌∷◌, ◌++◌}
use Rattle.std.specs.Prelude.{Some}
use lib.Dec.{eqb}
use borrow.Author.Tests.{eqb-true}
use Rattle.text.specs.Digits.{decimal, digits_of}
use Rattle.text.proofs.Digits.{digits_read_back}
use Rattle.text.specs.Decimal.{either, unpadded, decimal_text}

-- zeros in front change nothing
zeros_read_as_nothing : (xs ys : List ℕ) → decimal 0 (unpadded xs ++ ys) ≡ decimal 0 (xs ++ ys)
zeros_read_as_nothing [] ys = refl
zeros_read_as_nothing (b ∷ bs) ys = step (eqb b 48) refl (zeros_read_as_nothing bs ys)
  where
    step : (t : Bool) → eqb b 48 ≡ t → decimal 0 (unpadded bs ++ ys) ≡ decimal 0 (bs ++ ys)
        → decimal 0 (either t (unpadded bs) (b ∷ bs) ++ ys) ≡ decimal 0 (b ∷ (bs ++ ys))
    step true e h = rw (eqb-true b 48 e) h
    step false e h = refl

pub decimal_reads_back : (n : ℕ) → n < 2 ^ 64 → decimal 0 (decimal_text n) ≡ Some n
unfolding decimal_text
decimal_reads_back n h =
    zeros_read_as_nothing (digits_of 19 (n / 10)) ((48 + n % 10) ∷ []) ∙ digits_read_back 20 n (omega arith)
