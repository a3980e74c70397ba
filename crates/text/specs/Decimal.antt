-- The decimal text of a number, as the list program prints numbers (document 02, item 2: `rows 2`, `0 40 3 DEMO 0`): its
-- digits, most significant first, without leading zeros; 0 is `0`, which is 48.
use Rattle.std.specs.Prelude.{ℕ, ◌+◌, ◌/◌, ◌%◌, Bool, true, false, List, [], ◌∷◌, ◌++◌, eqb}
use Rattle.text.specs.Digits.{digits_of}

abbrev pub either : Bool → List ℕ → List ℕ → List ℕ
either true a b = a
either false a b = b

-- digits without the zeros in front
abbrev pub unpadded : List ℕ → List ℕ
unpadded [] = []
unpadded (b ∷ bs) = either (eqb b 48) (unpadded bs) (b ∷ bs)

-- the text of a number of at most twenty digits: the last digit always, those before it without the zeros in front
unfoldable pub decimal_text : ℕ → List ℕ
decimal_text n = unpadded (digits_of 19 (n / 10)) ++ ((48 + n % 10) ∷ [])
