-- Little-endian numbers (document 01, "Kept form": "all little-endian"; document 02, item 1: "little-endian"): the lowest byte stands
-- first.
use Rattle.std.specs.Prelude.{ℕ, zero, suc, ◌+◌, ◌*◌, ◌/◌, ◌%◌, ◌<◌, cond, List, [], ◌∷◌, length, leb, Option, Some, None}
use Rattle.answer.specs.Window.{bytes_at}

-- the w lowest bytes of n
abbrev pub le : ℕ → ℕ → List ℕ
le zero n = []
le (suc w) n = n % 256 ∷ le w (n / 256)

-- the number that these bytes are
abbrev pub le_number : List ℕ → ℕ
le_number [] = 0
le_number (b ∷ bs) = b + 256 * le_number bs

-- the number in so many bytes from a place on; none where not all of them are there
abbrev pub number_in : ℕ → List ℕ → ℕ → Option ℕ
number_in w s at = cond (leb (at + w) (length s)) (Some (le_number (bytes_at s at w))) None

-- each number of the list is below m: 256 for bytes, 2^32 for entries; the theorems on reading back suppose it, and a lent
-- slice has it by its type
abbrev pub Below : ℕ → List ℕ → Type 0
Below m [] = Unit
Below m (x ∷ xs) = (x < m) × Below m xs
