-- Which classes are opened, their values being divided into labelled objects (document 02, item 3: "Its structure classes
-- Z, U and F are opened from now on, and every other class is a leaf"). `F` is 70, `U` 85, `Z` 90.
use Rattle.std.specs.Prelude.{ℕ, Bool, ◌||◌, eqb}

abbrev pub is_opened : ℕ → Bool
is_opened class = eqb class 70 || eqb class 85 || eqb class 90
