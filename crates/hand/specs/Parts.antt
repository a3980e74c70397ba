-- Parts of answers that have no number of their own in the library.
use Rattle.std.specs.Prelude.{ℕ, ◌-◌, List, [], ◌∷◌, ℤ, pos, negsuc, get_or, Option, Some, None}
use Rattle.answer.specs.declared.Nesting.{Nesting}
use Rattle.answer.specs.declared.Shown.{Shown}
use Rattle.verdicts.specs.declared.Side.{Side}
use Rattle.verdicts.specs.declared.Side.TheVariants.{Below, Inside, Above}
use Rattle.burst_fields.specs.declared.Value.{Value}
use Rattle.burst_fields.specs.declared.Value.TheVariants.{Unsigned, Signed, Float4, Float8, Text}
use Rattle.hand.specs.declared.Stored.{Stored}

-- whether the depth is known: 1, and 0 where it is absent
abbrev pub nesting_number : Option Nesting → ℕ
nesting_number (Some nesting) = 1
nesting_number None = 0

-- what is handed over of the depth and of the outermost place: where they are absent, what was there
abbrev pub depth_handed : Option Nesting → ℕ → ℕ
depth_handed (Some nesting) old = nesting.depth
depth_handed None old = old

abbrev pub outermost_handed : Option Nesting → ℕ → ℕ
outermost_handed (Some nesting) old = nesting.outermost
outermost_handed None old = old

-- what is shown of a row, in six numbers, over the six that were there
abbrev pub row_numbers : List ℕ → Shown → List ℕ
row_numbers old s =
    s.part.place
    ∷ s.part.count
    ∷ s.address.label
    ∷ nesting_number s.address.nesting
    ∷ depth_handed s.address.nesting (get_or old 4 0)
    ∷ outermost_handed s.address.nesting (get_or old 5 0)
    ∷ []

-- a verdict as a number
abbrev pub side_number : Side → ℕ
side_number Below = 0
side_number Inside = 1
side_number Above = 2

-- the 64 bits of a signed number, in two's complement: −1 has them all set
abbrev pub bits_of : ℤ → ℕ
bits_of (pos n) = n
bits_of (negsuc n) = 18446744073709551615 - n

-- what a field holds, in four numbers: the number of its type; its bits, 0 for a text; and of a text the place and how many bytes it
-- has, 0 and 0 for all others
abbrev pub in_numbers : Value → Stored
in_numbers (Unsigned n) = record { kind = 0; bits = n; place = 0; shown = 0 }
in_numbers (Signed z) = record { kind = 1; bits = bits_of z; place = 0; shown = 0 }
in_numbers (Float4 bits) = record { kind = 2; bits = bits; place = 0; shown = 0 }
in_numbers (Float8 bits) = record { kind = 3; bits = bits; place = 0; shown = 0 }
in_numbers (Text p) = record { kind = 4; bits = 0; place = p.place; shown = p.count }

-- the number of beams handed over for a mask: none where the mask is above
abbrev pub beams_handed : Option ℕ → ℕ → ℕ
beams_handed (Some beams) old = beams
beams_handed None old = old

-- a mode as a number: 8 for one that has no name
abbrev pub mode_handed : Option ℕ → ℕ
mode_handed (Some n) = n
mode_handed None = 8
