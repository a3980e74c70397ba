-- The lines of a listing (document 01, "The list program": "It prints `rows N`, then for each row its number, the place of
-- its value, its length and its description. A refusal prints `refused NUMBER PLACE` alone. Lines end in byte 10"; document 02,
-- item 2, of the spaces: "the list program shows it as a last column on every row"). Characters are ASCII: a space is 32.
use Rattle.std.specs.Prelude.{ℕ, List, [], ◌∷◌, ◌++◌}
use Rattle.answer.specs.Outcome.{Outcome, answer, refuse}
use Rattle.text.specs.Decimal.{decimal_text}

-- the first line, `rows N` or `refused NUMBER PLACE`; the words are spelled out, each with the space after it
abbrev pub head_text : Outcome ℕ → List ℕ
head_text (answer rows) = (114 ∷ 111 ∷ 119 ∷ 115 ∷ 32 ∷ []) ++ (decimal_text rows ++ (10 ∷ []))
head_text (refuse number place) =
    (114 ∷ 101 ∷ 102 ∷ 117 ∷ 115 ∷ 101 ∷ 100 ∷ 32 ∷ []) ++ (decimal_text number ++ (32 ∷ (decimal_text place ++ (10 ∷ []))))

-- the end of a row's line: what it shows of the row's label, the description and the spaces
abbrev pub end_text : List ℕ → ℕ → List ℕ
end_text d spaces = 32 ∷ (d ++ (32 ∷ (decimal_text spaces ++ (10 ∷ []))))

-- a row's line: number, place of the value, length, description, spaces
abbrev pub row_text : ℕ → ℕ → ℕ → List ℕ → ℕ → List ℕ
row_text number place size d spaces =
    decimal_text number ++ (32 ∷ (decimal_text place ++ (32 ∷ (decimal_text size ++ end_text d spaces))))
