-- A plotter line (document 02, item 7: "byte x of the window stands at column x"; "Lines stand end to end, each in whole bytes, eight dots
-- a byte, leftmost highest, unused bits zero").
use Rattle.std.specs.Prelude.{ℕ, suc, ◌+◌, ◌-◌, ◌*◌, ◌/◌, ◌%◌, ◌^◌, cond, List, [], ◌∷◌, ◌++◌, map, length, get_or, leb, ltb}
use Rattle.std.specs.List.{range_with_len}
use Rattle.answer.specs.Outcome.{Outcome, answer, need}
use Rattle.dots.specs.Tone.{tone}
use Rattle.dots.specs.Dot.{is_dot, bit}

-- the bytes of a line of c dots
abbrev pub line_bytes : ℕ → ℕ
line_bytes c = (c + 7) / 8

-- the bit at column x of line y, for a window of these bytes: 0 behind the last column
abbrev pub dot_bit : ℕ → List ℕ → ℕ → ℕ
dot_bit y window x = cond (ltb x (length window)) (bit (is_dot (tone (get_or window x 0)) x y)) 0

-- eight bits as a byte, the leftmost highest
abbrev pub eight : (ℕ → ℕ) → ℕ
eight bits =
    128 * bits 0 + 64 * bits 1 + 32 * bits 2 + 16 * bits 3 + 8 * bits 4 + 4 * bits 5 + 2 * bits 6 + bits 7

-- byte j of line y, for a window of these bytes
unfoldable pub line_byte : ℕ → List ℕ → ℕ → ℕ
line_byte y window j = eight (λ i. dot_bit y window (8 * j + i))

-- the line
unfoldable pub line : ℕ → List ℕ → List ℕ
line y window = map (line_byte y window) (range_with_len 0 (line_bytes (length window)))

-- lines end to end, the first of them line y
abbrev pub lines : ℕ → List (List ℕ) → List ℕ
lines y [] = []
lines y (window ∷ windows) = line y window ++ lines (suc y) windows

-- the bit at column x of line y, in lines of so many bytes each
unfoldable pub bit_in : List ℕ → ℕ → ℕ → ℕ → ℕ
bit_in bytes wide x y = get_or bytes (y * wide + x / 8) 0 / 2 ^ (7 - x % 8) % 2

-- line y where there is room for it, or refusal 8
unfoldable pub line_into : ℕ → ℕ → List ℕ → Outcome (List ℕ)
line_into room y window = need (leb (line_bytes (length window)) room) 8 (answer (line y window))
