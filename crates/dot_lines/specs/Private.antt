-- Cited only by promises of private functions: eight samples compared with eight numbers at once, four in each of two words, and the
-- eight bits gathered in a byte.
use Rattle.std.specs.Prelude.{ℕ, ◌+◌, ◌*◌, ◌/◌, ◌%◌, List, get_or}
use Rattle.dots.specs.Tone.{tone}
use Rattle.dots.specs.Matrix.{level}
use Rattle.dots.specs.Dot.{is_dot, bit}
use Rattle.dot_lines.specs.Line.{eight}

-- the least sample whose tone is not below 4·M + 2: the least s with (4·M + 2)·(4·M + 2) ≤ 255·s
abbrev pub cut : ℕ → ℕ
cut m = ((4 * m + 2) * (4 * m + 2) + 254) / 255

-- four numbers of 16 bits in a word, the first of them lowest
abbrev pub lanes : ℕ → ℕ → ℕ → ℕ → ℕ
lanes p q r s = ((s * 65536 + r) * 65536 + q) * 65536 + p

-- for row y, 255 and the cut of each second column from a first one on
unfoldable pub cuts_from : ℕ → ℕ → ℕ
cuts_from x y = lanes (255 + cut (level y x)) (255 + cut (level y (x + 2))) (255 + cut (level y (x + 4))) (255 + cut (level y (x + 6)))

-- a word of four times two bits, with those of the first lane leftmost, as a byte
abbrev pub folded : ℕ → ℕ
folded w = 16 * w + w / 4294967296

abbrev pub gathered : ℕ → ℕ
gathered w = (4 * folded w + folded w / 65536) % 256

-- the dots of eight samples at columns 0 to 7 of row y, as a byte
unfoldable pub dots_of : ℕ → List ℕ → ℕ
dots_of y samples = eight (λ i. bit (is_dot (tone (get_or samples i 0)) i y))
