-- What a sample byte stands for (source document 003, the column WBR_SAMPLE: unsigned, offset −127.5; document 01,
-- "Numbers"): twice the amplitude, 2s − 255, so that the answer is a whole number.
use Rattle.std.specs.Prelude.{ℕ, ℤ, pos, ◌-ℤ◌, ◌*ℤ◌}

abbrev pub twice_amplitude : ℕ → ℤ
twice_amplitude s = pos 2 *ℤ pos s -ℤ pos 255
