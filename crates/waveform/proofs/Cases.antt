-- Cases 7 and 10 of document 01's list, each stated of every file that it speaks of.
use Prim.Native.Nat.{ℕ}
use mathlib.Core.Path.{◌≡◌, refl}
use mathlib.Core.List.{List, []}
use lib.ListN.{length}
use lib.IntN.{pos, neg_ℤ}
use Rattle.answer.specs.Outcome.{answer, refuse}
use Rattle.fixed_rows.specs.Check.{count_rows}
use Rattle.waveform.specs.Rows.{waveform}
use Rattle.waveform.specs.Sample.{twice_amplitude}

-- 7: a file of 2,079 bytes gives 12; of 0 bytes, 0 rows
pub one_byte_short : (f : List ℕ) → length f ≡ 2079 → count_rows waveform f ≡ refuse 12 0
one_byte_short f e = simp e

pub empty_file : count_rows waveform [] ≡ answer 0
empty_file = refl

-- 10: samples 0, 127, 128, 255 give −255, −1, 1, 255
pub sample_0 : twice_amplitude 0 ≡ neg_ℤ (pos 255)
sample_0 = refl

pub sample_127 : twice_amplitude 127 ≡ neg_ℤ (pos 1)
sample_127 = refl

pub sample_128 : twice_amplitude 128 ≡ pos 1
sample_128 = refl

pub sample_255 : twice_amplitude 255 ≡ pos 255
sample_255 = refl
