-- Waveform rows as rows of one size: they take bytes, and row k's samples are the 2,048 bytes from 2,080·k + 32 on, which is
-- the place in its address too.
use Prim.Native.Nat.{ℕ, ◌<◌}
use native.Mathlib.Omega.{arith}
use mathlib.Core.Path.{◌≡◌, ◌∙◌, ap}
use mathlib.Core.List.{List}
use Rattle.answer.specs.Outcome.{answer}
use Rattle.answer.specs.Address.{unlabelled}
use Rattle.fixed_rows.specs.Shape.{step}
use Rattle.fixed_rows.specs.Check.{count_rows}
use Rattle.fixed_rows.specs.Read.{find_row}
use Rattle.fixed_rows.proofs.Rows as fixed
use Rattle.waveform.specs.Rows.{samples_size, waveform, first_sample}

pub takes_bytes : 0 < step waveform
takes_bytes = omega arith

pub row_is_there : (f : List ℕ) (n : ℕ) → count_rows waveform f ≡ answer n → (k : ℕ) → k < n
    → find_row waveform f k ≡ answer (unlabelled (first_sample k) samples_size)
row_is_there f n e k h =
    fixed.row_is_there waveform takes_bytes f n e k h
    ∙ ap (λ (p : ℕ). answer (unlabelled p samples_size)) (omega arith)
