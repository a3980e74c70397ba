-- Burst records as rows of one size: they take bytes, and record k is the 1,272 bytes from the first place plus 1,272·k on,
-- which is the place in its address too.
use Prim.Native.Nat.{ℕ, ◌+◌, ◌*◌, ◌<◌}
use native.Mathlib.Omega.{arith}
use mathlib.Core.Path.{◌≡◌, ◌∙◌, ap}
use mathlib.Core.List.{List}
use Rattle.answer.specs.Outcome.{answer}
use Rattle.answer.specs.Address.{unlabelled}
use Rattle.fixed_rows.specs.Shape.{step}
use Rattle.fixed_rows.specs.Check.{count_rows}
use Rattle.fixed_rows.specs.Read.{find_row}
use Rattle.fixed_rows.proofs.Rows as fixed
use Rattle.bursts.specs.Rows.{record_size, bursts}

pub takes_bytes : (first : ℕ) → 0 < step (bursts first)
takes_bytes first = omega arith

pub row_is_there : (f : List ℕ) (first n : ℕ) → count_rows (bursts first) f ≡ answer n → (k : ℕ) → k < n
    → find_row (bursts first) f k ≡ answer (unlabelled (first + record_size * k) record_size)
row_is_there f first n e k h =
    fixed.row_is_there (bursts first) (takes_bytes first) f n e k h
    ∙ ap (λ (p : ℕ). answer (unlabelled p record_size)) (omega arith)
