-- The two ways to a row agree, whatever the size of a row and the first place: for any bytes and any row number the jump, which computes
-- the place, answers or refuses exactly as reading, which passes row after row from the first place on. Nothing is supposed of the
-- bytes: a file that is refused is refused alike, and over whole rows the passing ends at the product.
use Prim.Native.Nat.{ℕ, ◌<◌}
use native.Mathlib.Omega.{arith}
use mathlib.Core.Path.{◌≡◌, refl, ◌∙◌, sym, ap}
use mathlib.Core.Bool.{Bool, true, false}
use mathlib.Core.List.{List}
use lib.ListN.{drop, length-drop}
use lib.Dec.{ltb}
use Rattle.answer.specs.Outcome.{answer, need, and_then, mapped}
use Rattle.answer.proofs.Outcomes.{and_then_assoc, and_then_agrees, and_then_agrees_where}
use Rattle.fixed_rows.specs.Shape.{Shape, step, row_at}
use Rattle.fixed_rows.specs.Check.{row_count}
use Rattle.fixed_rows.specs.Read.{passing, read_start, find_row}
use Rattle.fixed_rows.specs.Jump.{start_of, jump_start, jump_to}
use Rattle.fixed_rows.proofs.Passing.{passing_multiplies}
use Rattle.fixed_rows.proofs.Accepted.{accepted_is_whole}

-- the jump in one step: the check, then 6, then the place
pub jump_at_once : (first step : ℕ) (f : List ℕ) (k : ℕ)
    → jump_start first step f k ≡ and_then (row_count first step f) (λ rows. need (ltb k rows) 6 (answer (start_of first step k)))
jump_at_once first step f k =
    and_then_assoc (row_count first step f) (λ rows. need (ltb k rows) 6 (answer k)) (λ m. answer (start_of first step m))
    ∙ and_then_agrees (row_count first step f)
    (λ rows. mapped (start_of first step) (need (ltb k rows) 6 (answer k)))
    (λ rows. need (ltb k rows) 6 (answer (start_of first step k)))
    (λ rows. mapped_need (ltb k rows))
  where
    mapped_need : (t : Bool) → mapped (start_of first step) (need t 6 (answer k)) ≡ need t 6 (answer (start_of first step k))
    mapped_need true = refl
    mapped_need false = refl

-- the row starts at the same place, or is refused alike
pub jump_start_is_read_start : (first step : ℕ) → 0 < step → (f : List ℕ) (k : ℕ) → jump_start first step f k ≡ read_start first step f k
jump_start_is_read_start first step some f k =
    jump_at_once first step f k
    ∙ and_then_agrees_where (row_count first step f)
    (λ rows. need (ltb k rows) 6 (answer (start_of first step k)))
    (λ rows. passing step k first (drop first f))
    (λ n counted.
    sym (passing_multiplies step some k n first (drop first f)
    (rw length-drop (omega (arith, (accepted_is_whole first step f n counted).rows)))))

-- the two ways agree
pub jump_is_read : (s : Shape) → 0 < step s → (f : List ℕ) (k : ℕ) → jump_to s f k ≡ find_row s f k
jump_is_read s some f k = ap (mapped (row_at s)) (jump_start_is_read_start s.first (step s) some f k)
