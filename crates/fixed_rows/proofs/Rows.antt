-- The rows of a file: row k is there exactly where k is below the count of rows, and starts at the first place plus k times the
-- bytes of a row; it lies in the file.
use Prim.Native.Nat.{ℕ, ◌+◌, ◌*◌, ◌≤◌, ◌<◌}
use native.Mathlib.Nat.{mul-suc, mul-le-mul_left}
use native.Mathlib.Omega.{arith}
use mathlib.Core.Path.{◌≡◌, ◌∙◌, sym, ap, subst}
use mathlib.Core.List.{List}
use lib.ListN.{length}
use lib.Dec.{ltb}
use borrow.Author.Tests.{lt-ltb, le-ltb, ltb-true}
use Rattle.answer.specs.Outcome.{answer, refuse, need, mapped}
use Rattle.answer.specs.declared.Shown.{Shown}
use Rattle.answer.proofs.Outcomes.{after_answer, first_answered, mapped_answer, passed, answer_injective}
use Rattle.fixed_rows.specs.Shape.{Shape, step, row_at}
use Rattle.fixed_rows.specs.Check.{row_count}
use Rattle.fixed_rows.specs.Read.{read_start, find_row}
use Rattle.fixed_rows.specs.Jump.{start_of, jump_start}
use Rattle.fixed_rows.proofs.Accepted.{accepted_is_whole}
use Rattle.fixed_rows.proofs.JumpIsRead.{jump_at_once, jump_start_is_read_start}

-- a row that starts at p: the file's count of rows, and the row's number below it
pub record Found (first step : ℕ) (f : List ℕ) (k p : ℕ) : Type 0 where
  pub rows : ℕ
  pub counted : row_count first step f ≡ answer rows
  pub below : k < rows
  pub start : p ≡ start_of first step k

-- k rows and one more are no more than n rows
pub one_more_row : (step : ℕ) (k n : ℕ) → k < n → step * k + step ≤ step * n
one_more_row step k n h = omega (arith, mul-suc step k, mul-le-mul_left step h)

module _ (first step : ℕ) (f : List ℕ) (k : ℕ) where
  module _ (n : ℕ) (e : row_count first step f ≡ answer n) where
    jump_finds : k < n → jump_start first step f k ≡ answer (start_of first step k)
    jump_finds h = jump_at_once first step f k ∙ after_answer (row_count first step f) _ n e ∙ rw (lt-ltb k n h)

    jump_misses : n ≤ k → jump_start first step f k ≡ refuse 6 0
    jump_misses h = jump_at_once first step f k ∙ after_answer (row_count first step f) _ n e ∙ rw (le-ltb k n h)

    -- a row that is there ends in the file
    pub ends_inside : k < n → start_of first step k + step ≤ length f
    ends_inside h = omega (arith, (accepted_is_whole first step f n e).rows, one_more_row step k n h)

  -- what the jump finds is such a row
  jumped_is_row : (p : ℕ) → jump_start first step f k ≡ answer p → Found first step f k p
  jumped_is_row p e =
      let (n, counted, q) =
      first_answered (row_count first step f) (λ rows. need (ltb k rows) 6 (answer (start_of first step k))) p (sym (jump_at_once first step f k) ∙ e) in
      let (below, is) = passed 0 (ltb k n) 6 (answer (start_of first step k)) p q in
      record { rows = n; counted = counted; below = ltb-true k n below; start = sym (answer_injective is) }

  module _ (some : 0 < step) where
    -- and what reading finds
    pub found_is_row : (p : ℕ) → read_start first step f k ≡ answer p → Found first step f k p
    found_is_row p e = jumped_is_row p (jump_start_is_read_start first step some f k ∙ e)

    pub found_ends_inside : (p : ℕ) → read_start first step f k ≡ answer p → p + step ≤ length f
    found_ends_inside p e =
        let r = found_is_row p e in
        omega (arith, r.start, ends_inside r.rows r.counted r.below)

module _ (s : Shape) (some : 0 < step s) (f : List ℕ) where
  module _ (n : ℕ) (e : row_count s.first (step s) f ≡ answer n) where
    -- row k is there where k is below the count of rows
    pub row_is_there : (k : ℕ) → k < n → find_row s f k ≡ answer (row_at s (start_of s.first (step s) k))
    row_is_there k h =
        ap (mapped (row_at s)) (sym (jump_start_is_read_start s.first (step s) some f k) ∙ jump_finds s.first (step s) f k n e h)

    -- and nowhere else
    pub no_such_row : (k : ℕ) → n ≤ k → find_row s f k ≡ refuse 6 0
    no_such_row k h =
        ap (mapped (row_at s)) (sym (jump_start_is_read_start s.first (step s) some f k) ∙ jump_misses s.first (step s) f k n e h)

  -- a row that was found lies in the file
  pub row_inside : (k : ℕ) (p : Shown) → find_row s f k ≡ answer p → p.part.place + p.part.count ≤ length f
  row_inside k p e =
      let (start, found, is) = mapped_answer (row_at s) (read_start s.first (step s) f k) p e in
      subst (λ (r : Shown). r.part.place + r.part.count ≤ length f) is
      (omega (arith, found_ends_inside s.first (step s) f k some start found))

-- and has the bytes of a row
pub row_has_its_size : (s : Shape) (f : List ℕ) (k : ℕ) (p : Shown) → find_row s f k ≡ answer p → p.part.count ≡ s.size
row_has_its_size s f k p e =
    let (start, found, is) = mapped_answer (row_at s) (read_start s.first (step s) f k) p e in
    sym (ap (λ (r : Shown). r.part.count) is)
