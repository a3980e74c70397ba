-- A row that is there ends in the file, whatever its size: one that the passing comes to, and one that begins where going on is told to.
use Prim.Native.Nat.{ℕ, zero, suc, ◌+◌, ◌*◌, ◌-◌, ◌/◌, ◌%◌, ◌≤◌, ◌<◌}
use native.Mathlib.Nat.{div-add-mod, div-le_self, lt_of_not-le, mul-le-mul_left, zero-mul}
use native.Mathlib.Omega.{arith}
use mathlib.Core.Path.{◌≡◌, ◌∙◌, sym}
use mathlib.Core.Bool.{true, ◌&&◌}
use mathlib.Core.List.{List}
use lib.ListN.{length, drop}
use lib.Dec.{leb, ltb, eqb}
use borrow.Author.Tests.{leb-true, ltb-true, eqb-true}
use Rattle.answer.specs.Outcome.{answer, need}
use Rattle.answer.specs.Size.{largest_file}
use Rattle.answer.proofs.Outcomes.{after_answer, answer_is_no_refusal, answer_injective, passed}
use Rattle.answer.proofs.Tests.{both_hold}
use Rattle.fixed_rows.specs.Check.{whole_rows, row_count}
use Rattle.fixed_rows.specs.Read.{passing}
use Rattle.fixed_rows.specs.From.{starts}
use Rattle.fixed_rows.proofs.Accepted.{accepted_is_whole}
use Rattle.fixed_rows.proofs.Passing.{past_the_end}
use Rattle.fixed_rows.proofs.Rows.{ends_inside, found_ends_inside, one_more_row}

module _ (first : ℕ) (f : List ℕ) where
  pub passed_ends_inside : (step k n p : ℕ) → row_count first step f ≡ answer n → passing step k first (drop first f) ≡ answer p → p + step ≤ length f
  passed_ends_inside zero k n p counted at =
      let none = (accepted_is_whole first 0 f n counted).rows in
      absurd (answer_is_no_refusal (sym at ∙ past_the_end 0 f first k (omega (arith, none, zero-mul n))))
  passed_ends_inside (suc step) k n p counted at =
      found_ends_inside first (suc step) f k (omega arith) p
      (after_answer (row_count first (suc step) f) (λ rows. passing (suc step) k first (drop first f)) n counted ∙ at)

  module _ (step n : ℕ) (counted : row_count first step f ≡ answer n) where
    pub few_rows : n ≤ largest_file
    few_rows =
        let rest = length f - first in
        let small = passed 0 (leb (length f) largest_file) 14 (need (leb first (length f)) 16 (whole_rows step rest)) n counted in
        let begins = passed 0 (leb first (length f)) 16 (whole_rows step rest) n small.1 in
        let whole = passed 0 (eqb (rest % step) 0) 12 (answer (rest / step)) n begins.1 in
        omega (arith, answer_injective whole.1, div-le_self rest step, leb-true (length f) largest_file small.0)

    pub begun_ends_inside : (from : ℕ) → starts first step (length f) from ≡ true → from + step ≤ length f
    begun_ends_inside from begun =
        let (behind, more) = both_hold (leb first from) (ltb from (length f) && eqb ((from - first) % step) 0) begun in
        let (inside, whole) = both_hold (ltb from (length f)) (eqb ((from - first) % step) 0) more in
        let q = (from - first) / step in
        let rows = (accepted_is_whole first step f n counted).rows in
        let at : from ≡ first + step * q = omega (arith, leb-true first from behind, eqb-true ((from - first) % step) 0 whole, div-add-mod (from - first) step) in
        let fewer : q < n = lt_of_not-le (λ (h : n ≤ q). omega (arith, ltb-true from (length f) inside, rows, at, mul-le-mul_left step h)) in
        omega (arith, at, rows, one_more_row step q n fewer)

    pub jumped_ends_inside : (k : ℕ) → k < n → first + step * k + step ≤ largest_file
    jumped_ends_inside k below = omega (arith, ends_inside first step f k n counted below, (accepted_is_whole first step f n counted).within)
