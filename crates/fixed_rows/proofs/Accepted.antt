-- What the check accepts: exactly the files within the size limit whose bytes from the first place on are n whole rows.
use Prim.Native.Nat.{ℕ, ◌+◌, ◌*◌, ◌-◌, ◌/◌, ◌%◌, ◌≤◌, ◌<◌}
use native.Mathlib.Nat.{div-add-mod, mul-div_right, mul-mod_right}
use native.Mathlib.Omega.{arith}
use mathlib.Core.Path.{◌≡◌, ap}
use mathlib.Core.List.{List}
use lib.ListN.{length}
use lib.Dec.{leb, eqb}
use borrow.Author.Tests.{leb-true, eqb-true, le-leb}
use Rattle.answer.specs.Outcome.{answer, need}
use Rattle.answer.specs.Size.{largest_file}
use Rattle.answer.proofs.Outcomes.{passed, answer_injective}
use Rattle.fixed_rows.specs.Check.{whole_rows, row_count}

module _ (first step : ℕ) where
  -- a file that is n rows behind the bytes in front
  pub record Whole (f : List ℕ) (n : ℕ) : Type 0 where
    pub within : length f ≤ largest_file
    pub rows : length f ≡ first + step * n

  pub accepted_is_whole : (f : List ℕ) (n : ℕ) → row_count first step f ≡ answer n → Whole f n
  accepted_is_whole f n e =
      let rest = length f - first in
      let small = passed 0 (leb (length f) largest_file) 14 (need (leb first (length f)) 16 (whole_rows step rest)) n e in
      let begins = passed 0 (leb first (length f)) 16 (whole_rows step rest) n small.1 in
      let whole = passed 0 (eqb (rest % step) 0) 12 (answer (rest / step)) n begins.1 in
      let many : step * (rest / step) ≡ step * n = ap (λ (m : ℕ). step * m) (answer_injective whole.1) in
      record {
        within = leb-true (length f) largest_file small.0;
        rows = omega (arith, leb-true first (length f) begins.0, eqb-true (rest % step) 0 whole.0, div-add-mod rest step, many);
      }

  pub whole_is_accepted : 0 < step → (f : List ℕ) (n : ℕ) → Whole f n → row_count first step f ≡ answer n
  whole_is_accepted some f n w =
      let rest : length f - first ≡ step * n = omega (arith, w.rows) in
      rw (le-leb (length f) largest_file w.within, le-leb first (length f) (omega (arith, w.rows)), rest, mul-mod_right step n, mul-div_right n some)
