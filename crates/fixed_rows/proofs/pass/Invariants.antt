-- `pass` meets its contract. The invariant: `at` stands in front of bytes, and what is to be found from the first place on is what is
-- to be found from `at` on with the rows that are still to pass. Each turn passes one row (`passes_one`).
use Prim.Native.Nat.{◌-◌, ◌<◌}
use mathlib.Core.Path.{◌≡◌}
use lib.ListN.{length, drop}
use Rattle.fixed_rows.specs.Shape.{step}
use Rattle.fixed_rows.specs.Read.{passing}
use Rattle.fixed_rows.proofs.pass.Given as goal

abbrev pub invariant-loop : goal.invariant-loop
invariant-loop g l =
    let s = g.R.FixedRows.shape l.fn.rows in
    (l.at < length l.file) × (passing (step s) l.k s.first (drop s.first l.file) ≡ passing (step s) (l.k - l.counter) l.at (drop l.at l.file))
