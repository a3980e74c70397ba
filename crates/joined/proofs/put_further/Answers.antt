-- `joined::put_further` meets its contract: the entry of the second file's own index is there, and what is found from it is the joined one.
use Prim.Native.Nat.{ℕ, ◌+◌}
use native.Mathlib.Omega.{arith}
use native.Mathlib.Nat.{le_of_eq}
use mathlib.Core.Path.{refl, ◌∙◌, ap}
use lib.ListN.{length}
use Rattle.joined.specs.Private.{further}
use Rattle.answer.proofs.Writers.{one_put}
use Rattle.joined.proofs.Writing.{Further, further_entry}
use Rattle.joined.proofs.put_further.Goals as goal
use Rattle.joined.proofs.put_further.Goals.{In-loop-i}

found : (c : In-loop-i) → Further c.args.versions c.args.base
    c.args.file.now c.args.index.now c.args.passed c.loop-i.i
found c =
    let a = c.args in
    further_entry a.versions a.base a.file.now a.index.now a.passed c.loop-i.i c.requires.1 c.requires.2 (omega (arith, c.requires.3, c.loop-i-test.true, c.loop-i.auto.i-end))

pub bounds-index-i : goal.bounds-index-i
bounds-index-i c = (found (goal.at.bounds-index-i c).In-loop-i).inside

pub loop-i-preserved : goal.loop-i-preserved
loop-i-preserved c =
    let w = c.loop-i in
    let a = c.args in
    one_put (further a.versions a.base a.file.now a.passed) a.list.now (length a.list.now) w.list w.i w.invariant (le_of_eq c.requires.3) (le_of_eq refl) _
    (omega (arith, c.loop-i-test.true, w.auto.i-end))
    (ap (λ (p : ℕ). a.base + p) c.entry_from-place.ensures.0 ∙ (found (goal.at.loop-i-preserved c).In-loop-i).is)
