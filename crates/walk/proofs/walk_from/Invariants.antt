-- `walk::walk_from` meets its contract. The measure is what is left of the file; the invariant is `OnTheWay`, each arm is one
-- law of `WalkLoop`, and what an arm knows of its step is `opened` or `leaf`.
use Prim.Native.Nat.{◌-◌}
use lib.ListN.{length}
use Rattle.walk.proofs.WalkLoop.{OnTheWay}
use Rattle.walk.proofs.walk_from.Given as goal

abbrev pub invariant-loop-at : goal.invariant-loop-at
invariant-loop-at l = OnTheWay l.versions l.file l.from l.leaves l.at l.left

abbrev pub decreases-loop-at : goal.decreases-loop-at
decreases-loop-at l = length l.file - l.at
