-- The measure of the call is the depth that is left, that of the loop the bytes that are left; the invariant is `Sofar`.
use Rattle.std.proofs.Common.{length, ◌-◌}
use Rattle.std.specs.Prelude.{unwrap_or}
use Rattle.sfdu.proofs.Nested.{Sofar}
use Rattle.sfdu.proofs.+search_part.Given as goal

abbrev pub decreases-search_part : goal.decreases-search_part
decreases-search_part l = l.left

abbrev pub invariant-loop-at : goal.invariant-loop-at
invariant-loop-at l = Sofar l.versions l.part l.base l.left (unwrap_or l.outer) l.k l.initial.seen l.at l.seen

abbrev pub decreases-loop-at : goal.decreases-loop-at
decreases-loop-at l = length l.part - l.at
