-- `row_index::entries_agree` meets its contract: the invariant is `Comparing`.
use Rattle.row_index.proofs.Building.{Comparing}
use Rattle.row_index.proofs.entries_agree.Given as goal

abbrev pub invariant-loop-i : goal.invariant-loop-i
invariant-loop-i g l = Comparing l.versions l.file (g.E.IndexList.entries l.list) l.i l.from l.leaves
