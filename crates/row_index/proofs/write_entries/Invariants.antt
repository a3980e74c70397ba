-- `row_index::write_entries` meets its contract: the invariant is `Writing`.
use Rattle.row_index.proofs.Building.{Writing}
use Rattle.row_index.proofs.write_entries.Given as goal

abbrev pub invariant-loop-entry : goal.invariant-loop-entry
invariant-loop-entry l = Writing l.versions l.file l.initial.list l.list l.entry-index l.from l.leaves
