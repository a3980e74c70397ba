-- `row_index::write_entries` meets its contract: a turn of the loop writes the entry that the walk came to.
use native.Mathlib.Omega.{arith}
use Rattle.row_index.proofs.Building.{entry_written}
use Rattle.row_index.proofs.write_entries.Goals as goal

pub loop-entry-preserved : goal.loop-entry-preserved
loop-entry-preserved c =
    let a = c.args in
    let w = c.loop-entry in
    entry_written a.versions a.file.now a.list.now w.list w.entry-index w.from w.leaves w.invariant c.requires.1 _
    (omega (arith, c.loop-entry-test.true, w.auto.entry-index-end)) c.entry_from-place.ensures.0
