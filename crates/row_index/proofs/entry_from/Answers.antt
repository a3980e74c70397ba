-- `row_index::entry_from` meets its contract: the place of the leaf that the walk came to lies in the file.
use mathlib.Core.Path.{sym, ap, subst}
use lib.ListN.{length}
use Prim.Native.Nat.{◌≤◌}
use Rattle.walk.specs.declared.Leaf.{Leaf}
use Rattle.answer.specs.Outcome.{Outcome}
use Rattle.row_index.specs.Index.{place_found}
use Rattle.row_index.proofs.Entries.{place_found_inside}
use Rattle.row_index.proofs.entry_from.Goals as goal

pub returns-in-Ok : goal.returns-in-Ok
returns-in-Ok c =
    let a = c.args in
    let e = sym c.in-Ok.ensures in
    (ap place_found (sym e), subst (λ (r : Outcome Leaf). place_found r ≤ length a.file.now) e (place_found_inside a.versions a.file.now a.from a.leaves))
