-- `reader::jump_labelled` meets its contract: the row that was jumped to lies inside the file, so that the window's place fits.
use native.Mathlib.Omega.{arith}
use mathlib.Core.Path.{sym}
use Rattle.reader.specs.declared.Kind.TheVariants.{Labelled}
use Rattle.reader.specs.Read.{jump_to}
use Rattle.reader.proofs.Found.{jumped_inside}
use Rattle.reader.proofs.jump_labelled.Goals as goal

pub window_in-requires : goal.window_in-requires
unfolding jump_to
window_in-requires c =
    let a = c.args in
    omega (arith, jumped_inside (Labelled a.versions) a.file.now a.list.now a.k c.in_ok-row.row (sym c.in_ok-row.ensures))
