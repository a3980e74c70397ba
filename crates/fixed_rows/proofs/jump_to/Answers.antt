-- `fixed_rows::jump_to` meets its contract: a row that is there ends in the file, so that its place does not wrap.
use Rattle.std.proofs.Common.{arith, sym}
use Rattle.fixed_rows.specs.Shape.{step}
use Rattle.fixed_rows.proofs.Ends.{jumped_ends_inside}
use Rattle.fixed_rows.proofs.jump_to.Goals as goal

pub shown_at-requires : goal.shown_at-requires
shown_at-requires g c =
    let s = g.R.FixedRows.shape c.args.rows in
    let ends = jumped_ends_inside s.first c.args.file.now (step s) c.in_ok-count.field-0 (sym c.in_ok-count.ensures) c.args.k c.if-branch.true in
    omega (arith, ends, c.first.ensures, c.bytes_before.ensures (omega (arith, ends)))
