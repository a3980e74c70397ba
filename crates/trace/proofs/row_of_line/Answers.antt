-- `trace::row_of_line` meets its contract: a row's number that passes 64 bits is beyond the last row.
use Rattle.std.proofs.Common.{arith, ◌+◌, sym}
use Rattle.trace.proofs.OneDot.{past_the_last}
use Rattle.trace.proofs.row_of_line.Goals as goal

pub returns-in_ok-check-in-None : goal.returns-in_ok-check-in-None
returns-in_ok-check-in-None c =
    let a = c.args in
    let range = rw c.in_ok-check-in-None.was at c.check.type_inv in
    sym (past_the_last a.kind a.file.now c.in_ok-check-in-None.field-0 (a.first + a.y) (sym c.in_ok-check-in-None.ensures)
    (omega (arith, range, c.in-None.ensures)))
