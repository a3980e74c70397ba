-- `listing::put_rows` meets its contract: each walk comes to the next row, and is never refused.
use native.Mathlib.Omega.{arith}
use Prim.Native.Nat.{◌+◌, ◌≤◌}
use Rattle.listing.proofs.Underway.{never_refused, ends_in_the_file, line_has_room}
use Rattle.listing.proofs.put_rows.Goals as goal
use Rattle.listing.proofs.put_rows.Goals.{In-Ok}

-- the leaf that the walk came to ends in the file
in_the_file : (c : In-Ok) → c.in-Ok.leaf.place + 20 + c.in-Ok.leaf.label.length ≤ 65536
in_the_file c = ends_in_the_file c.loop-number.invariant c.loop-number-test.true c.in-Ok.ensures

pub returns-in_default : goal.returns-in_default
returns-in_default c = absurd (never_refused c.loop-number.invariant c.loop-number-test.true _ _ c.in_default.ensures)

pub row_line-requires : goal.row_line-requires
row_line-requires c = omega (arith, in_the_file (goal.at.row_line-requires c).In-Ok)

pub put-end-requires : goal.put-end-requires
put-end-requires c =
    let room = c.requires.room in
    rw (c.text.ensures.text, c.row_line.ensures) (line_has_room c.loop-number.invariant c.loop-number-test.true c.in-Ok.ensures room.0 room.1)

pub overflow_add-from : goal.overflow_add-from
overflow_add-from c = omega (arith, in_the_file (goal.at.overflow_add-from c).In-Ok)

pub overflow_add-from-in-loop-number : goal.overflow_add-from-in-loop-number
overflow_add-from-in-loop-number c = omega (arith, in_the_file (goal.at.overflow_add-from-in-loop-number c).In-Ok)
