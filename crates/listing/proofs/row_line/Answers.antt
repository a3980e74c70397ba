-- `listing::row_line` meets its contract: the pieces of a row's line, in their order.
use mathlib.Core.List.{append_assoc}
use Rattle.listing.proofs.row_line.Goals as goal

pub returns : goal.returns
returns c =
    rw (c.push-6.ensures, c.push_number-4.ensures.text, c.push-5.ensures, c.push-4.ensures, c.push-3.ensures, c.push_number-3.ensures.text, c.push-2.ensures, c.push_number-2.ensures.text, c.push.ensures, c.push_number.ensures.text, c.new-line.ensures, c.from.ensures)
    (simp append_assoc)
