-- `listing::write_listing` meets its contract: the first line, then the rows' lines or nothing.
use mathlib.Core.Path.{◌∙◌, ap}
use Rattle.answer.specs.Told.{told}
use borrow.Author.Rules.{rules}
use Rattle.listing.proofs.Whole.{head_is_short, rows_follow, nothing_follows}
use Rattle.listing.proofs.write_listing.Goals as goal

pub put_rows-requires-clause-room : goal.put_rows-requires-clause-room
put_rows-requires-clause-room c =
    (head_is_short c.args.file.now c.check_listed-checked.ensures (c.text.ensures.text ∙ c.head_line.ensures) c.put-head.ensures _ (ap told c.in-Ok.is), search rules)

pub returns-in-Ok-clause-writes : goal.returns-in-Ok-clause-writes
returns-in-Ok-clause-writes c =
    rows_follow c.args.file.now c.check_listed-checked.ensures (c.text.ensures.text ∙ c.head_line.ensures) c.put-head.ensures c.put_rows.ensures

pub returns-in-Err-clause-writes : goal.returns-in-Err-clause-writes
returns-in-Err-clause-writes c =
    nothing_follows c.args.file.now c.check_listed-checked.ensures (c.text.ensures.text ∙ c.head_line.ensures) c.put-head.ensures _ _ (ap told c.in-Err.is)
