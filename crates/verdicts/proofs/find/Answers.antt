-- `verdicts::find` meets its contract: the slice that is searched is the table, and the closure gives a line's number.
use Rattle.std.proofs.Common.{Ok, Err, sym, rules}
use Rattle.std.proofs.lemmas.List.Sorted.{answers_always}
use Rattle.verdicts.proofs.Search.{searched}
use Rattle.verdicts.proofs.find.Goals as goal

pub returns-in-Ok : goal.returns-in-Ok
returns-in-Ok c =
    let by_number = c.in-Ok.ensures.position (λ line. line.number) (answers_always _ _ _ (λ f a r g called. search rules)) in
    let a = c.args in
    rw c.lines-lines.ensures
    (sym ((searched a.table a.number (Ok c.in-Ok.i) (rw c.lines-lines.ensures at c.in-Ok.ensures.bound) (rw c.lines-lines.ensures at by_number)).line _))

pub returns-in-Err : goal.returns-in-Err
returns-in-Err c =
    let by_number = c.in-Err.ensures.position (λ line. line.number) (answers_always _ _ _ (λ f a r g called. search rules)) in
    let a = c.args in
    sym (searched a.table a.number (Err c.in-Err.field-0) (rw c.lines-lines.ensures at c.in-Err.ensures.bound) (rw c.lines-lines.ensures at by_number)).no_line
