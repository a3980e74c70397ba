-- `plotter::Rows::judge` meets its contract: the invariant is `Judging`.
use Rattle.std.proofs.Common.{arith, ◌+◌, ◌∙◌, sym, ap, Bool}
use Rattle.std.proofs.lemmas.Result.{err_from_is_err_and}
use Rattle.answer.specs.Outcome.{answer, need}
use Rattle.plotter.proofs.Going.{NextRow, next_row, next_refused}
use Rattle.plotter.proofs.Starting.{known_start}
use Rattle.plotter.proofs.Judging.{nothing_judged, one_judged, one_refused, all_judged}
use Rattle.plotter.proofs.Rows.judge.Goals as goal
use Rattle.plotter.proofs.Rows.judge.Goals.{In_ok-row}

-- the row that going on came to
came : (c : In_ok-row) → NextRow c.args.self.now.kind c.args.self.now.file.now (c.args.self.now.first + c.loop.counter) c.in_ok-row.row
came c =
    let r = c.args.self.now in
    next_row r.kind r.file.now (r.first + c.loop.counter) c.loop.from c.loop.invariant.going.next c.in_ok-row.row (sym c.in_ok-row.ensures)

pub loop-init : goal.loop-init
loop-init c =
    let r = c.args.self.now in
    nothing_judged r.kind r.file.now r.first r.count r.window.first r.window.count r.start (known_start r.kind r.file.now r.first r.start r.starts)

pub returns-in_err-row : goal.returns-in_err-row
returns-in_err-row c =
    let r = c.args.self.now in
    let l = c.loop in
    let p = err_from_is_err_and c.from_residual.result c.from_residual.ensures.1 in
    rw (p.1, p.2)
    (sym (one_refused r.kind r.file.now r.first r.count r.window.first r.window.count l.fit l.from l.counter l.invariant c.loop-test.true _ _
    (next_refused r.kind r.file.now (r.first + l.counter) l.from l.invariant.going.next _ _ (sym c.in_err-row.ensures))))

pub overflow_add-from : goal.overflow_add-from
overflow_add-from c = omega (arith, (came (goal.at.overflow_add-from c).In_ok-row).inside)

pub loop-preserved : goal.loop-preserved
loop-preserved c =
    let r = c.args.self.now in
    let l = c.loop in
    one_judged r.kind r.file.now r.first r.count r.window.first r.window.count l.fit l.from l.counter l.invariant c.loop-test.true c.in_ok-row.row
    (came (goal.at.loop-preserved c).In_ok-row) c.fits-fit.result c.fits-fit.ensures

pub returns-then-not-fit : goal.returns-then-not-fit
returns-then-not-fit c =
    let r = c.args.self.now in
    let l = c.loop in
    sym (all_judged r.kind r.file.now r.first r.count r.window.first r.window.count l.fit l.from l.counter l.invariant c.loop-test.false
    ∙ ap (λ (b : Bool). need b 7 (answer tt)) c.if-not-fit.true)

pub returns : goal.returns
returns c =
    let r = c.args.self.now in
    let l = c.loop in
    sym (all_judged r.kind r.file.now r.first r.count r.window.first r.window.count l.fit l.from l.counter l.invariant c.loop-test.false
    ∙ ap (λ (b : Bool). need b 7 (answer tt)) c.if-not-fit.false)
