-- `trace::behind` meets its contract: the row is found, the window lies in it, and the column in the window.
use Rattle.std.proofs.Common.{arith, ℕ, ◌+◌, ◌<◌, Bool, true, false, length, get_or, sym, ap, ap₂, ◌∙◌, ◌&&◌}
use Rattle.std.proofs.lemmas.Result.{err_from_is_err_and}
use lib.Dec.{ltb}
use borrow.Author.Tests.{lt-ltb, le-ltb}
use Rattle.answer.specs.Outcome.{answer}
use Rattle.dots.specs.Dot.{is_dot}
use Rattle.trace.specs.declared.Dot.{Dot}
use Rattle.trace.proofs.OneDot.{dot_of_row, dot_refused, byte_inside}
use Rattle.trace.proofs.behind.Goals as goal
use Rattle.trace.proofs.behind.Goals.{Else-window-x, then-not-fits-via-then-not-fits, then-not-fits-via-else-not-fits+then-window-x}

abbrev dot : (place byte tone : ℕ) → Bool → Dot
dot place byte tone set = record { place = place; byte = byte; tone = tone; set = set }

pub returns-in_err-row : goal.returns-in_err-row
returns-in_err-row c =
    let a = c.args in
    let p = err_from_is_err_and c.from_residual.result c.from_residual.ensures.1 in
    rw (p.1, p.2) (sym (dot_refused a.kind a.file.now a.first a.window.first a.window.count a.x a.y _ _ (sym c.in_err-row.ensures)))

pub returns-then-not-fits : goal.returns-then-not-fits
returns-then-not-fits c =
    let a = c.args in
    let row = c.in_ok-row.row in
    let found = sym c.in_ok-row.ensures in
    elim c.then-not-fits.branch [
      | then-not-fits-via-then-not-fits w ↦
          sym (dot_of_row a.kind a.file.now a.first a.window.first a.window.count a.x a.y row found false
          (ap (λ (t : Bool). t && ltb a.x a.window.count) (sym w.if-not-fits.ensures)))
      | then-not-fits-via-else-not-fits+then-window-x w ↦
          sym (dot_of_row a.kind a.file.now a.first a.window.first a.window.count a.x a.y row found false
          (ap₂ ◌&&◌ (sym w.if-not-fits.ensures) (le-ltb a.x a.window.count w.if-window-x.true)))
    ]

-- the byte lies in the file
inside : (c : Else-window-x) → c.in_ok-row.row.part.place + c.args.window.first + c.args.x < length c.args.file.now
inside c =
    let a = c.args in
    byte_inside a.kind a.file.now a.first a.window.first a.window.count a.x a.y c.in_ok-row.row (sym c.in_ok-row.ensures) (sym c.if-not-fits.ensures) c.if-window-x.false

pub overflow_add-place : goal.overflow_add-place
overflow_add-place c = omega (arith, inside (goal.at.overflow_add-place c).Else-window-x)

pub overflow_add-place-2 : goal.overflow_add-place-2
overflow_add-place-2 c = omega (arith, inside (goal.at.overflow_add-place-2 c).Else-window-x)

pub bounds-file-place : goal.bounds-file-place
bounds-file-place c = inside (goal.at.bounds-file-place c).Else-window-x

pub returns : goal.returns
returns c =
    let a = c.args in
    let row = c.in_ok-row.row in
    let place = row.part.place + a.window.first + a.x in
    let byte = get_or a.file.now place 0 in
    ap (λ (s : Bool). answer (dot place byte c.tone-tone.result s)) c.is_dot-set.ensures
    ∙ ap (λ (t : ℕ). answer (dot place byte t (is_dot t a.x a.y))) c.tone-tone.ensures
    ∙ sym (dot_of_row a.kind a.file.now a.first a.window.first a.window.count a.x a.y row (sym c.in_ok-row.ensures) true
    (ap₂ ◌&&◌ (sym c.if-not-fits.ensures) (lt-ltb a.x a.window.count c.if-window-x.false)))
