-- `plotter::strip` meets its contract: by whether it has rows, and where its first row is.
use Rattle.std.proofs.Common.{arith, ℕ, [], length, sym, ap, refl, ◌∙◌}
use Rattle.std.proofs.lemmas.Result.{err_from_is_err_and}
use Rattle.answer.specs.Outcome.{mapped}
use Rattle.answer.proofs.Writers.{refused_writes_nothing, written_to_the_front}
use Rattle.plotter.specs.Strip.{strip_into}
use Rattle.plotter.proofs.Starting.{starts, is_a_start, refused_strip, no_start, no_rows, accepted_strip, written_as}
use Rattle.plotter.proofs.strip.Goals as goal

pub returns-in_err-check : goal.returns-in_err-check
returns-in_err-check c =
    let a = c.args in
    let p = err_from_is_err_and c.from_residual.result c.from_residual.ensures.1 in
    rw (p.1, p.2) (refused_writes_nothing a.out.now (refused_strip a.kind a.file.now (length a.out.now) a.first a.rows a.window.first a.window.count _ _ (sym c.in_err-check.ensures)))

pub returns-then-rows-eq0 : goal.returns-then-rows-eq0
returns-then-rows-eq0 c =
    let a = c.args in
    written_to_the_front a.out.now 0 refl
    (ap (λ (n : ℕ). strip_into (length a.out.now) a.kind a.file.now a.first n a.window.first a.window.count) c.if-rows-eq0.true
    ∙ no_rows a.kind a.file.now (length a.out.now) a.first a.window.first a.window.count
    ∙ ap (mapped (λ rows. [])) (sym c.in_ok-check.ensures))

pub returns-in_err-start : goal.returns-in_err-start
returns-in_err-start c =
    let a = c.args in
    let p = err_from_is_err_and c.from_residual-in_err-start.result c.from_residual-in_err-start.ensures.1 in
    rw (p.1, p.2)
    (refused_writes_nothing a.out.now
    (no_start a.kind a.file.now (length a.out.now) a.first a.rows a.window.first a.window.count (omega (arith, c.if-rows-eq0.false)) _ _ (sym c.in_err-start.ensures)))

pub invariant_of-rows : goal.invariant_of-rows
invariant_of-rows c =
    let a = c.args in
    record { starts = is_a_start a.kind a.file.now a.first c.in_ok-start.start (sym c.in_ok-start.ensures) }

pub returns : goal.returns
returns c =
    let a = c.args in
    let s = starts a.kind a.file.now a.first c.in_ok-start.start (sym c.in_ok-start.ensures) in
    written_as (accepted_strip a.kind a.file.now (length a.out.now) a.first a.rows a.window.first a.window.count s.rows s.accepted) c.strip.ensures
