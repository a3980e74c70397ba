-- `plotter::Rows::strip` meets its contract: by the judgement of its rows and by the room there is.
use Rattle.std.proofs.Common.{arith, ℕ, ◌≡◌, ◌≤◌, ◌*◌, length, sym, ap, ◌∙◌}
use borrow.Author.Tests.{le-leb, lt-leb}
use Rattle.std.proofs.lemmas.Result.{err_from_is_err_and}
use Rattle.answer.specs.Outcome.{answer}
use Rattle.dot_lines.specs.Line.{line_bytes}
use Rattle.answer.proofs.Writers.{refused_writes_nothing}
use Rattle.reader.specs.Rows.{row_of}
use Rattle.plotter.proofs.Drawing.{rows_inside}
use Rattle.plotter.proofs.Drawn.{windows_refused, windows_there, too_small, drawn_amount}
use Rattle.plotter.proofs.Rows.strip.Goals as goal
use Rattle.plotter.proofs.Rows.strip.Goals.{In-Some}

pub returns-in_err-judge : goal.returns-in_err-judge
returns-in_err-judge c =
    let r = c.args.self.now in
    let p = err_from_is_err_and c.from_residual.result c.from_residual.ensures.1 in
    rw (p.1, p.2)
    (refused_writes_nothing c.args.out.now
    (windows_refused (row_of r.kind r.file.now) r.file.now (rows_inside r.kind r.file.now) r.window.first r.window.count _ r.first r.count 0 _ _ (sym c.in_err-judge.ensures)))

-- the lines' bytes, where they are a number of 64 bits
bytes_are : (c : In-Some) → c.in-Some.drawn ≡ c.args.self.now.count * line_bytes c.args.self.now.window.count
bytes_are c = c.in-Some.ensures.1 ∙ ap (λ (w : ℕ). c.args.self.now.count * w) c.line_bytes-bytes.ensures

pub returns-in-Some : goal.returns-in-Some
returns-in-Some c =
    let r = c.args.self.now in
    let out = c.args.out.now in
    let is = bytes_are (goal.at.returns-in-Some c).In-Some in
    let (windows, all) = windows_there (row_of r.kind r.file.now) r.file.now (rows_inside r.kind r.file.now) r.window.first r.window.count (length out) r.first r.count 0 (sym c.in_ok-judge.ensures) in
    record {
      answers =
          ap answer is
          ∙ sym (drawn_amount (row_of r.kind r.file.now) r.file.now (rows_inside r.kind r.file.now) r.window.first r.window.count (length out) r.first r.count 0 windows all
          (le-leb (r.count * line_bytes r.window.count) (length out) (omega (arith, is, c.if-drawn-out.true))));
      leaves = c.draw.ensures;
    }

pub returns-in_default : goal.returns-in_default
returns-in_default c =
    let r = c.args.self.now in
    let out = c.args.out.now in
    let (windows, all) = windows_there (row_of r.kind r.file.now) r.file.now (rows_inside r.kind r.file.now) r.window.first r.window.count (length out) r.first r.count 0 (sym c.in_ok-judge.ensures) in
    refused_writes_nothing out
    (too_small (row_of r.kind r.file.now) r.file.now (rows_inside r.kind r.file.now) r.window.first r.window.count (length out) r.first r.count 0 windows all
    (lt-leb (r.count * line_bytes r.window.count) (length out) (omega (arith, bytes_are (goal.at.returns-in_default c).In-Some, c.if-drawn-out.false))))

pub returns-in_default-2 : goal.returns-in_default-2
returns-in_default-2 c =
    let r = c.args.self.now in
    let out = c.args.out.now in
    let (windows, all) = windows_there (row_of r.kind r.file.now) r.file.now (rows_inside r.kind r.file.now) r.window.first r.window.count (length out) r.first r.count 0 (sym c.in_ok-judge.ensures) in
    let wide = ap (λ (w : ℕ). r.count * w) c.line_bytes-bytes.ensures in
    let large : 18446744073709551616 ≤ r.count * c.line_bytes-bytes.result = omega (arith, c.in_default.ensures) in
    refused_writes_nothing out
    (too_small (row_of r.kind r.file.now) r.file.now (rows_inside r.kind r.file.now) r.window.first r.window.count (length out) r.first r.count 0 windows all
    (lt-leb (r.count * line_bytes r.window.count) (length out) (omega (arith, wide, large))))
