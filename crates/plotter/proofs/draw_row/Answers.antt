-- `plotter::draw_row` meets its contract: the line is drawn in the part that is lent from its place on.
use Rattle.std.proofs.Common.{ℕ, List, length, take, ◌∙◌, ap, ap₂, ◌++◌}
use Rattle.answer.specs.Filled.{filled}
use Rattle.answer.specs.Window.{bytes_at}
use Rattle.answer.proofs.Parts.{all_that_is_left}
use Rattle.answer.proofs.Writers.{put_behind}
use Rattle.dot_lines.specs.Line.{line_into}
use Rattle.plotter.proofs.Drawing.{line_beyond}
use Rattle.plotter.proofs.draw_row.Goals as goal

pub returns-then-at-out : goal.returns-then-at-out
returns-then-at-out c =
    let a = c.args in
    let out = a.out.now in
    put_behind a.at out c.draw_line.new.out
    ∙ ap (λ (l : List ℕ). take a.at out ++ l)
    (c.draw_line.ensures.leaves ∙ ap₂ (λ (rest s : List ℕ). filled (line_into (length rest) a.y s) rest) (all_that_is_left out a.at) c.bytes_of-samples.ensures)

pub returns-else-at-out : goal.returns-else-at-out
returns-else-at-out c =
    let a = c.args in
    line_beyond a.out.now (bytes_at a.file.now a.part.place a.part.count) a.at a.y c.if-at-out.false
