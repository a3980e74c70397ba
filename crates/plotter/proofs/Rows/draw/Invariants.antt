-- `plotter::Rows::draw` meets its contract: the invariant is `Drawing`.
use Rattle.plotter.proofs.Drawing.{Drawing}
use Rattle.plotter.proofs.Rows.draw.Given as goal

abbrev pub invariant-loop-y : goal.invariant-loop-y
invariant-loop-y l = Drawing l.self.kind l.self.file.now l.self.first l.self.count l.self.window.first l.self.window.count l.initial.out l.out l.from l.y
