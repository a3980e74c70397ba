-- `plotter::Rows::judge` meets its contract: the invariant is `Judging`.
use Rattle.plotter.proofs.Judging.{Judging}
use Rattle.plotter.proofs.Rows.judge.Given as goal

abbrev pub invariant-loop : goal.invariant-loop
invariant-loop l = Judging l.self.kind l.self.file.now l.self.first l.self.count l.self.window.first l.self.window.count l.fit l.from l.counter
