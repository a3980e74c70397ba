-- `dot_lines::put_line` meets its contract: after j turns the first j bytes of the line are put.
use Rattle.std.proofs.Common.{length}
use Rattle.answer.proofs.Writers.{Putting}
use Rattle.dot_lines.specs.Line.{line_bytes, line}
use Rattle.dot_lines.proofs.put_line.Given as goal

abbrev pub invariant-loop-j : goal.invariant-loop-j
invariant-loop-j l = Putting (line l.y l.samples) l.initial.out l.out (line_bytes (length l.samples)) l.j
