-- `joined::put_further` meets its contract: the invariant is `Putting`.
use Rattle.std.proofs.Common.{length}
use Rattle.joined.specs.Private.{further}
use Rattle.answer.proofs.Writers.{Putting}
use Rattle.joined.proofs.put_further.Given as goal

abbrev pub invariant-loop-i : goal.invariant-loop-i
invariant-loop-i l = Putting (further l.versions l.base l.file l.passed) l.initial.list l.list (length l.initial.list) l.i
