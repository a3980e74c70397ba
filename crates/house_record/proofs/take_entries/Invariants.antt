-- `house_record::take_entries` meets its contract: in front of `i` stand the entries, from there on what the list held.
use Rattle.std.proofs.Common.{length}
use Rattle.answer.proofs.Writers.{Putting}
use Rattle.house_record.specs.Record.{entries_of}
use Rattle.house_record.proofs.take_entries.Given as goal

abbrev pub invariant-loop-i : goal.invariant-loop-i
invariant-loop-i l =
    Putting (entries_of (length l.initial.list) l.bytes) l.initial.list l.list (length l.initial.list) l.i
