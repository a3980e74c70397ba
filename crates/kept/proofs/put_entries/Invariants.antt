-- `kept::put_entries` meets its contract: the bytes of the first i entries stand in front, and behind them what was there.
use Rattle.std.proofs.Common.{◌≡◌, ◌*◌, ◌++◌, take, drop}
use Rattle.house_record.specs.Record.{entry_bytes}
use Rattle.kept.proofs.put_entries.Given as goal

abbrev pub invariant-loop-i : goal.invariant-loop-i
invariant-loop-i l = l.out ≡ entry_bytes (take l.i l.list) ++ drop (4 * l.i) l.initial.out
