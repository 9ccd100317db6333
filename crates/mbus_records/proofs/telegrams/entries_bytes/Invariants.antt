-- `mbus_records::telegrams::entries_bytes` meets its contract: the entries so far lie one behind the other.
use Rattle.base_lent.proofs.Laws.PieceLaws.{Pieced}
use Rattle.mbus_records.specs.Telegrams.{entry_bytes}
use Rattle.mbus_records.proofs.telegrams.entries_bytes.Given as goal

abbrev pub invariant-loop-i : goal.invariant-loop-i
invariant-loop-i l = Pieced entry_bytes 16 l.initial.bytes 0 l.fn.entries l.i l.bytes
