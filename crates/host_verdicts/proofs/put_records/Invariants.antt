-- `host_verdicts::put_records` meets its contract: so many records are laid.
use Rattle.base_lent.proofs.Laws.PieceLaws.{Pieced}
use Rattle.host_verdicts.specs.Records.{verdict_record}
use Rattle.host_verdicts.proofs.put_records.Given as goal

abbrev pub invariant-loop-i : goal.invariant-loop-i
invariant-loop-i l = Pieced verdict_record 4 l.initial.out 0 l.verdicts l.i l.out
