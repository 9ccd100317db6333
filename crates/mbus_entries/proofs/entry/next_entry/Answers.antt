-- `mbus_entries::entry::next_entry` meets its contract: what 11 to 13 said, then the mark.
use native.Mathlib.Omega.{arith}
use Rattle.mbus_entries.proofs.Laws.TryLaws.{next_few, next_seen, next_passed}
use Rattle.mbus_entries.proofs.entry.next_entry.Goals as goal

pub bounds-marks-taken : goal.bounds-marks-taken
bounds-marks-taken c = omega (arith, next_few c.args.rest.now c.args.marks c.try_entry.ensures c.in_ok-taken.was)

pub returns-then-marks-taken : goal.returns-then-marks-taken
returns-then-marks-taken c = next_seen c.args.rest.now c.args.marks c.try_entry.ensures c.in_ok-taken.was c.if-marks-taken.true

pub returns : goal.returns
returns c = next_passed c.args.rest.now c.args.marks c.try_entry.ensures c.in_ok-taken.was c.if-marks-taken.false
