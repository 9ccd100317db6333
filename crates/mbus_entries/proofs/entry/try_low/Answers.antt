-- `mbus_entries::entry::try_low` meets its contract: the pair and the width, then the value.
use native.Mathlib.Omega.{arith}
use Rattle.std.proofs.Common.{rules}
use Rattle.mbus_entries.proofs.Laws.TryLaws.{Told, told_narrow, told_unfit, told_long, told_refused, told_taken}
use Rattle.mbus_entries.proofs.entry.try_low.Goals.{After-goes_with}
use Rattle.mbus_entries.proofs.entry.try_low.Goals as goal

-- what was read of the entry
told : (c : After-goes_with) → Told c.args.rest.now c.args.quantity c.width_of-width.result c.goes_with.result
told c =
    record {
      led = c.requires.0;
      below = c.requires.1;
      width = c.width_of-width.ensures;
      pair = c.goes_with.ensures;
    }

pub overflow_add-width : goal.overflow_add-width
overflow_add-width c = omega (arith, told_narrow (told (goal.at.overflow_add-width c).After-goes_with))

pub returns-then-goes_with-rest : goal.returns-then-goes_with-rest
returns-then-goes_with-rest c = told_unfit (told (goal.at.returns-then-goes_with-rest c).After-goes_with) c.if-goes_with-rest.true

pub low_value-requires : goal.low_value-requires
low_value-requires c = told_long (told (goal.at.low_value-requires c).After-goes_with) c.if-goes_with-rest.false

pub returns-in_err-value : goal.returns-in_err-value
returns-in_err-value c =
    let e = told_refused (told (goal.at.returns-in_err-value c).After-goes_with) c.if-goes_with-rest.false c.low_value.ensures c.in_err-value.was in
    search rules

pub returns : goal.returns
returns c =
    rw c.taken_with.ensures
    (told_taken (told (goal.at.returns c).After-goes_with) c.if-goes_with-rest.false c.low_value.ensures c.in_ok-value.was)
