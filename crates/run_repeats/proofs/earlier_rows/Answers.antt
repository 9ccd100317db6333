-- `run_repeats::earlier_rows` meets its contract: each way out by what the check answered.
use borrow.Author.Tests.{le-ltb, lt-ltb}
use Rattle.std.proofs.Common.{rules}
use Rattle.run_counting.proofs.Laws.Answering.{check_reads}
use Rattle.run_repeats.specs.Repeats.{earlier_into}
use Rattle.run_repeats.proofs.Laws.Answering.{earlier_short, earlier_told}
use Rattle.run_repeats.proofs.earlier_rows.Goals as goal

pub returns-in_err-count : goal.returns-in_err-count
unfolding earlier_into
returns-in_err-count c = search rules

pub returns-then-rows-count : goal.returns-then-rows-count
returns-then-rows-count c =
    let a = c.args in
    earlier_short a.bundle.now a.rows.now (check_reads a.bundle.now c.check.ensures c.in_ok-count.was) (lt-ltb _ _ c.if-rows-count.true)

pub returns : goal.returns
returns c =
    let a = c.args in
    let e = check_reads a.bundle.now c.check.ensures c.in_ok-count.was in
    earlier_told a.bundle.now a.rows.now e (le-ltb _ _ c.if-rows-count.false) c.put_earlier.ensures
