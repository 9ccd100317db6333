-- `bundle_columns::writing::contents_of` meets its contract: each way out by the law of that answer.
use native.Mathlib.Omega.{arith}
use borrow.Author.Tests.{le-ltb}
use Rattle.bundle_columns.proofs.Laws.Looking.{Taken, taken}
use Rattle.bundle_columns.proofs.Laws.Turning.{wrote}
use Rattle.bundle_columns.proofs.writing.contents_of.Goals.{In_ok-count}
use Rattle.bundle_columns.proofs.writing.contents_of.Goals as goal

-- the count as it was read
counted : (c : In_ok-count) → Taken c.args.columns.now c.in_ok-count.count
counted c = taken c.args.columns.now c.count_in.ensures c.in_ok-count.was

pub overflow_mul-count : goal.overflow_mul-count
overflow_mul-count c = omega (arith, (counted (goal.at.overflow_mul-count c).In_ok-count).few)

pub overflow_add-count : goal.overflow_add-count
overflow_add-count c = omega (arith, (counted (goal.at.overflow_add-count c).In_ok-count).few)

pub put_rows-requires : goal.put_rows-requires
put_rows-requires c =
    let t = counted (goal.at.put_rows-requires c).In_ok-count in
    (t.size, t.few, omega (arith, c.if-out-count.false, c.put_number.auto.out))

pub returns : goal.returns
returns c =
    let a = c.args in
    wrote a.columns.now a.out.now c.in_ok-count.count (counted (goal.at.returns c).In_ok-count) (le-ltb _ _ c.if-out-count.false) c.put_number.ensures
    c.put_rows.ensures
