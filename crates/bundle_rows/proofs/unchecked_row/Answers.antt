-- `bundle_rows::unchecked_row` meets its contract: each way out by the tests that led there.
use native.Mathlib.Omega.{arith}
use borrow.Author.Tests.{ltb-false, leb-false}
use Rattle.bundle_rows.specs.Rows.{unchecked_row}
use borrow.Author.Tests.{le-leb, le-ltb, lt-leb, lt-ltb}
use Rattle.bundle_rows.proofs.unchecked_row.Goals as goal

pub returns-then-past : goal.returns-then-past
unfolding unchecked_row
returns-then-past c = rw (le-leb _ _ c.if-past.true) c.blank_row.ensures

pub overflow_add-cut : goal.overflow_add-cut
overflow_add-cut c = omega (arith, leb-false)

pub overflow_mul-cut : goal.overflow_mul-cut
overflow_mul-cut c = omega (arith, leb-false)

pub overflow_add-cut-2 : goal.overflow_add-cut-2
overflow_add-cut-2 c = omega (arith, leb-false)

pub returns-then-cut : goal.returns-then-cut
unfolding unchecked_row
returns-then-cut c = rw ((lt-leb _ _ c.if-past.false), (lt-ltb _ _ c.if-cut.true)) c.blank_row-then-cut.ensures

pub overflow_mul-i : goal.overflow_mul-i
overflow_mul-i c = omega (arith, leb-false)

pub overflow_add-i : goal.overflow_add-i
overflow_add-i c = omega (arith, leb-false)

pub row_of-requires : goal.row_of-requires
row_of-requires c = omega (arith, ltb-false)

pub returns : goal.returns
unfolding unchecked_row
returns c = rw ((lt-leb _ _ c.if-past.false), (le-ltb _ _ c.if-cut.false)) c.row_of.ensures
