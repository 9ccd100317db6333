-- `run_picture::page::scale_for` meets its contract.
use borrow.Author.Tests.{le-ltb, lt-ltb}
use native.Mathlib.Omega.{arith}
use Rattle.run_picture.proofs.page.scale_for.Goals as goal

pub returns-then-end-lt600000 : goal.returns-then-end-lt600000
returns-then-end-lt600000 c = (
  simp (lt-ltb _ _ c.if-end-lt600000.true),
  omega arith,
  omega arith,
)

pub returns-then-end-lt1500000 : goal.returns-then-end-lt1500000
returns-then-end-lt1500000 c = (
  simp (le-ltb _ _ c.if-end-lt600000.false, lt-ltb _ _ c.if-end-lt1500000.true),
  omega arith,
  omega arith,
)

pub returns-then-end-lt3000000 : goal.returns-then-end-lt3000000
returns-then-end-lt3000000 c = (
  simp (le-ltb _ _ c.if-end-lt600000.false, le-ltb _ _ c.if-end-lt1500000.false, lt-ltb _ _ c.if-end-lt3000000.true),
  omega arith,
  omega arith,
)

pub returns : goal.returns
returns c = (
  simp (le-ltb _ _ c.if-end-lt600000.false, le-ltb _ _ c.if-end-lt1500000.false, le-ltb _ _ c.if-end-lt3000000.false),
  omega arith,
  omega arith,
)
