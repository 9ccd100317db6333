-- `host_verdicts::found` meets its contract: refused, no such row, or its verdict.
use native.Mathlib.Omega.{arith}
use borrow.Author.Tests.{leb-false, le-leb, lt-leb}
use Rattle.host_verdicts.proofs.Laws.Told.{full_of, found_refused, found_none, found_one}
use Rattle.host_verdicts.proofs.found.Goals as goal

pub returns-then-none : goal.returns-then-none
returns-then-none c = found_none (full_of c.in-Ok.is c.requires) c.in-Ok.is c.args.i (le-leb _ _ c.if-none.true)

pub offset_bounds-verdicts-i : goal.offset_bounds-verdicts-i
offset_bounds-verdicts-i c =
    let full = full_of c.in-Ok.is c.requires in
    omega (arith, full.few, leb-false c.in-Ok.all.count c.args.i (lt-leb _ _ c.if-none.false))

pub bounds-verdicts-i : goal.bounds-verdicts-i
bounds-verdicts-i c =
    let full = full_of c.in-Ok.is c.requires in
    omega (arith, full.few, leb-false c.in-Ok.all.count c.args.i (lt-leb _ _ c.if-none.false))

pub returns-else-none : goal.returns-else-none
returns-else-none c = found_one (full_of c.in-Ok.is c.requires) c.in-Ok.is c.args.i _ (lt-leb _ _ c.if-none.false)

pub returns-in-Err : goal.returns-in-Err
returns-in-Err c = found_refused c.args.i c.in-Err.is
