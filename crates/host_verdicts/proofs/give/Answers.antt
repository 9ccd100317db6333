-- `host_verdicts::give` meets its contract: refused, too little room, or all of it.
use native.Mathlib.Omega.{arith}
use borrow.Author.Tests.{ltb-false, le-ltb, lt-ltb}
use Rattle.host_verdicts.proofs.Laws.Told.{full_of, length_among, given_refused, given_short, given_all}
use Rattle.host_verdicts.proofs.give.Goals as goal

pub overflow_mul-short : goal.overflow_mul-short
overflow_mul-short c = let full = full_of c.in-Ok.is c.requires in omega (arith, full.few)

pub returns-then-short : goal.returns-then-short
returns-then-short c =
    rw c.told.ensures
    (given_short (full_of c.in-Ok.is c.requires) c.in-Ok.is c.args.out.now c.args.count.now (lt-ltb _ _ c.if-short.true))

pub put_records-requires : goal.put_records-requires
put_records-requires c =
    let full = full_of c.in-Ok.is c.requires in
    omega (arith, length_among c.in-Ok.all.verdicts full.whole full.few, ltb-false _ _ (le-ltb _ _ c.if-short.false))

pub returns-else-short : goal.returns-else-short
returns-else-short c =
    given_all (full_of c.in-Ok.is c.requires) c.in-Ok.is c.args.out.now c.args.count.now (le-ltb _ _ c.if-short.false)
    c.put_records.ensures

pub returns-in-Err : goal.returns-in-Err
returns-in-Err c = rw c.told-in-Err.ensures (given_refused _ c.args.out.now c.args.count.now c.in-Err.is)
