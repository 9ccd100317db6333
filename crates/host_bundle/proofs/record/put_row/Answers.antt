-- `host_bundle::record::put_row` meets its contract: too little room, and the two cases of the row.
use Rattle.host_bundle.proofs.Laws.Rows.{row_short, row_value, row_number}
use borrow.Author.Tests.{le-ltb, lt-ltb}
use Rattle.host_bundle.proofs.record.put_row.Goals as goal

pub returns-then-out-lt-ROW_BYTES : goal.returns-then-out-lt-ROW_BYTES
returns-then-out-lt-ROW_BYTES c = let a = c.args in rw c.told.ensures (row_short a.found a.out.now (lt-ltb _ _ c.if-out-lt-ROW_BYTES.true))

pub returns-in-Ok : goal.returns-in-Ok
returns-in-Ok c =
    let a = c.args in
    row_value a.found a.out.now (le-ltb _ _ c.if-out-lt-ROW_BYTES.false) c.in-Ok.is c.record_of.ensures c.store.ensures.1

pub returns-in-Err : goal.returns-in-Err
returns-in-Err c =
    let a = c.args in
    rw c.told-in-Err.ensures (row_number a.found a.out.now (le-ltb _ _ c.if-out-lt-ROW_BYTES.false) c.in-Err.is)
