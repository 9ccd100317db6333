-- `mbus_writing::bytes::put_data` meets its contract: the entries, the start before them, then the end.
use borrow.Author.Rules.{rules}
use native.Mathlib.Omega.{arith}
use Rattle.mbus_writing.proofs.Laws.Laying.{entries_fit, entries_end, data_laid}
use Rattle.mbus_writing.proofs.bytes.put_data.Goals as goal

pub put_entries-end-requires : goal.put_entries-end-requires
put_entries-end-requires c =
    entries_fit c.requires

pub overflow_cast-end : goal.overflow_cast-end
overflow_cast-end c =
    let e = entries_end c.requires c.put_entries-end.ensures
    in omega arith

pub close-requires : goal.close-requires
close-requires c =
    let e = entries_end c.requires c.put_entries-end.ensures in (omega arith, omega arith, search rules)

pub returns : goal.returns
returns c =
    data_laid c.requires c.put_entries-end.ensures
    c.head_bytes.ensures
    c.lay.ensures
    c.close.ensures
