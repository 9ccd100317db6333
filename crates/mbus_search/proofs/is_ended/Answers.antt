-- `mbus_search::is_ended` meets its contract.
use Rattle.std.proofs.Common.{le-ltb, lt-ltb, le-leb}
use borrow.Author.Tests.{lt-leb}
use lib.ListN.{length-map}
use Rattle.mbus_search.proofs.is_ended.Goals as goal

pub returns-then-rest-length : goal.returns-then-rest-length
returns-then-rest-length c = rw (length-map, lt-leb _ _ c.if-rest-length.true)

pub returns-then-length-lt2 : goal.returns-then-length-lt2
returns-then-length-lt2 c = rw (length-map, le-leb _ _ c.if-rest-length.false, lt-ltb _ _ c.if-length-lt2.true)

pub returns : goal.returns
returns c = rw (length-map, le-leb _ _ c.if-rest-length.false, le-ltb _ _ c.if-length-lt2.false, ← c.low_at-end.ensures)
