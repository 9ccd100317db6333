-- `bundle_columns::count_in` meets its contract: each way out by the test that led there.
use Rattle.bundle_columns.proofs.Laws.Looking.{count_kept_lem}
use Rattle.bundle_columns.proofs.count_in.Goals as goal

pub returns-then-columns-count : goal.returns-then-columns-count
returns-then-columns-count c = rw (count_kept_lem, ← c.number_at-count.ensures.so, c.if-columns-count.true)

pub returns : goal.returns
returns c = rw (count_kept_lem, ← c.number_at-count.ensures.so, c.if-columns-count.false)
