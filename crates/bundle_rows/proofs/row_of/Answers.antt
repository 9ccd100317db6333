-- `bundle_rows::row_of` meets its contract, field by field.
use Rattle.bundle_rows.proofs.Laws.RowLaws.{row_read}
use Rattle.bundle_rows.proofs.row_of.Goals as goal

pub returns : goal.returns
returns c =
    let a = c.args in
    rw (c.number_at-time.ensures.so, c.number_at-offset.ensures.so, c.number_at-length.ensures.so)
    (row_read a.s.now a.at)
