-- `bundle_columns::kept_row` meets its contract: field by field.
use Rattle.bundle_columns.proofs.Laws.Numbers.{kept_read}
use Rattle.bundle_columns.proofs.kept_row.Goals as goal

pub returns : goal.returns
returns c =
    rw (c.number_at-time.ensures.so, c.number_at-offset.ensures.so, c.number_at-length.ensures.so)
    (kept_read c.args.columns.now c.args.i c.requires.1)
