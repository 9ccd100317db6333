-- `bundle_columns::writing::put_rows` meets its contract: so many rows are laid.
use Rattle.base_lent.proofs.Laws.PieceLaws.{pieced_length}
use Rattle.bundle_columns.specs.Record.{columns_in}
use Rattle.bundle_columns.proofs.Laws.Turning.{rows_none, rows_next, rows_all}
use Rattle.bundle_columns.proofs.writing.put_rows.Goals as goal

pub loop-i-init : goal.loop-i-init
loop-i-init c =
    rows_none (columns_in c.args.columns.now) c.args.count c.args.out.now c.requires.2

pub loop-i-preserved : goal.loop-i-preserved
loop-i-preserved c =
    rows_next (columns_in c.args.columns.now) c.args.count c.args.out.now c.loop-i.invariant
    c.loop-i-test.true
    c.kept_row-row.ensures c.row_bytes-bytes.ensures c.lay_each.ensures

pub shape_of-out : goal.shape_of-out
shape_of-out c = pieced_length c.loop-i.invariant

pub returns : goal.returns
returns c =
    rows_all (columns_in c.args.columns.now) c.args.count c.args.out.now c.loop-i.invariant c.loop-i-test.false
