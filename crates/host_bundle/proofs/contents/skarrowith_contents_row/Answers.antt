-- `host_bundle::contents::skarrowith_contents_row` meets its contract: 101 where the lists are none, and else the row.
use Rattle.base_lent.specs.Lent.{done}
use Rattle.base_lent.proofs.Laws.LentLaws.{leaves_all}
use mathlib.Core.Path.{refl}
use Rattle.bundle_columns.proofs.Laws.Looking.{taken, not_taken}
use Rattle.host_bundle.specs.Rows.{row_record}
use Rattle.host_bundle.proofs.Laws.Rows.{found_row}
use Rattle.host_bundle.proofs.contents.skarrowith_contents_row.Goals as goal

pub returns-in-Ok : goal.returns-in-Ok
returns-in-Ok c =
    let a = c.args in
    rw (taken a.contents.now c.count_in.ensures c.in-Ok.is).from
    (rw (c.row.ensures, found_row) at c.put_row.ensures)

pub returns-in-Err : goal.returns-in-Err
returns-in-Err c =
    let a = c.args in
    rw (not_taken a.contents.now c.count_in.ensures c.in-Err.is, c.told.ensures) (leaves_all row_record a.out.now done refl)
