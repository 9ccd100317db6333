-- `host_bundle::skarrowith_bundle_row` meets its contract: what the bundle's row gives.
use Rattle.host_bundle.proofs.Laws.Rows.{found_row}
use Rattle.host_bundle.proofs.skarrowith_bundle_row.Goals as goal

pub returns : goal.returns
returns c =
    rw (c.row.ensures, found_row) at c.put_row.ensures
