-- `host_search::put_spot` meets its contract.
use mathlib.Core.Path.{refl}
use Rattle.host_search.proofs.Laws.Finding.{spot_copied}
use Rattle.host_search.proofs.put_spot.Goals as goal

pub returns : goal.returns
returns c =
    let args = c.args in
    (refl, spot_copied args.found.now args.spot.place args.spot.length c.put_record.ensures)
