-- `bundle_sweep::sweep_rows` meets its contract: the rows, the bodies, the count.
use Rattle.bundle_sweep.proofs.Laws.NewBundle.{drawn_in_order, placed-length, steps_leave}
use Rattle.bundle_sweep.proofs.sweep_rows.Goals as goal

pub place_bodies-end-requires : goal.place_bodies-end-requires
place_bodies-end-requires c =
    drawn_in_order c.args.position c.args.bundle.now c.args.count c.requires c.draw_rows-kept.ensures

pub returns : goal.returns
returns c =
    let a = c.args in
    let d = c.draw_rows-kept.ensures in
    let p = c.place_bodies-end.ensures in (
      placed-length a.position a.bundle.now a.count c.requires d p,
      steps_leave a.position a.bundle.now a.count c.requires d p c.put_number.ensures,
    )
