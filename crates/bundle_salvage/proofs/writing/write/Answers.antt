-- `bundle_salvage::writing::write` meets its contract: the three parts stand one behind the other.
use native.Mathlib.Omega.{arith}
use Rattle.bundle_salvage.proofs.Laws.NewBundle.{end_there, steps_leave}
use Rattle.bundle_salvage.proofs.writing.write.Goals as goal

pub slice_bounds-lay_each-count : goal.slice_bounds-lay_each-count
slice_bounds-lay_each-count c =
    let t = end_there c.args.damaged.now c.args.kept c.args.count c.requires.0 in
    omega (arith, c.requires.2, t.0)

pub slice_bounds-lay_each-start : goal.slice_bounds-lay_each-start
slice_bounds-lay_each-start c =
    let t = end_there c.args.damaged.now c.args.kept c.args.count c.requires.0 in
    omega (arith, c.requires.2, t.0)

pub slice_bounds-lay_each-end : goal.slice_bounds-lay_each-end
slice_bounds-lay_each-end c =
    let t = end_there c.args.damaged.now c.args.kept c.args.count c.requires.0 in
    omega (arith, c.requires.2, t.1)

pub returns : goal.returns
returns c =
    let a = c.args in
    steps_leave a.damaged.now a.kept a.count c.requires.0 c.requires.1 a.out.now a.end c.requires.2
    (omega (arith, c.requires.2, c.requires.3)) c.put_number.ensures c.put_rows.ensures c.lay_each.ensures
