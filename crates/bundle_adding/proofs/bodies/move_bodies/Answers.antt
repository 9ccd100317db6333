-- `bundle_adding::bodies::move_bodies` meets its contract.
use Rattle.bundle_adding.proofs.Laws.Writing.{bodies_moved_lem}
use Rattle.bundle_adding.proofs.bodies.move_bodies.Goals as goal

pub returns : goal.returns
returns c =
    let a = c.args in
    rw (c.lay_each.ensures, c.move_up.ensures)
    (bodies_moved_lem a.from a.to a.body.now a.buffer.now c.requires.0 c.requires.1)
