-- `bundle_adding::opening::open_bodies` meets its contract: what the two steps leave, one upon the other.
use Rattle.bundle_adding.proofs.Laws.Opening.{bodies_opened_lem}
use Rattle.bundle_adding.proofs.opening.open_bodies.Goals as goal

pub returns : goal.returns
returns c =
    let a = c.args in
    rw (c.move_bodies.ensures, c.move_up.ensures)
    (bodies_opened_lem a.from a.at a.to a.body.now a.buffer.now c.requires.0 c.requires.1 c.requires.2)
