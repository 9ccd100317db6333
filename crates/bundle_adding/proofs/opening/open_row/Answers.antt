-- `bundle_adding::opening::open_row` meets its contract: what the two steps leave, one upon the other.
use Rattle.bundle_adding.proofs.Laws.Opening.{row_opened_lem}
use Rattle.bundle_adding.proofs.opening.open_row.Goals as goal

pub returns : goal.returns
returns c =
    let a = c.args in
    rw (c.lay.ensures, c.row_bytes.ensures, c.move_up.ensures)
    (row_opened_lem a.count a.place a.row a.buffer.now c.requires.1 c.requires.2)
