-- `bundle_adding::growing::grow_contents` meets its contract: what the three steps leave, one upon the other.
use Rattle.bundle_adding.proofs.Laws.Writing.{contents_grown_lem}
use Rattle.bundle_adding.proofs.growing.grow_contents.Goals as goal

pub returns : goal.returns
returns c =
    rw (c.put_number.ensures, c.lay.ensures, c.row_bytes.ensures, c.place_rows.ensures)
    (contents_grown_lem c.args.count c.args.row c.args.buffer.now c.requires.1)
