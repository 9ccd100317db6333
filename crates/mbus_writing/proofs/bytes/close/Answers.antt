-- `mbus_writing::bytes::close` meets its contract: the part that is summed is the frame from the place on.
use Rattle.mbus_writing.proofs.Laws.Laying.{frame_closed}
use Rattle.mbus_writing.proofs.bytes.close.Goals as goal

pub returns : goal.returns
returns c =
    frame_closed c.requires
    c.sum_of-sum.ensures c.lay.ensures
