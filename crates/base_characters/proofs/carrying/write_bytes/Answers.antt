-- `base_characters::carrying::write_bytes` meets its contract.
use Rattle.base_characters.proofs.Laws.Carrying.{bytes_short, bytes_written}
use Rattle.base_characters.proofs.carrying.write_bytes.Goals as goal

pub returns-then-out-bytes : goal.returns-then-out-bytes
returns-then-out-bytes c =
    let a = c.args in
    bytes_short a.bytes.now a.out.now c.if-out-bytes.true

pub returns : goal.returns
returns c =
    let a = c.args in
    bytes_written a.bytes.now a.out.now c.if-out-bytes.false c.carry.ensures
