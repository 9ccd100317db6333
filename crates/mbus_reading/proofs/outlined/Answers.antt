-- `mbus_reading::outlined` meets its contract, kind by kind.
use Rattle.mbus_reading.proofs.outlined.Goals as goal

pub returns-in-Err : goal.returns-in-Err
returns-in-Err c = rw c.in-Err.is

pub returns-in-Ack : goal.returns-in-Ack
returns-in-Ack c = rw (c.in-Ok.is, c.in-Ack.is)

pub returns-in-Read : goal.returns-in-Read
returns-in-Read c = rw (c.in-Ok.is, c.in-Read.is)

pub returns-in-Enter : goal.returns-in-Enter
returns-in-Enter c = rw (c.in-Ok.is, c.in-Enter.is)

pub returns-in-Leave : goal.returns-in-Leave
returns-in-Leave c = rw (c.in-Ok.is, c.in-Leave.is)

pub returns-in-Data : goal.returns-in-Data
returns-in-Data c = rw (c.in-Ok.is, c.in-Data.is)
