-- `mbus_writing::bytes::put_bytes` meets its contract, kind by kind.
use Rattle.mbus_writing.proofs.Laws.Laying.{data_fits, kind_laid, ack_laid}
use Rattle.mbus_writing.proofs.bytes.put_bytes.Goals as goal

pub put_data-requires : goal.put_data-requires
put_data-requires c =
    data_fits c.args.t c.in-Data.is
    c.requires.0 c.requires.1

pub returns-in-Ack : goal.returns-in-Ack
returns-in-Ack c =
    kind_laid c.args.t
    c.in-Ack.is (ack_laid c.args.bytes.now c.requires.1 c.lay.ensures)

pub returns-in-Read : goal.returns-in-Read
returns-in-Read c =
    kind_laid c.args.t c.in-Read.is
    c.put_read.ensures

pub returns-in-Enter : goal.returns-in-Enter
returns-in-Enter c =
    kind_laid c.args.t c.in-Enter.is
    c.put_command.ensures

pub returns-in-Leave : goal.returns-in-Leave
returns-in-Leave c =
    kind_laid c.args.t c.in-Leave.is
    c.put_command-in-Leave.ensures

pub returns-in-Data : goal.returns-in-Data
returns-in-Data c =
    kind_laid c.args.t c.in-Data.is
    c.put_data.ensures
