-- `host_incoming::skarrowith_line_length` meets its contract, by the three cases of the answer.
use Rattle.host_incoming.proofs.Laws.Calls.{tells}
use Rattle.host_incoming.proofs.skarrowith_line_length.Goals as goal

pub returns-in-Known : goal.returns-in-Known
returns-in-Known c =
    tells c.args.length.now c.line_length.ensures c.in-Known.is

pub returns-in-NotYet : goal.returns-in-NotYet
returns-in-NotYet c =
    tells c.args.length.now c.line_length.ensures c.in-NotYet.is

pub returns-in-NoLine : goal.returns-in-NoLine
returns-in-NoLine c =
    rw c.told.ensures (tells c.args.length.now c.line_length.ensures c.in-NoLine.is)
