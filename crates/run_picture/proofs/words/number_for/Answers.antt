-- `run_picture::words::number_for` meets its contract, case by case.
use Rattle.run_picture.proofs.Laws.Words.{refused_word}
use Rattle.run_picture.specs.Words.{numbered_word}
use Rattle.run_picture.proofs.words.number_for.Goals as goal

pub returns-in-Refused : goal.returns-in-Refused
returns-in-Refused c = rw c.in-Refused.is (refused_word c.in-Refused.n)

pub returns-in-Ack : goal.returns-in-Ack
unfolding numbered_word
returns-in-Ack c = rw c.in-Ack.is

pub returns-in-Read : goal.returns-in-Read
unfolding numbered_word
returns-in-Read c = rw (c.in-Asks.is, c.in-Read.is)

pub returns-in-Enter : goal.returns-in-Enter
unfolding numbered_word
returns-in-Enter c = rw (c.in-Asks.is, c.in-Enter.is)

pub returns-in-Leave : goal.returns-in-Leave
unfolding numbered_word
returns-in-Leave c = rw (c.in-Asks.is, c.in-Leave.is)

pub returns-in-Data : goal.returns-in-Data
unfolding numbered_word
returns-in-Data c = rw c.in-Data.is
