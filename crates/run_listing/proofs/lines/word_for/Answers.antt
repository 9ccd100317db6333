-- `run_listing::lines::word_for` meets its contract, case by case.
use native.Mathlib.Omega.{arith}
use Rattle.run_listing.proofs.lines.word_for.Goals as goal

pub returns-in-Refused : goal.returns-in-Refused
returns-in-Refused c = record { small = omega arith; whole = c.refused.ensures.whole; so = rw c.in-Refused.is c.refused.ensures.so }

pub returns-in-Ack : goal.returns-in-Ack
returns-in-Ack c = record { small = omega arith; whole = c.begin.ensures.whole; so = rw c.in-Ack.is c.begin.ensures.so }

pub returns-in-Read : goal.returns-in-Read
returns-in-Read c = record {
  small = omega arith;
  whole = c.begin-in-Read.ensures.whole;
  so =
      rw (c.in-Asks.is, c.in-Read.is) c.begin-in-Read.ensures.so;
}

pub returns-in-Enter : goal.returns-in-Enter
returns-in-Enter c = record {
  small = omega arith;
  whole = c.begin-in-Enter.ensures.whole;
  so =
      rw (c.in-Asks.is, c.in-Enter.is) c.begin-in-Enter.ensures.so;
}

pub returns-in-Leave : goal.returns-in-Leave
returns-in-Leave c = record {
  small = omega arith;
  whole = c.begin-in-Leave.ensures.whole;
  so =
      rw (c.in-Asks.is, c.in-Leave.is) c.begin-in-Leave.ensures.so;
}

pub returns-in-Data : goal.returns-in-Data
returns-in-Data c = record { small = omega arith; whole = c.begin-in-Data.ensures.whole; so = rw c.in-Data.is c.begin-in-Data.ensures.so }
