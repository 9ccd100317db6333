-- `host_meaning::words::skarrowith_refusal_text` meets its contract.
use borrow.Author.Tests.{le-ltb, lt-ltb}
use Rattle.host_meaning.proofs.words.skarrowith_refusal_text.Goals as goal

pub returns-then-plain : goal.returns-then-plain
returns-then-plain c =
    rw (lt-ltb _ _ c.if-plain.true) c.say_number.ensures

pub returns : goal.returns
returns c =
    rw (le-ltb _ _ c.if-plain.false) c.say_number-2.ensures
