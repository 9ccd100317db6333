-- `text_words::say` meets its contract: the loop copies.
use Prim.Native.Nat.{◌+◌}
use native.Mathlib.Omega.{arith}
use lib.ListN.{length}
use borrow.Author.Tests.{ltb-false, lt-ltb, le-ltb}
use Rattle.text_words.proofs.Laws.Saying.{says_not, copied_none, copied_next, copied_all}
use Rattle.text_words.proofs.say.Goals as goal

pub returns-then-short : goal.returns-then-short
returns-then-short c = rw c.told.ensures (says_not c.args.words.now c.args.out.now (lt-ltb _ _ c.if-short.true))

pub loop-i-init : goal.loop-i-init
loop-i-init c = copied_none c.args.words.now c.args.out.now (le-ltb _ _ c.if-short.false)

pub bounds-out-i : goal.bounds-out-i
bounds-out-i c =
    let a = c.args in
    omega (arith, ltb-false (length a.out.now) (length a.words.now + 1) c.loop-i.invariant.room)

pub loop-i-preserved : goal.loop-i-preserved
loop-i-preserved c = copied_next c.loop-i.invariant (omega arith)

pub bounds-out-words : goal.bounds-out-words
bounds-out-words c =
    let a = c.args in
    omega (arith, ltb-false (length a.out.now) (length a.words.now + 1) c.loop-i.invariant.room)

pub returns : goal.returns
returns c = copied_all c.loop-i.invariant (omega arith)
