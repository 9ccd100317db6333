-- `text_words::row_start` meets its contract: the loop skips rows.
use Prim.Native.Nat.{◌<◌}
use native.Mathlib.Omega.{arith}
use Rattle.text_words.proofs.Laws.Rows.{skipped_none, skipped_here, skipped_feed, skipped_on, skipped_all}
use Rattle.text_words.proofs.row_start.Goals.{then-b-eq10, else-b-eq10}
use Rattle.text_words.proofs.row_start.Goals as goal

pub loop-i-init : goal.loop-i-init
loop-i-init c = skipped_none c.args.words.now c.args.n

pub returns-then-left-eq0 : goal.returns-then-left-eq0
returns-then-left-eq0 c = skipped_here c.loop-i.invariant c.if-left-eq0.true

pub loop-i-preserved : goal.loop-i-preserved
loop-i-preserved c =
    let inv = c.loop-i.invariant in
    let inside = c.loop-i-test.true in
    let more : 0 < c.loop-i.left = omega arith in
    elim c.if-b-eq10.branch [ then-b-eq10 w ↦ rw w.left-is (skipped_feed inv inside more w.if-b-eq10.true) | else-b-eq10 w ↦ rw w.left-is (skipped_on inv inside more w.if-b-eq10.false) ]

pub returns : goal.returns
returns c = skipped_all c.loop-i.invariant (omega arith)
