-- `text_filling::digits_of` meets its contract: the loop spells the number from its last digit on.
use native.Mathlib.Omega.{arith}
use mathlib.Core.Path.{refl}
use lib.ListN.{replicate}
use Rattle.text_filling.proofs.Laws.DecimalLaws.{spelled_first, spelled_more, spelled_next, spelled_all}
use Rattle.text_filling.proofs.digits_of.Goals as goal

pub loop-rest-init : goal.loop-rest-init
loop-rest-init c = spelled_first c.args.n (replicate 20 0) (omega arith) refl

pub overflow_sub-start : goal.overflow_sub-start
overflow_sub-start c = omega (arith, spelled_more c.loop-rest.invariant c.loop-rest-test.true)

pub bounds-bytes-start : goal.bounds-bytes-start
bounds-bytes-start c = omega (arith, spelled_more c.loop-rest.invariant c.loop-rest-test.true)

pub loop-rest-preserved : goal.loop-rest-preserved
loop-rest-preserved c = spelled_next c.loop-rest.invariant c.loop-rest-test.true

pub returns : goal.returns
returns c = (c.loop-rest.invariant.near, c.loop-rest.invariant.same, spelled_all c.loop-rest.invariant c.loop-rest-test.false)
