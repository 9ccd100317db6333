-- `bench_clock::is_wake` meets its contract: the count, then the loop gathers.
use Rattle.base_rules.proofs.Laws.ListLaws.{gathered_none}
use Rattle.base_characters.proofs.Laws.PairLaws.{length_characters, characters_next, characters_all}
use Rattle.bench_clock.specs.Wakes.{is_wake}
use Rattle.bench_clock.proofs.is_wake.Goals as goal

pub returns-then-outside_wake : goal.returns-then-outside_wake
unfolding is_wake
returns-then-outside_wake c = rw (length_characters c.args.body.now, ← c.outside_wake.ensures, c.if-outside_wake.true)

pub loop-i-init : goal.loop-i-init
loop-i-init c = gathered_none

pub loop-i-preserved : goal.loop-i-preserved
loop-i-preserved c =
    characters_next c.args.body.now c.loop-i.invariant c.loop-i-test.true
    c.character_at.ensures

pub returns : goal.returns
unfolding is_wake
returns c =
    let b = c.args.body.now in
    rw (length_characters b, ← c.outside_wake.ensures, c.if-outside_wake.false, characters_all b c.loop-i.invariant c.loop-i-test.false)
