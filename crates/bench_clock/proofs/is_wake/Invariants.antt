-- `bench_clock::is_wake` meets its contract: the count, then the loop gathers.
use Rattle.base_characters.specs.Characters.{chars}
use Rattle.base_rules.proofs.Laws.ListLaws.{Gathered}
use Rattle.bench_clock.specs.Wakes.{no_wake}
use Rattle.bench_clock.proofs.is_wake.Given as goal

abbrev pub invariant-loop-i : goal.invariant-loop-i
invariant-loop-i l = Gathered no_wake (chars l.body) l.i l.other
