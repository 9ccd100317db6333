-- `bench_resistance::degree_of` meets its contract: the card rises, so the entries that are not above the resistance come first.
use borrow.Author.Rules.{rules}
use borrow.Author.Tests.{tests}
use Rattle.std.proofs.Common.{◌<◌, ◌≤◌, ◌-◌, ◌+◌}
use lib.Dec.{leb}
use Rattle.std.proofs.lemmas.List.Sorted.{IsPartitionPoint-from_clause, IsPartitionedBy-leb}
use Rattle.bench_resistance.specs.Resistances.{stored_for}
use Rattle.bench_resistance.proofs.Laws.Card.{card_climbs, degree_last}
use Rattle.bench_resistance.proofs.degree_of.Goals.{After-partition_point}
use Rattle.bench_resistance.proofs.degree_of.Goals as goal

found : (c : After-partition_point) → (1 ≤ c.partition_point.result) × ((c.partition_point.result - 1 < 201) × (stored_for (c.partition_point.result - 1) ≤ c.args.milliohm)
    × (c.partition_point.result - 1 < 200 → c.args.milliohm < stored_for (c.partition_point.result - 1 + 1)))
found c =
    let m = c.args.milliohm in
    let degrees = c.args.degrees.now in
    let i = c.partition_point.result in
    degree_last c.requires.0 m i c.requires.1 c.partition_point.ensures.bound
    (IsPartitionPoint-from_clause (λ y. leb y m) degrees i c.partition_point.ensures.partitioned
    (IsPartitionedBy-leb (λ x. x) degrees m (card_climbs c.requires.0))
    (λ a r q k. search (rules, tests)))

pub overflow_sub-result : goal.overflow_sub-result
overflow_sub-result c = (found (goal.at.overflow_sub-result c).After-partition_point).0

pub returns : goal.returns
returns c = (found (goal.at.returns c).After-partition_point).1
