-- `bench_resistance::temperature_of` meets its contract.
use Prim.Native.Nat.{◌<◌}
use mathlib.Core.Path.{◌≡◌, sym, ap}
use mathlib.Core.Bool.{false}
use native.Mathlib.Omega.{arith}
use Rattle.base_rules.specs.Shown.{shown}
use Rattle.bench_resistance.specs.Resistances.{off_card}
use Rattle.bench_resistance.proofs.Laws.Card.{degree_found}
use Rattle.bench_resistance.proofs.Laws.Answers.{below_first, above_last, on_card, from_first, temperature_last, temperature_read}
use Rattle.bench_resistance.proofs.temperature_of.Goals.{Else-card-milliohm}
use Rattle.bench_resistance.proofs.temperature_of.Goals.{then-milliohm-card-via-then-milliohm-card, then-milliohm-card-via-else-milliohm-card+then-card-milliohm}
use Rattle.bench_resistance.proofs.temperature_of.Goals as goal

pub returns-then-milliohm-card : goal.returns-then-milliohm-card
returns-then-milliohm-card c =
    let card = c.card-card.ensures in
    elim c.then-milliohm-card.branch [
      | then-milliohm-card-via-then-milliohm-card w ↦ rw (below_first card w.if-milliohm-card.true)
      | then-milliohm-card-via-else-milliohm-card+then-card-milliohm w ↦ rw (above_last card w.if-milliohm-card.false w.if-card-milliohm.true)
    ]

-- past the test, the resistance is one of the card's range
inside : (c : Else-card-milliohm) → off_card c.args.milliohm ≡ false
inside c = on_card c.card-card.ensures c.if-milliohm-card.false c.if-card-milliohm.false

pub degree_of-degree-requires : goal.degree_of-degree-requires
degree_of-degree-requires c =
    (c.card-card.ensures, from_first c.args.milliohm (inside (goal.at.degree_of-degree-requires c).Else-card-milliohm))

pub returns-then-degree-eq200 : goal.returns-then-degree-eq200
returns-then-degree-eq200 c =
    let m = c.args.milliohm in
    ap shown (sym (temperature_last m (inside (goal.at.returns-then-degree-eq200 c).Else-card-milliohm) (rw c.if-degree-eq200.true at c.degree_of-degree.ensures.1)))

pub rest_of-rest-requires : goal.rest_of-rest-requires
rest_of-rest-requires c =
    let m = c.args.milliohm in
    let found = c.degree_of-degree.ensures in
    let low : c.degree_of-degree.result < 200 = omega arith in
    degree_found c.card-card.ensures m c.degree_of-degree.result low found.1 (found.2 low)

pub returns : goal.returns
returns c =
    let m = c.args.milliohm in
    let degree = c.degree_of-degree in
    let rest = c.rest_of-rest in
    let read = c.card-card.ensures in
    let low : degree.result < 200 = omega arith in
    ap shown
    (sym
    (temperature_read m (inside (goal.at.returns c).Else-card-milliohm) read degree.result rest.result low rest.ensures.0
    rest.ensures.1 rest.ensures.2))
