-- `bench_resistance::resistance_of` meets its contract.
use Prim.Native.Nat.{◌+◌, ◌/◌}
use mathlib.Core.Path.{ap, ◌∙◌}
use native.Mathlib.Omega.{arith}
use Rattle.std.specs.Prelude.{Ok}
use Rattle.bench_resistance.proofs.Laws.Card.{card_small}
use Rattle.bench_resistance.proofs.Laws.Answers.{answer_last, answer_between}
use borrow.Author.Tests.{le-ltb}
use Rattle.bench_resistance.proofs.resistance_of.Goals as goal

pub returns-then-degree-eq200 : goal.returns-then-degree-eq200
returns-then-degree-eq200 c =
    let over = c.if-hundredths-gt-HUNDREDTHS_MOST.false in
    rw (le-ltb _ _ over) (ap Ok (answer_last c.card-card.ensures c.args.hundredths over c.if-degree-eq200.true))

pub line-requires : goal.line-requires
line-requires c =
    let card = c.card-card.ensures in
    let degree = c.args.hundredths / 100 in
    (card_small card degree (omega arith), card_small card (degree + 1) (omega arith), omega arith)

pub returns : goal.returns
returns c =
    let over = c.if-hundredths-gt-HUNDREDTHS_MOST.false in
    rw (le-ltb _ _ over) (ap Ok (c.line.ensures ∙ answer_between c.card-card.ensures c.args.hundredths (omega arith)))
