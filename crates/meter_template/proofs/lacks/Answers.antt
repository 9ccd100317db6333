-- `lacks` meets its contract.
use mathlib.Core.Bool.{not}
use mathlib.Core.Path.{ap, ◌∙◌}
use borrow.Author.Rules.{rules}
use borrow.Author.Tests.{tests}
use Rattle.std.proofs.lemmas.Iterator.{YieldsList-from_slice}
use Rattle.std.proofs.lemmas.Iterator.Search.{any_from_yields_List}
use Rattle.meter_template.specs.Templates.{holds}
use Rattle.meter_template.proofs.Laws.Walks.{some_listed}
use Rattle.meter_template.proofs.lacks.Goals as goal

pub returns : goal.returns
returns c =
    let a = c.args in
    ap not (any_from_yields_List (holds a.quantity) _ _ _ c.any.ensures.ran (YieldsList-from_slice a.entries cc) (λ x b q k. search (rules, tests))
    ∙ some_listed (holds a.quantity) a.entries)
