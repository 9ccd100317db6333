-- `run_repeats::reading::sum_of` meets its contract: the library's sum, which is small enough.
use mathlib.Core.Path.{◌≡◌, ◌∙◌}
use native.Mathlib.Omega.{arith}
use borrow.Author.Rules.{rules}
use Rattle.std.specs.List.{sum}
use Rattle.run_repeats.proofs.Laws.Summing.{sum_total, total_most}
use Rattle.run_repeats.proofs.reading.sum_of.Goals as goal

pub returns : goal.returns
returns c =
    let s = c.args.bytes.now in
    let all : c.sum.result ≡ sum s = search rules in
    let most = total_most s (λ i. omega (arith, c.type_inv.bytes i)) in
    (all ∙ sum_total s, omega (arith, all, sum_total s, most, c.requires))
