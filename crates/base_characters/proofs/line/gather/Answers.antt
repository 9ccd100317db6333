-- `base_characters::line::gather` meets its contract: one loop looks at each character for range, parity and sum.
use Rattle.std.proofs.Common.{List, ℕ, map, refl, ap, ◌∙◌, arith, length-take}
use Rattle.base_characters.specs.Characters.{byte_of}
use Rattle.base_lent.specs.Copying.{copied}
use Rattle.base_characters.specs.Gathering.{gathered}
use Rattle.base_characters.proofs.Laws.PartLaws.{fewer_all}
use Rattle.base_characters.proofs.Laws.WalkLaws.{walk_none, walk_first, walk_all, walk_stored}
use Rattle.base_characters.proofs.line.gather.Goals as goal

pub loop-i-init : goal.loop-i-init
loop-i-init c = walk_none (omega (arith, length-take c.min.result c.args.line.now))

pub loop-i-preserved : goal.loop-i-preserved
loop-i-preserved c = walk_first c.loop-i.invariant c.loop-i-test.true refl c.folded-flags.ensures

pub returns : goal.returns
returns c =
    let out = c.args.out.now in
    let w = c.loop-i.invariant in
    let all = (fewer_all c.args.line.now out c.min.ensures).2 in (
      walk_all w c.loop-i-test.false c.told_by-outcome.ensures ∙ ap gathered all,
      walk_stored w c.loop-i-test.false ∙ ap (λ (t : List ℕ). copied out 0 (map byte_of t)) all,
    )
