-- `host_verdicts::skarrowith_contents_verdicts` meets its contract: what the walk answers is given.
use Rattle.run_verdicts.specs.Answering.{verdicts_kept}
use Rattle.host_verdicts.proofs.Laws.Told.{full_kept, given_as}
use Rattle.host_verdicts.proofs.skarrowith_contents_verdicts.Goals as goal

pub give-requires : goal.give-requires
give-requires c =
    let a = c.args in
    full_kept a.contents.now a.bundle.now c.verdicts_kept.ensures

pub returns : goal.returns
returns c =
    let a = c.args in
    let e = c.verdicts_kept.ensures in
    given_as _ a.verdicts.now a.count.now (verdicts_kept a.contents.now a.bundle.now) e
    c.give.ensures
