-- `host_verdicts::skarrowith_verdicts` meets its contract: what the walk answers is given.
use Rattle.run_verdicts.specs.Answering.{verdicts_in}
use Rattle.host_verdicts.proofs.Laws.Told.{full_in, given_as}
use Rattle.host_verdicts.proofs.skarrowith_verdicts.Goals as goal

pub give-requires : goal.give-requires
give-requires c =
    full_in c.args.bundle.now c.verdicts_in.ensures

pub returns : goal.returns
returns c =
    let a = c.args in
    let e = c.verdicts_in.ensures in
    given_as _ a.verdicts.now a.count.now (verdicts_in a.bundle.now) e c.give.ensures
