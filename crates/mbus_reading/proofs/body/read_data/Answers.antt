-- `mbus_reading::body::read_data` meets its contract.
use mathlib.Core.Path.{sym, ap, ◌∙◌}
use lib.Seq.{length-take-le}
use Rattle.std.proofs.lemmas.Result.{err_from_is_err_and}
use Rattle.base_rules.specs.Shown.{shown}
use Rattle.mbus_reading.proofs.Laws.BodyLaws.{head_is, data_refused, data_accepted}
use Rattle.mbus_reading.proofs.body.read_data.Goals as goal

pub returns-in_err-body : goal.returns-in_err-body
returns-in_err-body c =
    let p = err_from_is_err_and c.from_residual.result c.from_residual.ensures.1 in
    rw (p.1, p.2) (sym (ap shown (data_refused c.args.address c.args.part.now c.in_err-body.ensures)))

pub slice_bounds-header_of-end : goal.slice_bounds-header_of-end
slice_bounds-header_of-end c = sym (length-take-le 12 c.args.part.now c.requires)

pub returns : goal.returns
returns c =
    data_accepted c.args.address c.args.part.now c.in_ok-body.ensures (c.header_of-header.ensures ∙ head_is c.args.part.now)
