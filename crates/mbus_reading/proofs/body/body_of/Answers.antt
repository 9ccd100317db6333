-- `mbus_reading::body::body_of` meets its contract: the header, then the entries.
use mathlib.Core.Path.{sym, ◌∙◌}
use lib.Seq.{length-take-le}
use Rattle.base_rules.proofs.Laws.ListLaws.{rest_is}
use Rattle.mbus_reading.proofs.Laws.BodyLaws.{head_wrong}
use Rattle.mbus_reading.proofs.body.body_of.Goals as goal

pub slice_bounds-wrong_header-end : goal.slice_bounds-wrong_header-end
slice_bounds-wrong_header-end c = sym (length-take-le 12 c.args.part.now c.requires)

pub returns-then-wrong_header : goal.returns-then-wrong_header
returns-then-wrong_header c =
    rw (sym (head_wrong c.args.part.now) ∙ sym c.wrong_header.ensures ∙ c.if-wrong_header.true)

pub returns : goal.returns
returns c =
    let d = c.args.part.now in
    rw (sym (head_wrong d) ∙ sym c.wrong_header.ensures ∙ c.if-wrong_header.false, ← rest_is d 12) c.read_entries.ensures
