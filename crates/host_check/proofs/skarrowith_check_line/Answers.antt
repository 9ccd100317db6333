-- `host_check::skarrowith_check_line` meets its contract: 17, then the number of the outline.
use mathlib.Core.Path.{◌∙◌}
use Rattle.host_check.proofs.Laws.NumberLaws.{odd_number, even_number}
use Rattle.host_check.proofs.skarrowith_check_line.Goals as goal

pub returns-then-bytes-eq1 : goal.returns-then-bytes-eq1
returns-then-bytes-eq1 c = c.told.ensures ∙ odd_number c.args.bytes.now c.if-bytes-eq1.true

pub returns : goal.returns
returns c =
    c.number_of.ensures ∙ even_number c.args.bytes.now c.if-bytes-eq1.false
    c.outline_of.ensures
