-- `mbus_shape::shape_of` meets its contract: by the first byte what is too short for the long form, or the long form.
use Rattle.std.proofs.Common.{sym, ◌∙◌}
use Rattle.mbus_shape.proofs.Laws.ShapeLaws.{brief_is, length_five, long_count}
use Rattle.mbus_shape.proofs.shape_of.Goals as goal

pub returns-then-first-ne-LONG : goal.returns-then-first-ne-LONG
returns-then-first-ne-LONG c =
    c.brief_shape.ensures ∙ brief_is c.args.bytes.now c.args.sum
    (λ e. c.if-first-ne-LONG.true (c.byte_at-first.ensures ∙ e))

pub wrong_length-requires : goal.wrong_length-requires
wrong_length-requires c = sym c.byte_at-first.ensures ∙ c.if-first-ne-LONG.false

pub returns-then-wrong_length : goal.returns-then-wrong_length
returns-then-wrong_length c =
    length_five c.args.bytes.now
    (sym c.byte_at-first.ensures ∙ c.if-first-ne-LONG.false) c.wrong_length.ensures
    c.args.sum c.if-wrong_length.true

pub long_form-requires : goal.long_form-requires
long_form-requires c =
    long_count c.args.bytes.now
    (sym c.byte_at-first.ensures ∙ c.if-first-ne-LONG.false) c.wrong_length.ensures c.if-wrong_length.false
