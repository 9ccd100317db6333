-- `mbus_shape::brief_shape` meets its contract, form by form.
use Rattle.std.proofs.Common.{sym, ◌∙◌}
use Rattle.mbus_shape.proofs.Laws.ShapeLaws.{brief_long, brief_ack, brief_more, brief_other, brief_count, brief_short}
use Rattle.mbus_shape.proofs.brief_shape.Goals as goal

pub returns-then-first-eq-LONG : goal.returns-then-first-eq-LONG
returns-then-first-eq-LONG c = brief_long c.args.bytes.now (sym c.byte_at-first.ensures ∙ c.if-first-eq-LONG.true)

pub returns-then-count-eq1 : goal.returns-then-count-eq1
returns-then-count-eq1 c =
    brief_ack c.args.bytes.now
    (sym c.byte_at-first.ensures ∙ c.if-first.true) c.if-count-eq1.true

pub returns-else-count-eq1 : goal.returns-else-count-eq1
returns-else-count-eq1 c =
    brief_more c.args.bytes.now
    (sym c.byte_at-first.ensures ∙ c.if-first.true) c.if-count-eq1.false

pub returns-then-first-ne-SHORT : goal.returns-then-first-ne-SHORT
returns-then-first-ne-SHORT c =
    let e = c.byte_at-first.ensures in
    brief_other c.args.bytes.now (λ x. c.if-first-eq-LONG.false (e ∙ x)) (λ x. c.if-first.false (e ∙ x))
    (λ x. c.if-first-ne-SHORT.true (e ∙ x))

pub returns-then-count-ne5 : goal.returns-then-count-ne5
returns-then-count-ne5 c =
    brief_count c.args.bytes.now
    (sym c.byte_at-first.ensures ∙ c.if-first-ne-SHORT.false) c.if-count-ne5.true

pub short_form-requires : goal.short_form-requires
short_form-requires c =
    record { first = sym c.byte_at-first.ensures ∙ c.if-first-ne-SHORT.false; five = c.if-count-ne5.false }

pub returns : goal.returns
returns c =
    c.short_form.ensures ∙ brief_short c.args.bytes.now
    (sym c.byte_at-first.ensures ∙ c.if-first-ne-SHORT.false)
