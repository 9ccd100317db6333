-- `mbus_shape::long_form` meets its contract, rule by rule.
use Rattle.std.proofs.Common.{arith}
use Rattle.mbus_shape.proofs.Laws.ShapeLaws.{long_is}
use Rattle.mbus_shape.proofs.long_form.Goals as goal

pub returns-then-second-third : goal.returns-then-second-third
returns-then-second-third c =
    rw (
      long_is c.args.sum
          c.requires,
      ← c.byte_at-second.ensures,
      ← c.byte_at-third.ensures,
      ← c.byte_at-fourth.ensures,
    )
    (rw c.if-second-third.true)

pub wrong_end-requires : goal.wrong_end-requires
wrong_end-requires c =
    omega (arith, c.requires.six)

pub returns-then-wrong_end : goal.returns-then-wrong_end
returns-then-wrong_end c =
    rw (
      long_is c.args.sum
          c.requires,
      ← c.byte_at-second.ensures,
      ← c.byte_at-third.ensures,
      ← c.byte_at-fourth.ensures,
    )
    (rw (c.if-second-third.false, ← c.wrong_end.ensures, c.if-wrong_end.true))

pub wrong_whole-requires : goal.wrong_whole-requires
wrong_whole-requires c =
    c.requires.six

pub returns-then-wrong_whole : goal.returns-then-wrong_whole
returns-then-wrong_whole c =
    rw (
      long_is c.args.sum
          c.requires,
      ← c.wrong_whole.ensures,
      ← c.byte_at-second.ensures,
      ← c.byte_at-third.ensures,
      ← c.byte_at-fourth.ensures,
    )
    (rw (c.if-second-third.false, ← c.wrong_end.ensures, c.if-wrong_end.false, c.if-wrong_whole.true))

pub overflow_sub-last : goal.overflow_sub-last
overflow_sub-last c =
    omega (arith, c.requires.six)

pub slice_bounds-long_shape-count : goal.slice_bounds-long_shape-count
slice_bounds-long_shape-count c =
    omega (arith, c.requires.six)

pub slice_bounds-long_shape-start : goal.slice_bounds-long_shape-start
slice_bounds-long_shape-start c =
    omega (arith, c.requires.six)

pub slice_bounds-long_shape-end : goal.slice_bounds-long_shape-end
slice_bounds-long_shape-end c =
    omega (arith, c.requires.six)

pub returns : goal.returns
returns c =
    rw (
      long_is c.args.sum
          c.requires,
      ← c.wrong_whole.ensures,
      ← c.byte_at-second.ensures,
      ← c.byte_at-third.ensures,
      ← c.byte_at-fourth.ensures,
    )
    (rw (
      c.if-second-third.false,
      ← c.wrong_end.ensures,
      c.if-wrong_end.false,
      c.if-wrong_whole.false,
    ) c.long_shape.ensures)
