-- `run_repeats::reading::mark_of` meets its contract: a row that gives a reading is long enough for its entries.
use mathlib.Core.Path.{sym, ◌∙◌}
use native.Mathlib.Omega.{arith}
use Rattle.run_counting.specs.Ears.{row_with}
use Rattle.run_repeats.specs.Marks.{row_mark}
use Rattle.run_repeats.proofs.Laws.DataLines.{gives_long}
use Rattle.run_repeats.proofs.reading.mark_of.Goals as goal

pub returns-then-not-gives_reading : goal.returns-then-not-gives_reading
unfolding row_mark
returns-then-not-gives_reading c = rw (sym c.gives_reading.ensures ∙ c.if-not-gives_reading.true)

pub overflow_sub-body : goal.overflow_sub-body
overflow_sub-body c =
    omega (arith, gives_long (row_with c.args.row c.args.body.now) (sym c.gives_reading.ensures ∙ c.if-not-gives_reading.false))

pub slice_bounds-sum_of-count : goal.slice_bounds-sum_of-count
slice_bounds-sum_of-count c =
    omega (arith, gives_long (row_with c.args.row c.args.body.now) (sym c.gives_reading.ensures ∙ c.if-not-gives_reading.false))

pub slice_bounds-sum_of-start : goal.slice_bounds-sum_of-start
slice_bounds-sum_of-start c =
    omega (arith, gives_long (row_with c.args.row c.args.body.now) (sym c.gives_reading.ensures ∙ c.if-not-gives_reading.false))

pub overflow_add-result : goal.overflow_add-result
overflow_add-result c = omega (arith, c.sum_of.ensures.1)

pub returns : goal.returns
unfolding row_mark
returns c = rw (sym c.gives_reading.ensures ∙ c.if-not-gives_reading.false, c.sum_of.ensures.0)
