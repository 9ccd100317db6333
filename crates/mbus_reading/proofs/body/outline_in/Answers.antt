-- `mbus_reading::body::outline_in` meets its contract: the shape, and what it leaves to be read.
use Prim.Native.Nat.{◌-◌}
use native.Mathlib.Omega.{arith}
use lib.ListN.{length, drop, length-take, length-drop}
use mathlib.Core.Path.{sym, ap, ◌∙◌}
use Rattle.mbus_rules.specs.Outlines.{outlined}
use Rattle.mbus_shape.proofs.Laws.LeftLaws.{left_by, asks_left}
use Rattle.mbus_reading.proofs.body.outline_in.Goals as goal

pub overflow_sub-bytes : goal.overflow_sub-bytes
overflow_sub-bytes c =
    let h = left_by c.args.bytes.now c.args.sum
    c.shape_of-shape.ensures
    c.in-Data.is in omega (arith, h.0)

pub slice_bounds-outline_data-count : goal.slice_bounds-outline_data-count
slice_bounds-outline_data-count c =
    let h = left_by c.args.bytes.now c.args.sum
    c.shape_of-shape.ensures
    c.in-Data.is in omega (arith, h.0)

pub slice_bounds-outline_data-start : goal.slice_bounds-outline_data-start
slice_bounds-outline_data-start c =
    let h = left_by c.args.bytes.now
    c.args.sum c.shape_of-shape.ensures
    c.in-Data.is in omega (arith, h.0)

pub outline_data-requires : goal.outline_data-requires
outline_data-requires c =
    let b = c.args.bytes.now in
    let h = left_by c.args.bytes.now c.args.sum
    c.shape_of-shape.ensures
    c.in-Data.is in
    omega (arith, h.0, length-take (length b - 2 - 7) (drop 7 b), length-drop 7 b)

pub returns-in-Data : goal.returns-in-Data
returns-in-Data c =
    let h = left_by c.args.bytes.now
    c.args.sum
    c.shape_of-shape.ensures c.in-Data.is in c.outline_data.ensures ∙ ap outlined
    (sym h.1)

pub returns-in-Refused : goal.returns-in-Refused
returns-in-Refused c =
    ap outlined
    (sym
    (left_by c.args.bytes.now c.args.sum
    c.shape_of-shape.ensures c.in-Refused.is))

pub returns-in-Ack : goal.returns-in-Ack
returns-in-Ack c =
    ap outlined (sym (left_by c.args.bytes.now c.args.sum
    c.shape_of-shape.ensures c.in-Ack.is))

pub returns-in-Asks : goal.returns-in-Asks
returns-in-Asks c =
    asks_left c.args.bytes.now c.args.sum _
    (left_by c.args.bytes.now c.args.sum
    c.shape_of-shape.ensures c.in-Asks.is)
