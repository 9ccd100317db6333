-- `mbus_reading::body::read_in` meets its contract: the shape, and what it leaves to be read.
use Prim.Native.Nat.{◌-◌}
use native.Mathlib.Omega.{arith}
use lib.ListN.{length, drop, length-take, length-drop}
use mathlib.Core.Path.{sym, ap, ◌∙◌}
use Rattle.base_rules.specs.Answers.{reads}
use Rattle.base_rules.specs.Shown.{shown}
use Rattle.mbus_rules.specs.declared.Telegram.{Telegram}
use Rattle.mbus_shape.proofs.Laws.LeftLaws.{left_by}
use Rattle.mbus_reading.proofs.body.read_in.Goals as goal

pub overflow_sub-bytes : goal.overflow_sub-bytes
overflow_sub-bytes c =
    let h = left_by c.args.bytes.now c.args.sum
    c.shape_of-shape.ensures
    c.in-Data.is in omega (arith, h.0)

pub slice_bounds-read_data-count : goal.slice_bounds-read_data-count
slice_bounds-read_data-count c =
    let h = left_by c.args.bytes.now c.args.sum
    c.shape_of-shape.ensures
    c.in-Data.is in omega (arith, h.0)

pub slice_bounds-read_data-start : goal.slice_bounds-read_data-start
slice_bounds-read_data-start c =
    let h = left_by c.args.bytes.now c.args.sum
    c.shape_of-shape.ensures
    c.in-Data.is in omega (arith, h.0)

pub read_data-requires : goal.read_data-requires
read_data-requires c =
    let b = c.args.bytes.now in
    let h = left_by c.args.bytes.now c.args.sum
    c.shape_of-shape.ensures
    c.in-Data.is in
    omega (arith, h.0, length-take (length b - 2 - 7) (drop 7 b), length-drop 7 b)

pub returns-in-Data : goal.returns-in-Data
returns-in-Data c =
    let h = left_by c.args.bytes.now
    c.args.sum
    c.shape_of-shape.ensures c.in-Data.is in c.read_data.ensures ∙ ap shown
    (sym h.1)

pub returns-in-Refused : goal.returns-in-Refused
returns-in-Refused c =
    ap shown
    (sym
    (left_by c.args.bytes.now c.args.sum
    c.shape_of-shape.ensures
    c.in-Refused.is))

pub returns-in-Ack : goal.returns-in-Ack
returns-in-Ack c =
    ap (λ (t : Telegram). shown (reads t)) c.bare.ensures ∙ ap shown
    (sym
    (left_by c.args.bytes.now c.args.sum
    c.shape_of-shape.ensures c.in-Ack.is))

pub returns-in-Asks : goal.returns-in-Asks
returns-in-Asks c =
    ap (λ (t : Telegram). shown (reads t)) c.asked.ensures ∙ ap shown
    (sym
    (left_by c.args.bytes.now c.args.sum
    c.shape_of-shape.ensures
    c.in-Asks.is))
