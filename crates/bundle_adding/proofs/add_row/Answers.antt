-- `bundle_adding::add_row` meets its contract: each way out by the tests that led there.
use Prim.Native.Nat.{◌+◌}
use mathlib.Core.Bool.{◌||◌}
use mathlib.Core.Path.{◌≡◌, sym, ◌∙◌}
use native.Mathlib.Omega.{arith}
use lib.Dec.{ltb}
use lib.ListN.{take}
use lib.Seq.{length-take-le}
use Rattle.bundle_check.specs.Records.{Recorded, row_for}
use Rattle.bundle_check.specs.RowRules.{wrong_row}
use Rattle.bundle_check.specs.Bundles.{contents_of}
use Rattle.bundle_adding.specs.Adding.{new_record, last_time, grown}
use Rattle.bundle_adding.proofs.Laws.AddLaws.{add_wrong, add_wide, add_full, add_grown, room_left}
use Rattle.bundle_adding.proofs.Laws.Shown.{adds_refused, adds_grown}
use Rattle.bundle_adding.proofs.Laws.Grown.{old_most}
use Rattle.bundle_adding.proofs.add_row.Goals.{After-wrong_field-field, Start}
use Rattle.bundle_adding.proofs.add_row.Goals as goal

-- what is to be added
abbrev row : Start → Recorded
row c = new_record c.args.row.position c.args.row.direction c.args.row.time c.args.body.now

-- 34 as it was tried
wrong-is : (c : After-wrong_field-field)
    → (c.wrong_field-field.result || ltb c.args.row.time c.last_time-last.result)
    ≡ wrong_row (last_time
    (contents_of (take c.args.filled c.args.buffer.now)))
    (row_for (c.args.filled + 12) (new_record c.args.row.position c.args.row.direction c.args.row.time c.args.body.now))
wrong-is c =
    rw (c.wrong_field-field.ensures, c.last_time-last.ensures)

pub slice_bounds-old-end-2 : goal.slice_bounds-old-end-2
slice_bounds-old-end-2 c =
    sym (length-take-le c.args.filled c.args.buffer.now c.requires.0)

pub returns-then-wrong : goal.returns-then-wrong
returns-then-wrong c =
    adds_refused (add_wrong c.args.buffer.now c.args.filled (row (goal.at.returns-then-wrong c).Start) c.args.count c.requires.0 c.requires.1
    (sym (wrong-is (goal.at.returns-then-wrong c).After-wrong_field-field) ∙ c.if-wrong.true))

pub returns-then-wide : goal.returns-then-wide
returns-then-wide c =
    adds_refused (add_wide c.args.buffer.now c.args.filled (row (goal.at.returns-then-wide c).Start) c.args.count c.requires.0 c.requires.1
    (sym (wrong-is (goal.at.returns-then-wide c).After-wrong_field-field) ∙ c.if-wrong.false) (sym c.any_over-wide.ensures ∙ c.if-wide.true))

pub overflow_add-bytes-2 : goal.overflow_add-bytes-2
overflow_add-bytes-2 c =
    let a = c.args in
    omega (arith, old_most a.buffer.now a.filled a.count c.requires.0 c.requires.1)

pub returns-then-full : goal.returns-then-full
returns-then-full c =
    adds_refused (add_full c.args.buffer.now c.args.filled (row (goal.at.returns-then-full c).Start) c.args.count c.requires.0 c.requires.1
    (sym (wrong-is (goal.at.returns-then-full c).After-wrong_field-field) ∙ c.if-wrong.false) (sym c.any_over-wide.ensures ∙ c.if-wide.false) c.if-full.true)

pub insert-requires : goal.insert-requires
insert-requires c =
    let a = c.args in
    let left = room_left a.buffer.now a.count (grown a.filled (row (goal.at.insert-requires c).Start)) c.if-full.false in
    (c.requires.1, left.1, left.2)

pub returns : goal.returns
returns c =
    adds_grown (add_grown c.args.buffer.now c.args.filled (row (goal.at.returns c).Start) c.args.count c.requires.0 c.requires.1
    (sym (wrong-is (goal.at.returns c).After-wrong_field-field) ∙ c.if-wrong.false) (sym c.any_over-wide.ensures ∙ c.if-wide.false) c.if-full.false)
    c.insert.ensures
