-- `bundle_adding::inserting::insert_row` meets its contract: each way out by the tests that led there.
use mathlib.Core.Bool.{Bool}
use mathlib.Core.List.{List}
use mathlib.Core.Path.{sym, ap, ◌∙◌}
use Prim.Native.Nat.{ℕ}
use native.Mathlib.Omega.{arith}
use lib.ListN.{length, take}
use lib.Seq.{length-take-le}
use Rattle.base_lent.specs.Copying.{laid}
use Rattle.bundle_rows.specs.Fields.{wrong_field}
use Rattle.bundle_check.specs.Records.{Recorded, records_of, bundle_of}
use Rattle.bundle_adding.specs.Adding.{new_record, grown}
use Rattle.bundle_adding.specs.Inserting.{place_behind, put_at}
use Rattle.bundle_adding.proofs.Laws.AddLaws.{room_left}
use Rattle.bundle_adding.proofs.Laws.Trying.{try_wrong, try_wide, try_full, try_grown, inserts_refused, inserts_grown}
use Rattle.bundle_adding.proofs.Laws.Grown.{old_most}
use Rattle.bundle_adding.proofs.Laws.Growing.{count_held}
use Rattle.bundle_adding.proofs.Laws.InsertingLaws.{place_inside}
use Rattle.bundle_adding.proofs.inserting.insert_row.Goals.{Start}
use Rattle.bundle_adding.proofs.inserting.insert_row.Goals as goal

-- what is to be put in
abbrev row : Start → Recorded
row c = new_record c.args.row.position c.args.row.direction c.args.row.time c.args.body.now

-- 34 as it was tried
abbrev wrong : Start → Bool
wrong c = wrong_field c.args.row.position c.args.row.direction (length c.args.body.now)

pub returns-then-wrong : goal.returns-then-wrong
returns-then-wrong c =
    let a = c.args in
    inserts_refused (try_wrong (wrong (goal.at.returns-then-wrong c).Start) a.buffer.now a.filled (row (goal.at.returns-then-wrong c).Start) a.count
    c.requires.0 c.requires.1 (sym c.wrong_field-wrong.ensures ∙ c.if-wrong.true))

pub returns-then-wide : goal.returns-then-wide
returns-then-wide c =
    let a = c.args in
    inserts_refused (try_wide (wrong (goal.at.returns-then-wide c).Start) a.buffer.now a.filled (row (goal.at.returns-then-wide c).Start) a.count
    c.requires.0 c.requires.1 (sym c.wrong_field-wrong.ensures ∙ c.if-wrong.false)
    (sym c.any_over-wide.ensures ∙ c.if-wide.true))

pub overflow_add-bytes-2 : goal.overflow_add-bytes-2
overflow_add-bytes-2 c =
    let a = c.args in
    omega (arith, old_most a.buffer.now a.filled a.count c.requires.0 c.requires.1)

pub returns-then-full : goal.returns-then-full
returns-then-full c =
    let a = c.args in
    inserts_refused (try_full (wrong (goal.at.returns-then-full c).Start) a.buffer.now a.filled (row (goal.at.returns-then-full c).Start) a.count
    c.requires.0 c.requires.1 (sym c.wrong_field-wrong.ensures ∙ c.if-wrong.false)
    (sym c.any_over-wide.ensures ∙ c.if-wide.false) c.if-full.true)

pub slice_bounds-old-end-2 : goal.slice_bounds-old-end-2
slice_bounds-old-end-2 c =
    sym (length-take-le c.args.filled c.args.buffer.now c.requires.0)

pub put_in-requires : goal.put_in-requires
put_in-requires c =
    let a = c.args in
    let left = room_left a.buffer.now a.count (grown a.filled (row (goal.at.put_in-requires c).Start)) c.if-full.false in (
      c.requires.1,
      left.0,
      omega (arith, c.place_behind-place.ensures, place_inside a.row.time (records_of (take a.filled a.buffer.now)) a.count),
      left.1,
      left.2,
    )

pub returns : goal.returns
returns c =
    let a = c.args in
    let ks : List Recorded = records_of (take a.filled a.buffer.now) in
    inserts_grown (try_grown (wrong (goal.at.returns c).Start) a.buffer.now a.filled (row (goal.at.returns c).Start) a.count
    c.requires.0 c.requires.1 (sym c.wrong_field-wrong.ensures ∙ c.if-wrong.false) (sym c.any_over-wide.ensures ∙ c.if-wide.false)
    c.if-full.false)
    (c.put_in.ensures
    ∙ ap (λ (p : ℕ). laid a.buffer.now 0 (bundle_of (put_at p (row (goal.at.returns c).Start) ks)))
    (c.place_behind-place.ensures ∙ ap (place_behind a.row.time ks) (count_held (take a.filled a.buffer.now) a.count c.requires.1)))
