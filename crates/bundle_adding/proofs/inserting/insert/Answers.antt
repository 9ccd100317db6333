-- `bundle_adding::inserting::insert` meets its contract: past the buffer, by the check's refusal, or as the new row is tried.
use Prim.Native.Nat.{◌≤◌}
use mathlib.Core.Bool.{Bool}
use mathlib.Core.Path.{sym, ◌∙◌}
use Rattle.std.proofs.Common.{rules}
use lib.ListN.{length, take}
use lib.Seq.{length-take-le}
use Rattle.bundle_check.specs.Bundles.{check_of}
use Rattle.base_rules.proofs.Laws.AnswerLaws.{shown_ok}
use Rattle.bundle_check.specs.Records.{Recorded}
use Rattle.bundle_adding.specs.Adding.{new_record}
use Rattle.bundle_adding.specs.Inserting.{try_of}
use Rattle.bundle_rows.specs.Fields.{wrong_field}
use Rattle.bundle_adding.proofs.Laws.Trying.{try_past, inserts_refused}
use borrow.Author.Tests.{le-ltb, lt-ltb}
use Rattle.bundle_adding.proofs.inserting.insert.Goals.{Else-buffer-filled, Start}
use Rattle.bundle_adding.proofs.inserting.insert.Goals as goal

abbrev row : Start → Recorded
row c = new_record c.args.position c.args.direction c.args.time c.args.body.now

abbrev wrong : Start → Bool
wrong c = wrong_field c.args.position c.args.direction (length c.args.body.now)

inside : (c : Else-buffer-filled) → c.args.filled ≤ length c.args.buffer.now
inside c = c.if-buffer-filled.false

pub returns-then-buffer-filled : goal.returns-then-buffer-filled
returns-then-buffer-filled c =
    inserts_refused (try_past (wrong (goal.at.returns-then-buffer-filled c).Start) c.args.buffer.now c.args.filled (row (goal.at.returns-then-buffer-filled c).Start) (lt-ltb _ _ c.if-buffer-filled.true))

pub slice_bounds-check-end-2 : goal.slice_bounds-check-end-2
slice_bounds-check-end-2 c =
    sym (length-take-le c.args.filled c.args.buffer.now (inside (goal.at.slice_bounds-check-end-2 c).Else-buffer-filled))

pub insert_row-requires : goal.insert_row-requires
insert_row-requires c =
    let a = c.args in
    let n = c.in_ok-count.count in
    (inside (goal.at.insert_row-requires c).Else-buffer-filled, shown_ok (check_of (take a.filled a.buffer.now)) n (sym c.check.ensures ∙ c.in_ok-count.was))

pub returns-in_err-count : goal.returns-in_err-count
unfolding try_of
returns-in_err-count c = search (rules, le-ltb _ _ c.if-buffer-filled.false)
