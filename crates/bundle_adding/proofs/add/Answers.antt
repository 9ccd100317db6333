-- `bundle_adding::add` meets its contract: past the buffer, by the check's refusal, or as the new row is tried.
use Prim.Native.Nat.{◌≤◌}
use mathlib.Core.Path.{sym, ◌∙◌}
use Rattle.std.proofs.Common.{rules}
use lib.ListN.{length, take}
use lib.Seq.{length-take-le}
use Rattle.bundle_check.specs.Bundles.{check_of}
use Rattle.base_rules.proofs.Laws.AnswerLaws.{shown_ok}
use Rattle.bundle_check.specs.Records.{Recorded}
use Rattle.bundle_adding.specs.Adding.{new_record, add_of}
use Rattle.bundle_adding.proofs.Laws.AddLaws.{add_past}
use Rattle.bundle_adding.proofs.Laws.Shown.{adds_refused}
use borrow.Author.Tests.{le-ltb, lt-ltb}
use Rattle.bundle_adding.proofs.add.Goals.{Else-buffer-filled, Start}
use Rattle.bundle_adding.proofs.add.Goals as goal

abbrev row : Start → Recorded
row c = new_record c.args.position c.args.direction c.args.time c.args.body.now

inside : (c : Else-buffer-filled) → c.args.filled ≤ length c.args.buffer.now
inside c = c.if-buffer-filled.false

pub returns-then-buffer-filled : goal.returns-then-buffer-filled
returns-then-buffer-filled c =
    adds_refused (add_past c.args.buffer.now c.args.filled (row (goal.at.returns-then-buffer-filled c).Start) (lt-ltb _ _ c.if-buffer-filled.true))

pub slice_bounds-check-end-2 : goal.slice_bounds-check-end-2
slice_bounds-check-end-2 c =
    sym (length-take-le c.args.filled c.args.buffer.now (inside (goal.at.slice_bounds-check-end-2 c).Else-buffer-filled))

pub add_row-requires : goal.add_row-requires
add_row-requires c =
    let a = c.args in
    let n = c.in_ok-count.count in
    (inside (goal.at.add_row-requires c).Else-buffer-filled, shown_ok (check_of (take a.filled a.buffer.now)) n (sym c.check.ensures ∙ c.in_ok-count.was))

pub returns-in_err-count : goal.returns-in_err-count
unfolding add_of
returns-in_err-count c = search (rules, le-ltb _ _ c.if-buffer-filled.false)
