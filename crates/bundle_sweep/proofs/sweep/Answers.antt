-- `bundle_sweep::sweep` meets its contract: past the buffer, by the check's refusal, by the position, or swept.
use Prim.Native.Nat.{◌≤◌}
use mathlib.Core.Path.{sym, ◌∙◌}
use Rattle.std.proofs.Common.{rules}
use Rattle.bundle_sweep.specs.Sweeping.{sweep_of}
use lib.ListN.{length, take}
use lib.Seq.{length-take-le}
use Rattle.bundle_check.specs.Bundles.{check_of}
use Rattle.base_rules.proofs.Laws.AnswerLaws.{shown_ok}
use Rattle.bundle_sweep.proofs.Laws.Shown.{sweep_past, sweep-outside, sweep-done}
use borrow.Author.Tests.{le-ltb, lt-ltb}
use Rattle.bundle_sweep.proofs.sweep.Goals.{Else-buffer-filled}
use Rattle.bundle_sweep.proofs.sweep.Goals as goal

inside : (c : Else-buffer-filled) → c.args.filled ≤ length c.args.buffer.now
inside c = c.if-buffer-filled.false

pub returns-then-buffer-filled : goal.returns-then-buffer-filled
returns-then-buffer-filled c = let a = c.args in sweep_past a.buffer.now a.filled a.position (lt-ltb _ _ c.if-buffer-filled.true)

pub slice_bounds-check-end-2 : goal.slice_bounds-check-end-2
slice_bounds-check-end-2 c = let a = c.args in sym (length-take-le a.filled a.buffer.now (inside (goal.at.slice_bounds-check-end-2 c).Else-buffer-filled))

pub returns-then-position-gt-LAST_POSITION : goal.returns-then-position-gt-LAST_POSITION
returns-then-position-gt-LAST_POSITION c =
    let a = c.args in
    let n = c.in_ok-count.count in
    sweep-outside a.buffer.now a.filled a.position (inside (goal.at.returns-then-position-gt-LAST_POSITION c).Else-buffer-filled) n
    (shown_ok (check_of (take a.filled a.buffer.now)) n (sym c.check.ensures ∙ c.in_ok-count.was))
    (lt-ltb _ _ c.if-position-gt-LAST_POSITION.true)

pub slice_bounds-sweep_rows-end-2 : goal.slice_bounds-sweep_rows-end-2
slice_bounds-sweep_rows-end-2 c =
    let a = c.args in
    sym (length-take-le a.filled a.buffer.now (inside (goal.at.slice_bounds-sweep_rows-end-2 c).Else-buffer-filled))

pub sweep_rows-end-requires : goal.sweep_rows-end-requires
sweep_rows-end-requires c =
    let a = c.args in
    let n = c.in_ok-count.count in
    shown_ok (check_of (take a.filled a.buffer.now)) n (sym c.check.ensures ∙ c.in_ok-count.was)

pub returns : goal.returns
returns c =
    let a = c.args in
    let n = c.in_ok-count.count in
    let s = c.sweep_rows-end.ensures in
    sweep-done a.buffer.now a.filled a.position (inside (goal.at.returns c).Else-buffer-filled) n
    (shown_ok (check_of (take a.filled a.buffer.now)) n (sym c.check.ensures ∙ c.in_ok-count.was))
    (le-ltb _ _ c.if-position-gt-LAST_POSITION.false) s.0 s.1

pub returns-in_err-count : goal.returns-in_err-count
unfolding sweep_of
returns-in_err-count c = search (rules, le-ltb _ _ c.if-buffer-filled.false)
