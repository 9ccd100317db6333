-- `mbus_entries::read_entries` meets its contract: each turn walks over one entry.
use native.Mathlib.Omega.{arith}
use mathlib.Core.List.{List}
use mathlib.Core.Path.{refl, sym, ap}
use Rattle.std.proofs.lemmas.Result.{err_from_is_err_and}
use Rattle.base_rules.specs.Answers.{Answer, within}
use Rattle.base_rules.specs.Shown.{shown}
use Rattle.mbus_rules.specs.declared.Entry.{Entry}
use Rattle.mbus_entries.specs.Walking.{listed}
use Rattle.mbus_entries.proofs.Laws.WalkLaws.{walked_none, Turn, turned, halted, ended_missing, ended_whole}
use Rattle.mbus_entries.proofs.read_entries.Goals.{In_ok-taken}
use Rattle.mbus_entries.proofs.read_entries.Goals as goal

-- a turn that passes over an entry
turn : (c : In_ok-taken)
    → Turn c.args.rest.now
    c.loop-at.at c.loop-at.count
    c.loop-at.marks c.loop-at.entries
    c.in_ok-taken.taken
turn c =
    turned c.loop-at.invariant c.loop-at-test.true c.in_ok-taken.ensures refl

pub loop-at-init : goal.loop-at-init
loop-at-init c = rw c.blank_entry-blank.ensures (walked_none _)

pub offset_bounds-entries-count : goal.offset_bounds-entries-count
offset_bounds-entries-count c = omega (arith, (turn (goal.at.offset_bounds-entries-count c).In_ok-taken).below)

pub bounds-entries-count : goal.bounds-entries-count
bounds-entries-count c = (turn (goal.at.bounds-entries-count c).In_ok-taken).below

pub bounds-marks-taken : goal.bounds-marks-taken
bounds-marks-taken c =
    omega (arith, (turn (goal.at.bounds-marks-taken c).In_ok-taken).few, c.loop-at.invariant.marked)

pub overflow_add-count : goal.overflow_add-count
overflow_add-count c = omega (arith, (turn (goal.at.overflow_add-count c).In_ok-taken).below)

pub overflow_add-at : goal.overflow_add-at
overflow_add-at c = omega (arith, (turn (goal.at.overflow_add-at c).In_ok-taken).narrow)

pub overflow_add-at-in-loop-at : goal.overflow_add-at-in-loop-at
overflow_add-at-in-loop-at c = omega (arith, (turn (goal.at.overflow_add-at-in-loop-at c).In_ok-taken).inside)

pub loop-at-smaller : goal.loop-at-smaller
loop-at-smaller c = omega (arith, (turn (goal.at.loop-at-smaller c).In_ok-taken).inside)

pub loop-at-preserved : goal.loop-at-preserved
loop-at-preserved c =
    (turn (goal.at.loop-at-preserved c).In_ok-taken).next

pub returns-in_err-taken : goal.returns-in_err-taken
returns-in_err-taken c =
    let p = err_from_is_err_and c.from_residual.result c.from_residual.ensures.1 in
    rw (p.1, p.2)
    (ap (λ (a : Answer (List Entry)). shown (within listed a))
    (sym (halted c.loop-at.invariant c.loop-at-test.true c.in_err-taken.ensures refl)))

pub returns-then-any_missing : goal.returns-then-any_missing
returns-then-any_missing c =
    ap (λ (a : Answer (List Entry)). shown (within listed a))
    (sym (ended_missing c.loop-at.invariant c.loop-at-test.false c.any_missing.ensures c.if-any_missing.true))

pub returns : goal.returns
returns c = ended_whole c.loop-at.invariant c.loop-at-test.false c.any_missing.ensures c.if-any_missing.false
