-- `bundle_columns::row` meets its contract: each way out by the law of that answer.
use mathlib.Core.Path.{sym, ap}
use native.Mathlib.Omega.{arith}
use Rattle.std.proofs.Common.{rules}
use Rattle.base_rules.specs.Shown.{shown}
use Rattle.bundle_columns.specs.Lookups.{row_kept}
use Rattle.bundle_columns.proofs.Laws.Looking.{Taken, taken, row_none, row_reads}
use Rattle.bundle_columns.proofs.row.Goals.{In_ok-count}
use Rattle.bundle_columns.proofs.row.Goals as goal

-- the count as it was read
counted : (c : In_ok-count) → Taken c.args.columns.now c.in_ok-count.count
counted c = taken c.args.columns.now c.count_in.ensures c.in_ok-count.was

pub returns-in_err-count : goal.returns-in_err-count
unfolding row_kept
returns-in_err-count c = search rules

pub returns-then-count-i : goal.returns-then-count-i
returns-then-count-i c =
    ap shown (sym (row_none c.args.columns.now c.args.i c.in_ok-count.count (counted (goal.at.returns-then-count-i c).In_ok-count) c.if-count-i.true))

pub kept_row-requires : goal.kept_row-requires
kept_row-requires c = let t = counted (goal.at.kept_row-requires c).In_ok-count in (t.size, omega (arith, t.few))

pub returns : goal.returns
returns c =
    rw c.kept_row.ensures
    (ap shown (sym (row_reads c.args.columns.now c.args.i c.in_ok-count.count (counted (goal.at.returns c).In_ok-count) c.if-count-i.false)))
