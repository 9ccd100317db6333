-- `bundle_columns::next` meets its contract: the positions are those of the lists, as many as the count says.
use Prim.Native.Nat.{◌+◌, ◌≤◌}
use mathlib.Core.Path.{sym, ap, ◌∙◌}
use native.Mathlib.Omega.{arith}
use lib.ListN.{length}
use Rattle.std.proofs.Common.{rules}
use Rattle.base_rules.specs.Shown.{shown}
use Rattle.bundle_columns.specs.Lookups.{next_kept}
use Rattle.bundle_columns.proofs.Laws.Looking.{Taken, taken, next_looked}
use Rattle.bundle_columns.proofs.next.Goals.{In_ok-count}
use Rattle.bundle_columns.proofs.next.Goals as goal

-- the count as it was read
counted : (c : In_ok-count) → Taken c.args.columns.now c.in_ok-count.count
counted c = taken c.args.columns.now c.count_in.ensures c.in_ok-count.was

inside : (c : In_ok-count) → 8 + c.in_ok-count.count ≤ length c.args.columns.now
inside c = let t = counted c in omega (arith, t.size, t.few)

pub returns-in_err-count : goal.returns-in_err-count
unfolding next_kept
returns-in_err-count c = search rules

pub overflow_add-count : goal.overflow_add-count
overflow_add-count c = omega (arith, (counted (goal.at.overflow_add-count c).In_ok-count).few)

pub slice_bounds-next_place-end : goal.slice_bounds-next_place-end
slice_bounds-next_place-end c = inside (goal.at.slice_bounds-next_place-end c).In_ok-count

pub returns : goal.returns
returns c =
    let a = c.args in
    c.next_place.ensures ∙ ap shown (sym (next_looked a.columns.now a.position a.from c.in_ok-count.count (counted (goal.at.returns c).In_ok-count)))
