-- `bundle_salvage::salvage_rows` meets its contract: each way out by the law of that answer.
use Prim.Native.Nat.{◌≤◌}
use native.Mathlib.Omega.{arith}
use lib.ListN.{length}
use Rattle.bundle_rows.specs.Rows.{most_rows, first_offset}
use Rattle.bundle_check.specs.Bundles.{most_bytes}
use Rattle.bundle_salvage.proofs.Laws.Answers.{contents_whole, count_is, kept_few, kept_in_place, end_is, end_inside, salvage_short, salvage_done}
use borrow.Author.Tests.{le-ltb, lt-ltb}
use Rattle.bundle_salvage.proofs.salvage_rows.Goals.{After-leading_rows-found}
use Rattle.bundle_salvage.proofs.salvage_rows.Goals as goal

-- how many rows are kept, and where their bodies end
bounds : (c : After-leading_rows-found) → (c.args.count ≤ most_rows) × ((length c.args.damaged.now ≤ most_bytes) × ((c.leading_rows-found.result.kept ≤ c.args.count)
    × ((first_offset c.args.count ≤ c.leading_rows-found.result.end) × (c.leading_rows-found.result.end ≤ length c.args.damaged.now))))
bounds c =
    let b = c.args.damaged.now in
    let f = c.leading_rows-found.ensures in
    let w = contents_whole b c.args.count c.requires in
    (w.few, (w.fits, (kept_few b c.args.count c.requires f, end_inside b c.args.count c.requires f)))

pub leading_rows-found-requires : goal.leading_rows-found-requires
leading_rows-found-requires c = contents_whole c.args.damaged.now c.args.count c.requires

pub overflow_mul-filled : goal.overflow_mul-filled
overflow_mul-filled c = omega (arith, bounds (goal.at.overflow_mul-filled c).After-leading_rows-found)

pub overflow_add-filled : goal.overflow_add-filled
overflow_add-filled c = omega (arith, bounds (goal.at.overflow_add-filled c).After-leading_rows-found)

pub overflow_mul-filled-2 : goal.overflow_mul-filled-2
overflow_mul-filled-2 c = omega (arith, bounds (goal.at.overflow_mul-filled-2 c).After-leading_rows-found)

pub overflow_add-filled-2 : goal.overflow_add-filled-2
overflow_add-filled-2 c = omega (arith, bounds (goal.at.overflow_add-filled-2 c).After-leading_rows-found)

pub overflow_sub-filled : goal.overflow_sub-filled
overflow_sub-filled c = omega (arith, bounds (goal.at.overflow_sub-filled c).After-leading_rows-found)

pub overflow_add-filled-3 : goal.overflow_add-filled-3
overflow_add-filled-3 c = omega (arith, bounds (goal.at.overflow_add-filled-3 c).After-leading_rows-found)

pub returns-then-out-filled : goal.returns-then-out-filled
returns-then-out-filled c =
    salvage_short c.args.damaged.now c.args.count c.requires c.leading_rows-found.ensures c.args.out.now (lt-ltb _ _ c.if-out-filled.true)

pub overflow_sub-dropped : goal.overflow_sub-dropped
overflow_sub-dropped c =
    kept_few c.args.damaged.now c.args.count c.requires
    c.leading_rows-found.ensures

pub write-requires : goal.write-requires
write-requires c =
    let b = c.args.damaged.now in
    let f = c.leading_rows-found.ensures in (
      kept_in_place b c.args.count c.requires f,
      count_is b c.args.count c.requires,
      end_is b c.args.count c.requires f,
      c.if-out-filled.false,
    )

pub returns : goal.returns
returns c =
    salvage_done c.args.damaged.now c.args.count c.requires c.leading_rows-found.ensures c.args.out.now
    (le-ltb _ _ c.if-out-filled.false)
    c.rule_told-rule.ensures c.write.ensures
