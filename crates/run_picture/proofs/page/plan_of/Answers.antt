-- `run_picture::page::plan_of` meets its contract: the walks are put together.
use Rattle.bundle_check.specs.Records.{records_of}
use Rattle.run_picture.specs.Pages.{page_of}
use Rattle.run_counting.proofs.Laws.Walking.{length_records}
use native.Mathlib.Omega.{arith}
use Rattle.run_picture.proofs.page.plan_of.Goals as goal

pub page_for-page-requires : goal.page_for-page-requires
page_for-page-requires c =
    (c.used_positions-lanes.ensures.1, omega (arith, c.saturating_sub-end.ensures, c.paces_of-last.ensures.1.busy))

pub returns : goal.returns
unfolding page_of
returns c =
    let ks = records_of c.args.bundle.bytes.now in
    let size = length_records c.args.bundle.bytes.now c.args.bundle.count c.args.bundle.accepted in
    let used = c.used_in-used.ensures in
    let lanes = c.used_positions-lanes.ensures.0 ks used in
    let paces = c.paces_of-last.ensures in
    let page = c.page_for-page.ensures in
    record {
      page = rw (size, ← lanes, ← paces.0, ← c.saturating_sub-end.ensures) page.0;
      bounded = page.1;
      used = used;
      starts = paces.2;
    }
