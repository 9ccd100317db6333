-- `run_listing::list` meets its contract: what was written is stored, or does not fit.
use mathlib.Core.Path.{sym, ◌∙◌}
use lib.Seq.{length-take-le}
use Rattle.run_listing.proofs.Laws.Shown.{lists_not, lists_all}
use Rattle.run_listing.proofs.list.Goals as goal

pub slice_bounds-store-end : goal.slice_bounds-store-end
slice_bounds-store-end c = sym (length-take-le c.write_listing-size.result c.write_listing-size.new.out c.write_listing-size.ensures.0)

pub returns-then-store : goal.returns-then-store
returns-then-store c =
    let a = c.args in
    lists_not a.bundle.now a.out.now c.write_listing-size.ensures.1 c.write_listing-size.ensures.2 c.store.ensures.1
    (sym c.store.ensures.0 ∙ c.if-store.true)

pub returns : goal.returns
returns c =
    let a = c.args in
    lists_all a.bundle.now a.out.now c.write_listing-size.ensures.1 c.write_listing-size.ensures.2 c.store.ensures.1
    (sym c.store.ensures.0 ∙ c.if-store.false)
