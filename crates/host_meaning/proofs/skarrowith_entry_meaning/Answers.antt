-- `host_meaning::skarrowith_entry_meaning` meets its contract.
use mathlib.Core.Path.{sym, ◌∙◌}
use Rattle.host_meaning.proofs.Laws.MeaningLaws.{in_no_row, no_place, in_place_lem}
use borrow.Author.Tests.{eq-eqb, ne_eqb}
use Rattle.host_meaning.proofs.skarrowith_entry_meaning.Goals as goal

pub returns-then-row-eq-UNKNOWN : goal.returns-then-row-eq-UNKNOWN
returns-then-row-eq-UNKNOWN c =
    rw c.told.ensures
    (in_no_row c.args.unit c.args.meaning.now c.row_of-row.ensures (eq-eqb _ _ c.if-row-eq-UNKNOWN.true))

pub returns-then-store : goal.returns-then-store
returns-then-store c =
    rw c.told-then-store.ensures
    (no_place c.args.unit c.args.meaning.now c.row_of-row.ensures (ne_eqb _ _ c.if-row-eq-UNKNOWN.false)
    c.power_byte-power.ensures c.store.ensures.1
    (sym c.store.ensures.0 ∙ c.if-store.true))

pub returns : goal.returns
returns c =
    in_place_lem c.args.unit c.args.meaning.now c.row_of-row.ensures (ne_eqb _ _ c.if-row-eq-UNKNOWN.false)
    c.power_byte-power.ensures c.store.ensures.1
    (sym c.store.ensures.0 ∙ c.if-store.false)
