-- `mbus_writing::bytes::put_entries` meets its contract: the entries so far lie one after the other.
use Prim.Native.Nat.{◌<◌}
use borrow.Author.Rules.{rules}
use native.Mathlib.Omega.{arith}
use lib.Seq.{get_or-take, length-take-le}
use Rattle.mbus_writing.proofs.Laws.Laying.{laying_none, laying_fits, laying_next}
use Rattle.mbus_writing.proofs.bytes.put_entries.Goals as goal

pub loop-entry-init : goal.loop-entry-init
loop-entry-init c = laying_none (search rules) c.requires

pub put_entry-at-requires : goal.put_entry-at-requires
put_entry-at-requires c =
    let g = c.loop-entry.invariant in
    let h : c.loop-entry.entry-index < c.args.count =
    rw (length-take-le c.args.count c.args.entries (omega (arith, g.places, g.fit.few))) at c.loop-entry-test.true in
    rw (get_or-take c.args.count c.args.entries c.loop-entry.entry-index _ h) (laying_fits g h _)

pub loop-entry-preserved : goal.loop-entry-preserved
loop-entry-preserved c =
    let g = c.loop-entry.invariant in
    let h : c.loop-entry.entry-index < c.args.count =
    rw (length-take-le c.args.count c.args.entries (omega (arith, g.places, g.fit.few))) at c.loop-entry-test.true in
    laying_next g h _ (rw (get_or-take c.args.count c.args.entries c.loop-entry.entry-index _ h) at c.put_entry-at.ensures)
