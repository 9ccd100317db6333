-- `run_listing::lines::put_rows` meets its contract: the loop writes the lines one behind the other.
use Rattle.run_listing.proofs.Laws.LineLaws.{Lined}
use Prim.Native.Nat.{◌-◌}
use Rattle.bundle_check.specs.Bundles.{contents_of}
use Rattle.run_listing.proofs.lines.put_rows.Given as goal

abbrev pub invariant-loop-i : goal.invariant-loop-i
invariant-loop-i l = Lined l.bundle.bytes.now (contents_of l.bundle.bytes.now) l.at l.initial.out l.i l.next l.out

abbrev pub decreases-loop-i : goal.decreases-loop-i
decreases-loop-i l = l.bundle.count - l.i
