-- `bundle_adding::inserting::put_in` meets its contract: what the steps leave is the bundle with a row more.
use Prim.Native.Nat.{◌≤◌}
use mathlib.Core.Path.{sym}
use native.Mathlib.Omega.{arith}
use lib.ListN.{length}
use lib.Seq.{length-take-le}
use Rattle.bundle_rows.specs.Rows.{first_offset}
use Rattle.bundle_check.specs.Records.{Recorded}
use Rattle.bundle_adding.specs.Adding.{new_record}
use Rattle.bundle_adding.proofs.Laws.Grown.{old_first}
use Rattle.bundle_adding.proofs.Laws.Opened.{at_held, steps_held}
use Rattle.bundle_adding.proofs.inserting.put_in.Goals.{Start}
use Rattle.bundle_adding.proofs.inserting.put_in.Goals as goal

abbrev row : Start → Recorded
row c = new_record c.args.row.position c.args.row.direction c.args.row.time c.args.body.now

inside : (c : Start) → c.args.filled ≤ length c.args.buffer.now
inside c = omega (arith, c.requires.3)

first : (c : Start) → first_offset c.args.count ≤ c.args.filled
first c = old_first c.args.buffer.now c.args.filled c.args.count (inside c) c.requires.0

pub slice_bounds-old-end-2 : goal.slice_bounds-old-end-2
slice_bounds-old-end-2 c =
    sym (length-take-le c.args.filled c.args.buffer.now (inside (goal.at.slice_bounds-old-end-2 c).Start))

pub open_bodies-requires : goal.open_bodies-requires
open_bodies-requires c =
    let a = c.args in
    let there = c.bodies_end-at.ensures in (
      omega (arith, there),
      omega (arith, there, at_held a.buffer.now a.filled a.count (inside (goal.at.open_bodies-requires c).Start) c.requires.0 (row (goal.at.open_bodies-requires c).Start) a.place c.requires.3),
      c.requires.3,
    )

pub open_contents-requires : goal.open_contents-requires
open_contents-requires c =
    (c.requires.1, c.requires.2, omega (arith, first (goal.at.open_contents-requires c).Start, c.requires.3, c.open_bodies.auto.buffer))

pub returns : goal.returns
returns c =
    let a = c.args in
    rw (c.open_contents.ensures, c.open_bodies.ensures, c.bodies_end-at.ensures)
    (steps_held a.buffer.now a.filled a.count (inside (goal.at.returns c).Start) c.requires.0 (row (goal.at.returns c).Start) a.place c.requires.3)
