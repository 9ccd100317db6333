-- `bundle_adding::insert` meets its contract: what the two steps leave is the bundle with a row more.
use Prim.Native.Nat.{◌≤◌}
use native.Mathlib.Omega.{arith}
use Rattle.bundle_rows.specs.Rows.{most_rows, first_offset}
use Rattle.bundle_adding.specs.Adding.{new_record}
use Rattle.bundle_adding.proofs.Laws.Grown.{old_rows, old_first, steps_held}
use Rattle.bundle_adding.proofs.insert.Goals.{Start}
use Rattle.bundle_adding.proofs.insert.Goals as goal

first : (c : Start) → first_offset c.args.count ≤ c.args.filled
first c = old_first c.args.buffer.now c.args.filled c.args.count (omega (arith, c.requires.1)) c.requires.0

rows : (c : Start) → c.args.count ≤ most_rows
rows c = old_rows c.args.buffer.now c.args.filled c.args.count (omega (arith, c.requires.1)) c.requires.0

pub overflow_mul-count : goal.overflow_mul-count
overflow_mul-count c = omega (arith, first (goal.at.overflow_mul-count c).Start)

pub overflow_add-count : goal.overflow_add-count
overflow_add-count c = omega (arith, first (goal.at.overflow_add-count c).Start)

pub move_bodies-requires : goal.move_bodies-requires
move_bodies-requires c = (first (goal.at.move_bodies-requires c).Start, c.requires.1)

pub grow_contents-requires : goal.grow_contents-requires
grow_contents-requires c =
    (rows (goal.at.grow_contents-requires c).Start, omega (arith, first (goal.at.grow_contents-requires c).Start, c.requires.1, c.move_bodies.auto.buffer))

pub returns : goal.returns
returns c =
    let a = c.args in
    rw (c.grow_contents.ensures, c.move_bodies.ensures)
    (steps_held a.buffer.now a.filled a.count (omega (arith, c.requires.1)) c.requires.0
    (new_record a.row.position a.row.direction a.row.time a.body.now) c.requires.1)
