-- `bundle_joining::join_rows` meets its contract: written where the rows fit into one bundle and into the buffer.
use native.Mathlib.Omega.{arith}
use Rattle.bundle_check.proofs.Laws.Accepted.{accepted_sound}
use Rattle.bundle_check.proofs.Laws.BodyLaws.{few_rows}
use Rattle.bundle_joining.proofs.Laws.Joining.{both_filled, both_fit}
use Rattle.bundle_joining.proofs.Laws.JoinShown.{join-full, join-done}
use Rattle.bundle_joining.proofs.join_rows.Goals as goal

pub overflow_add-rows : goal.overflow_add-rows
overflow_add-rows c =
    let a = c.args in
    omega (arith, few_rows a.a.bytes.now a.a.count a.a.accepted, few_rows a.b.bytes.now a.b.count a.b.accepted)

pub overflow_add-filled : goal.overflow_add-filled
overflow_add-filled c =
    let a = c.args in
    omega (arith, (accepted_sound a.a.bytes.now a.a.count a.a.accepted).0.fits, (accepted_sound a.b.bytes.now a.b.count a.b.accepted).0.fits)

pub overflow_sub-filled : goal.overflow_sub-filled
overflow_sub-filled c =
    let a = c.args in
    omega (arith, (accepted_sound a.a.bytes.now a.a.count a.a.accepted).0.counted)

pub returns-then-full : goal.returns-then-full
returns-then-full c =
    let a = c.args in
    join-full a.a.bytes.now a.b.bytes.now a.out.now a.a.count a.a.accepted a.b.count a.b.accepted
    (both_filled a.a.bytes.now a.a.count a.b.bytes.now a.b.count a.a.accepted a.b.accepted) c.if-full.true

pub write_rows-requires : goal.write_rows-requires
write_rows-requires c =
    let a = c.args in
    both_fit a.a.bytes.now a.a.count a.b.bytes.now a.b.count a.a.accepted a.b.accepted a.out.now
    (both_filled a.a.bytes.now a.a.count a.b.bytes.now a.b.count a.a.accepted a.b.accepted) c.if-full.false

pub returns : goal.returns
returns c =
    let a = c.args in
    join-done a.a.bytes.now a.b.bytes.now a.out.now a.a.count a.a.accepted a.b.count a.b.accepted
    (both_filled a.a.bytes.now a.a.count a.b.bytes.now a.b.count a.a.accepted a.b.accepted) c.if-full.false c.write_rows.ensures
