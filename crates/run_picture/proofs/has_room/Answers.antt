-- `run_picture::has_room` meets its contract: so much room is always enough, and less is held against what is counted.
use mathlib.Core.Path.{sym}
use native.Mathlib.Omega.{arith}
use borrow.Author.Tests.{le-leb}
use lib.ListN.{length}
use Rattle.run_picture.specs.Pictures.{picture_of}
use Rattle.run_picture.proofs.Laws.Drawn.{picture_drawn, measured}
use Rattle.run_picture.proofs.Laws.Longest.{longest}
use Rattle.run_picture.proofs.has_room.Goals as goal

pub returns-then-room-ge-PICTURE_MOST : goal.returns-then-room-ge-PICTURE_MOST
returns-then-room-ge-PICTURE_MOST c =
    let s = c.args.scene.now in
    let most = longest s.bundle.bytes.now s.bundle.count s.known.bytes s.known.accepted in
    sym (le-leb (length (picture_of s.bundle.bytes.now)) c.args.room (omega (arith, most, c.if-room-ge-PICTURE_MOST.true)))

pub returns : goal.returns
returns c =
    let s = c.args.scene.now in
    let k = s.known in
    let same = picture_drawn s.bundle.bytes.now k.accepted k.judged k.sizes in
    measured s.bundle.bytes.now k.accepted c.args.room k.bytes (rw same at c.put_picture-size.ensures.count)
