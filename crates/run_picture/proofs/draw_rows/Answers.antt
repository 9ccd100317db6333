-- `run_picture::draw_rows` meets its contract: the picture is drawn where there is room for it.
use Rattle.run_picture.proofs.Laws.Drawn.{picture_drawn, left_undrawn, drawn_whole}
use native.Mathlib.Omega.{arith}
use borrow.Author.Rules.{rules}
use Rattle.run_picture.proofs.draw_rows.Goals as goal

pub invariant_of-scene : goal.invariant_of-scene
invariant_of-scene c =
    let plan = c.plan_of-plan.ensures in
    record {
      known =
          record {
            bytes = c.requires.0;
            accepted = c.args.bundle.accepted;
            sizes = plan.page;
            bounded = plan.bounded;
            positions = plan.used;
            places = plan.starts;
            named = c.words_of.ensures;
            ruled = search rules;
            judged = c.requires.1;
          };
    }

pub returns-then-has_room : goal.returns-then-has_room
returns-then-has_room c =
    let b = c.args.bundle.bytes.now in
    let same = picture_drawn b c.args.bundle.accepted c.requires.1 c.plan_of-plan.ensures.page in
    drawn_whole b c.args.bundle.accepted c.args.out.now c.has_room.ensures (omega (arith, c.well_formed)) c.if-has_room.true
    (rw same at c.put_picture.ensures)

pub returns : goal.returns
returns c =
    left_undrawn c.args.bundle.bytes.now c.args.bundle.accepted c.args.out.now c.has_room.ensures c.if-has_room.false
