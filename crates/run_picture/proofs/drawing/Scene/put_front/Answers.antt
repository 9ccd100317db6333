-- `run_picture::drawing::Scene::put_front` meets its contract: three texts.
use Rattle.text_filling.proofs.Laws.WritingLaws.{three}
use lib.ListN.{length}
use native.Mathlib.Omega.{arith}
use Prim.Native.Nat.{◌≤◌}
use Rattle.run_picture.proofs.drawing.Scene.put_front.Goals as goal

pub returns : goal.returns
returns c =
    let room : length c.args.out.now ≤ 18446744073709551615 = omega (arith, c.well_formed) in
    three room c.put_marks-marked.ensures c.put_lanes-drawn.ensures c.put.ensures
