-- `run_picture::drawing::Scene::put_lane` meets its contract: three texts.
use Rattle.run_picture.specs.Pictures.{lane_drawn}
use Rattle.text_filling.proofs.Laws.WritingLaws.{three}
use lib.ListN.{length}
use native.Mathlib.Omega.{arith}
use Prim.Native.Nat.{◌≤◌}
use Rattle.run_picture.proofs.drawing.Scene.put_lane.Goals as goal

pub returns : goal.returns
unfolding lane_drawn
returns c =
    let room : length c.args.out.now ≤ 18446744073709551615 = omega (arith, c.well_formed) in
    three room c.put_lane_open-opened.ensures c.put_rows-drawn.ensures c.put.ensures
