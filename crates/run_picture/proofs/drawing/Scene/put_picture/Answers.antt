-- `run_picture::drawing::Scene::put_picture` meets its contract: three texts.
use Rattle.run_picture.specs.Pictures.{picture_with}
use Rattle.text_filling.proofs.Laws.WritingLaws.{three}
use lib.ListN.{length}
use native.Mathlib.Omega.{arith}
use Prim.Native.Nat.{◌≤◌}
use Rattle.run_picture.proofs.drawing.Scene.put_picture.Goals as goal

pub returns : goal.returns
unfolding picture_with
returns c =
    let room : length c.args.out.now ≤ 18446744073709551615 = omega (arith, c.well_formed) in
    three room c.put_head-headed.ensures c.put_behind-behind.ensures c.put_front.ensures
