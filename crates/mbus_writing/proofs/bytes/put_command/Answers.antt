-- `mbus_writing::bytes::put_command` meets its contract: a frame that was begun is closed.
use Prim.Native.Nat.{ℕ}
use mathlib.Core.List.{List, [], ◌∷◌}
use mathlib.Core.Path.{refl}
use native.Mathlib.Omega.{arith}
use Rattle.mbus_writing.proofs.Laws.Laying.{frame_laid, front_laid}
use Rattle.mbus_writing.proofs.bytes.put_command.Goals as goal

pub returns : goal.returns
returns c =
    let a = c.args in
    let s : List ℕ = 0x68 ∷ 4 ∷ 4 ∷ 0x68 ∷ 0x53 ∷ a.address ∷ 0x50 ∷ a.method ∷ [] in
    frame_laid s c.close.ensures (front_laid a.bytes.now s (omega (
      arith,
      c.requires,
    )) c.lay.ensures) refl
