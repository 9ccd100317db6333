-- "What happened in a run", for C: what drawing a bundle answers there, and what it leaves.
use Rattle.std.specs.Prelude.{ℕ, List, ◌≡◌}
use Rattle.host_bundle.specs.Lent.{Gives}
use Rattle.run_picture.specs.Shown.{drawn_in, picture_stored}

-- Drawing: how many bytes the picture has, and what the places then hold.
pub record DrawsIn (b out : List ℕ) (written r : ℕ) (out' : List ℕ) (written' : ℕ) : Type 0 where
  pub gives : Gives (drawn_in b out) written r written'
  pub holds : out' ≡ picture_stored b out
