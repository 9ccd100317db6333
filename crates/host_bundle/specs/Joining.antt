-- The rows of one position, and two bundles joined, for C: what is answered there, and what is left.
use Rattle.std.specs.Prelude.{ℕ, List, ◌≡◌}
use Rattle.bundle_joining.specs.Choosing.{choosing_of}
use Rattle.bundle_joining.specs.ChoosingShown.{buffer_chosen}
use Rattle.bundle_joining.specs.Joining.{join_of}
use Rattle.bundle_joining.specs.JoinShown.{buffer_joined}
use Rattle.host_bundle.specs.Lent.{Gives}

-- How many bytes the bundle of the position fills, and what the second buffer then holds.
pub record ChoosesIn (b : List ℕ) (position : ℕ) (out : List ℕ) (filled r : ℕ) (out' : List ℕ) (filled' : ℕ) : Type 0 where
  pub gives : Gives (choosing_of b position out) filled r filled'
  pub holds : out' ≡ buffer_chosen (choosing_of b position out) b position out

-- How many bytes the bundle of the rows of both fills, and what the third buffer then holds.
pub record JoinsIn (a b out : List ℕ) (filled r : ℕ) (out' : List ℕ) (filled' : ℕ) : Type 0 where
  pub gives : Gives (join_of a b out) filled r filled'
  pub holds : out' ≡ buffer_joined (join_of a b out) a b out
