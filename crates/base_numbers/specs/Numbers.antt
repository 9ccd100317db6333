-- 01, "The run bundle": all numbers low byte first.
use Rattle.std.specs.Prelude.{ℕ, zero, suc, ◌+◌, ◌*◌, ◌/◌, ◌%◌, ◌^◌, ◌<◌, List, [], ◌∷◌, ◌≡◌, take, drop}

-- the number that the bytes are
unfoldable pub number : List ℕ → ℕ
number [] = 0
number (b ∷ s) = b + 256 * number s

-- a number as so many bytes
unfoldable pub bytes_of : ℕ → ℕ → List ℕ
bytes_of zero n = []
bytes_of (suc k) n = n % 256 ∷ bytes_of k (n / 256)

-- What reading a number of so many bytes from a place on answers: a byte that is missing counts as 0.
pub record Numbered (s : List ℕ) (at width r : ℕ) : Type 0 where
  pub so : r ≡ number (take width (drop at s))
  pub fits : r < 256 ^ width
