-- Laws of `specs/Numbers`.
use Prim.Native.Nat.{ℕ, zero, suc, ◌+◌, ◌*◌}
use mathlib.Core.List.{List, [], ◌∷◌}
use mathlib.Core.Path.{◌≡◌, refl}
use lib.ListN.{get_or, take, drop}
use lib.Seq.{take-nil, drop-nil}
use Rattle.base_numbers.specs.Numbers.{number}
-- a number that fits is read back from its bytes
pub use Rattle.base_numbers.proofs.Laws.ByteNumbers.{length_bytes, number_bytes}

-- the first bytes one by one, those past the end being 0
pub number_at : (k i : ℕ) (s : List ℕ) → number (take (suc k) (drop i s)) ≡ get_or s i 0 + 256 * number (take k (drop (suc i) s))
unfolding number
number_at k i [] = rw (drop-nil i, take-nil k)
number_at k zero (b ∷ s) = refl
number_at k (suc i) (b ∷ s) = number_at k i s
