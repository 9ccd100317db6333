-- A text put into lent memory from a place on. What has no room there is left out, and counted all the same.
use Rattle.std.specs.Prelude.{ℕ, ◌+◌, min, List, ◌≡◌, length}
use Rattle.std.proofs.lemmas.List.Edits.{sets}

-- a count of bytes stays at the largest number of 64 bits, which no memory reaches
abbrev pub tallied : ℕ → ℕ
tallied n = min n 18446744073709551615

-- The memory is as it was with the text's bytes stored one by one from a place on, those past its end nowhere (`sets` of the library); the
-- answer is the place behind the text.
pub record PutAt (text before : List ℕ) (at r : ℕ) (after : List ℕ) : Type 0 where
  pub holds : after ≡ sets before at text
  pub count : r ≡ tallied (at + length text)
