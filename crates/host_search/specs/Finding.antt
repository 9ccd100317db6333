-- Search for C: what it answers, and what it leaves.
use Rattle.std.specs.Prelude.{ℕ, List, [], ◌∷◌}
use Rattle.base_rules.specs.Answers.{Answer}
use Rattle.mbus_search.specs.declared.Spot.{Spot}
use Rattle.mbus_search.specs.Searching.{find_in}
use Rattle.base_numbers.specs.Records.{words_of}
use Rattle.base_lent.specs.Lent.{done, placed, Leaves}

-- The record of a place: two numbers of eight bytes.
abbrev pub spot_bytes : Spot → List ℕ
spot_bytes p = words_of (p.place ∷ p.length ∷ [])

-- 18, then 21
abbrev pub find_for : List ℕ → List ℕ → Answer Spot
find_for capture out = placed 16 out (find_in capture)

-- 0, and place and length in the first places; or 256 plus the refusal number, and all as it was.
abbrev pub Finds : List ℕ → List ℕ → List ℕ → ℕ → Type 0
Finds capture before after r = Leaves done spot_bytes (find_for capture before) before after r
