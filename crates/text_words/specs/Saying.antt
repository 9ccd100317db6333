-- Words in places that are lent, and the number that answers.
use Rattle.std.specs.Prelude.{ℕ, ◌+◌, List, [], ◌∷◌, ◌++◌, ◌≡◌, ltb, length, drop}
use Rattle.base_rules.specs.Answers.{Answer, reads, refusal, refuse, follow}

-- the words as they are written: a zero byte ends them, as C ends a text
abbrev pub zero_ended : List ℕ → List ℕ
zero_ended words = words ++ (0 ∷ [])

-- 21: fewer places than the words and their zero byte; else the words
abbrev pub fitted : List ℕ → List ℕ → Answer (List ℕ)
fitted out words = refuse 21 (ltb (length out) (length (zero_ended words))) (reads words)

-- the answer in C: how many bytes the words have, the zero byte not counted, or 256 plus the refusal number
abbrev pub number_of : Answer (List ℕ) → ℕ
number_of (reads words) = length words
number_of (refusal n) = 256 + n

-- what the places then hold: the words and their zero byte in the first ones and nothing beyond; after a refusal, what they held
abbrev pub held : List ℕ → Answer (List ℕ) → List ℕ
held out (reads words) = zero_ended words ++ drop (length (zero_ended words)) out
held out (refusal n) = out

-- The answer for words, or a refusal, and places, and what they then hold.
pub record Says (said : Answer (List ℕ)) (out : List ℕ) (r : ℕ) (after : List ℕ) : Type 0 where
  pub answer : r ≡ number_of (follow said (fitted out))
  pub holds : after ≡ held out (follow said (fitted out))
