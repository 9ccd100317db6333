-- The search: the lowest place in a capture at which an accepted line begins, with the only length that it can have there.
use Rattle.std.specs.Prelude.{ℕ, ◌≤◌, List, ◌≡◌}
use Rattle.base_rules.specs.Answers.{reads, refusal}
use Rattle.mbus_search.specs.declared.Spot.{Spot}
use Rattle.mbus_search.specs.Searching.{Begins, find_in}

-- What is found is an accepted line of the capture,
abbrev pub FoundIsAccepted : Type 0
FoundIsAccepted = (s : List ℕ) (p : Spot) → find_in s ≡ reads p → Begins s p.place p.length

-- and no accepted line begins before it.
abbrev pub FoundIsLowest : Type 0
FoundIsLowest = (s : List ℕ) (p : Spot) (place n : ℕ) → find_in s ≡ reads p → Begins s place n → p.place ≤ place

-- Wherever a line begins, one is found, there or before.
abbrev pub LineIsFound : Type 0
LineIsFound = (s : List ℕ) (place n : ℕ) → Begins s place n → (p : Spot) × (find_in s ≡ reads p) × (p.place ≤ place)

-- Only one length is possible at a place.
abbrev pub OnlyLength : Type 0
OnlyLength = (s : List ℕ) (place m n : ℕ) → Begins s place m → Begins s place n → m ≡ n

-- 18 means that no accepted line begins anywhere.
abbrev pub NoneBegins : Type 0
NoneBegins = (s : List ℕ) (k place n : ℕ) → find_in s ≡ refusal k → Begins s place n → ⊥
