-- 01, "Refusal numbers": search answers the lowest place in a capture at which an accepted line begins, with its length; 18 where none
-- begins anywhere.
use Rattle.std.specs.Prelude.{◌≡◌, ℕ, zero, suc, ◌+◌, ◌≤◌, Bool, true, false, cond, List, [], ◌∷◌, length, take, drop}
use Rattle.base_rules.specs.Answers.{Answer, reads, refusal}
use Rattle.mbus_rules.specs.Lines.{read_line}
use Rattle.mbus_search.specs.declared.Spot.{Spot}

-- reading accepts
abbrev pub accepts : {A : Type 0} → Answer A → Bool
accepts (refusal n) = false
accepts (reads a) = true

-- an accepted line begins at the place, with the length
abbrev pub Begins : List ℕ → ℕ → ℕ → Type 0
Begins s place n = (n ≤ length (drop place s)) × (accepts (read_line (take n (drop place s))) ≡ true)

-- the first of the lengths from n on, as many as told, at which the capture's beginning is an accepted line
unfoldable pub length_from : ℕ → ℕ → List ℕ → Answer ℕ
length_from zero n s = refusal 18
length_from (suc k) n s = cond (accepts (read_line (take n s))) (reads n) (length_from k (n + 1) s)

-- the length of the accepted line that the capture begins with
abbrev pub length_here : List ℕ → Answer ℕ
length_here s = length_from (length s) 1 s

-- where a line was found
abbrev pub spot_at : ℕ → ℕ → Spot
spot_at place n = record { place = place; length = n }

-- one place further on
abbrev pub further : Answer Spot → Answer Spot
further (refusal n) = refusal n
further (reads p) = reads (record { place = p.place + 1; length = p.length })

-- a line that begins here comes first
abbrev pub or_else : Answer ℕ → Answer Spot → Answer Spot
or_else (refusal n) others = others
or_else (reads n) others = reads (record { place = 0; length = n })

-- the lowest place at which an accepted line begins
unfoldable pub find_in : List ℕ → Answer Spot
find_in [] = refusal 18
find_in (c ∷ s) = or_else (length_here (c ∷ s)) (further (find_in s))

-- the spot as seen from so many places before
abbrev pub moved_by : ℕ → Answer Spot → Answer Spot
moved_by k (refusal n) = refusal n
moved_by k (reads p) = reads (record { place = k + p.place; length = p.length })
