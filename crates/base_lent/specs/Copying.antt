-- Copying to a place: what is then there.
use Rattle.std.specs.Prelude.{ℕ, ◌+◌, cond, List, ◌++◌, ltb, length, take, drop}

-- a list with another put in from a place on
abbrev pub laid : {A : Type 0} → List A → ℕ → List A → List A
laid d at s = take at d ++ (s ++ drop (length s) (drop at d))

-- the same where it fits, and else nothing changed
abbrev pub copied : {A : Type 0} → List A → ℕ → List A → List A
copied d at s = cond (ltb (length d) (at + length s)) d (laid d at s)
