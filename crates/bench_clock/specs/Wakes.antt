-- 01, "Refusal numbers", 52 and 21: a wake-up, told and written. Its bytes are 000's, section 5.2.
use Rattle.std.specs.Prelude.{ℕ, Bool, not, ◌||◌, ◌&&◌, List, ltb, eqb, length, replicate}
use Rattle.base_rules.specs.Lists.{any}
use Rattle.base_rules.specs.Answers.{Answer, reads, refuse}

-- the count of characters in a wake-up is 459–502
abbrev pub wake_least : ℕ
wake_least = 459

abbrev pub wake_most : ℕ
wake_most = 502

-- every character of it is 55, and the parity bit of 55 is 0
abbrev pub wake_character : ℕ
wake_character = 0x055

-- a count outside 459–502
abbrev pub outside_wake : ℕ → Bool
outside_wake count = ltb count wake_least || ltb wake_most count

-- 01, "The run bundle", its last paragraph: wake is 459–502 characters, all 55 with parity 0
abbrev pub no_wake : ℕ → Bool
no_wake c = not (eqb c wake_character)

unfoldable pub is_wake : List ℕ → Bool
is_wake line = not (outside_wake (length line)) && not (any no_wake line)

-- so many characters
abbrev pub wake_line : ℕ → List ℕ
wake_line count = replicate count wake_character

-- 52: the count is outside 459–502; then 21: there are fewer places than characters; else so many are written
abbrev pub wake_of : ℕ → List ℕ → Answer ℕ
wake_of count out = refuse 52 (outside_wake count) (refuse 21 (ltb (length out) count) (reads count))
