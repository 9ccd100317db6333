-- 02, 2026-02: range, parity and sum, gathered in a single pass.
use Rattle.std.specs.Prelude.{◌≡◌, ℕ, ◌%◌, false, ltb, List, map, ◌==◌, nat_lt}
use Rattle.base_rules.specs.Lists.{any, total}
use Rattle.base_characters.specs.Characters.{over, odd, byte_of}
use Rattle.base_rules.specs.Answers.{Answer, reads, refuse}
use Rattle.base_rules.specs.Shown.{shown}
use Rattle.base_characters.specs.declared.Gathering.{Gathering}

-- 2 and 3 of all characters: one is over 511, a parity is odd
abbrev pub sound : List ℕ → Answer (Unit {0})
sound s = refuse 2 (any over s) (refuse 3 (any odd s) (reads tt))

-- and with them the sum of the bytes, modulo 256
abbrev pub gathered : List ℕ → Gathering
gathered s = record { outcome = shown (sound s); sum = total (map byte_of s) % 256 }

-- Both tests of characters in one number: it is over 511 where one of them is, and where none is its lowest bit tells an odd parity.
pub record Flagged (s : List ℕ) (flags : ℕ) : Type 0 where
  pub range : ltb 511 flags ≡ any over s
  pub parity : any over s ≡ false → (flags % 2 == 1) ≡ any odd s

-- what such a number tells
abbrev pub sound_by : ℕ → Answer (Unit {0})
sound_by flags = refuse 2 (nat_lt 511 flags) (refuse 3 (flags % 2 == 1) (reads tt))

-- with the sum, modulo 256, of what was added up
abbrev pub gathered_by : ℕ → ℕ → Gathering
gathered_by flags sum = record { outcome = shown (sound_by flags); sum = sum % 256 }

-- What is gathered of a part of the characters: their tests in one number, and their sum.
pub record Parted (s : List ℕ) (flags sum : ℕ) : Type 0 where
  pub flagged : Flagged s flags
  pub summed : sum % 256 ≡ total (map byte_of s) % 256
