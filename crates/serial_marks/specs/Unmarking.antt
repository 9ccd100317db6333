-- termios(3), PARMRK, from the program's side: the characters that marked bytes are.
use Rattle.std.specs.Prelude.{Option, Some, None, ℕ, zero, suc, ◌+◌, cond, List, [], ◌∷◌, ◌≡◌, eqb, length, drop}
use Rattle.base_characters.specs.Characters.{carrier}
use Rattle.base_lent.specs.Copying.{laid}
use Rattle.serial_marks.specs.Marks.{wronged}
use Rattle.serial_marks.specs.declared.Whole.{Whole}
use Rattle.serial_marks.specs.declared.Unmarked.{Unmarked}

-- a whole character, and how many bytes it is; none is no more than the beginning of a mark
abbrev pub whole : ℕ → ℕ → Whole
whole n c = record { size = n; character = c }

-- Behind \377 \0: the byte that came with wrong parity, or a break, which reads as \377 \0 \0.
abbrev pub after_zero : List ℕ → Option Whole
after_zero [] = None
after_zero (b ∷ s) = Some (whole 3 (wronged b))

-- Behind \377: another is a valid byte \377, \0 goes on with the mark. Before any other byte \377 is no mark and no valid byte
-- (docs/DECISIONS.md, "From a serial port"): it stands by itself, with wrong parity.
abbrev pub after_mark : List ℕ → Option Whole
after_mark [] = None
after_mark (b ∷ s) = cond (eqb b 0xFF) (Some (whole 2 (carrier 0xFF))) (cond (eqb b 0x00) (after_zero s) (Some (whole 1 (wronged 0xFF))))

-- What stands first: a mark begins by \377, and every other byte came with right parity.
abbrev pub first : List ℕ → Option Whole
first [] = None
first (b ∷ s) = cond (eqb b 0xFF) (after_mark s) (Some (whole 1 (carrier b)))

-- What is made of bytes: the characters, and how many bytes were used for them.
pub record Unmarking : Type 0 where
  pub used : ℕ
  pub characters : List ℕ

-- One character and what is made of the bytes behind it; an unfinished mark is left for the next call.
abbrev pub and_then : Option Whole → (ℕ → Unmarking) → Unmarking
and_then None rest = record { used = 0; characters = [] }
and_then (Some w) rest = record { used = w.size + (rest w.size).used; characters = w.character ∷ (rest w.size).characters }

-- What is made of bytes in so many places: character by character, never more than there is room for.
unfoldable pub unmarked_in : ℕ → List ℕ → Unmarking
unmarked_in zero s = record { used = 0; characters = [] }
unmarked_in (suc room) s = and_then (first s) (λ size. unmarked_in room (drop size s))

-- the code's answer for it
abbrev pub unmarked_shown : Unmarking → Unmarked
unmarked_shown u = record { used = u.used; made = length u.characters }

-- What unmarking promises: the numbers, and the characters in the first places and nothing beyond.
pub record Unmarks (bytes before after : List ℕ) (r : Unmarked) : Type 0 where
  pub answer : r ≡ unmarked_shown (unmarked_in (length before) bytes)
  pub left : after ≡ laid before 0 (unmarked_in (length before) bytes).characters
