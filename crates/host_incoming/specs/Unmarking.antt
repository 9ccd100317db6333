-- "From a serial port" for C: nothing is refused, and two places are lent for the numbers.
use Rattle.std.specs.Prelude.{ℕ, List, ◌≡◌, length}
use Rattle.base_lent.specs.Copying.{laid}
use Rattle.serial_marks.specs.Unmarking.{unmarked_in}

-- 0; the characters in the first places and nothing beyond; how many bytes were used, and how many characters made
pub record UnmarksFor (bytes before after : List ℕ) (used made r : ℕ) : Type 0 where
  pub answer : r ≡ 0
  pub left : after ≡ laid before 0 (unmarked_in (length before) bytes).characters
  pub bytes_used : used ≡ (unmarked_in (length before) bytes).used
  pub characters_made : made ≡ length (unmarked_in (length before) bytes).characters
