-- Numbers as eight bytes each, and a record: bytes, numbers and bytes, one behind the other.
use Rattle.std.specs.Prelude.{ℕ, List, ◌++◌}
use Rattle.base_lent.specs.Pieces.{pieces}
use Rattle.base_numbers.specs.Numbers.{bytes_of}

abbrev pub words_of : List ℕ → List ℕ
words_of words = pieces (bytes_of 8) words

abbrev pub record_of : List ℕ → List ℕ → List ℕ → List ℕ
record_of head words tail = head ++ (words_of words ++ tail)
