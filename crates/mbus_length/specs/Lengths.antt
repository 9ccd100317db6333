-- 01, "Refusal numbers", 2 to 6, where only a line's first characters are there: how many it has.
use Rattle.std.specs.Prelude.{ℕ, Bool, cond, ◌&&◌, ◌||◌, List, map, ◌≡◌, eqb, ltb, length, take}
use Rattle.base_rules.specs.Lists.{any}
use Rattle.base_characters.specs.Characters.{over, odd, byte_of}
use Rattle.mbus_rules.specs.Lines.{is_long}
use Rattle.mbus_shape.specs.First.{left_by}
use Rattle.mbus_length.specs.declared.HowLong.{HowLong}
use Rattle.mbus_length.specs.declared.HowLong.TheVariants.{Known, NotYet, NoLine}

-- 2 and 3: one of so many first characters, of those that are there, is over 511 or odd
abbrev pub unsound_in : ℕ → List ℕ → Bool
unsound_in n s = any over (take n s) || any odd (take n s)

-- the second byte is still to come
abbrev pub lacks_count : List ℕ → Bool
lacks_count b = is_long b && ltb (length b) 2

-- How many characters the accepted line has that begins with these; not yet known; or no accepted line begins so. Of more characters
-- than the line has, those behind its end change nothing.
abbrev pub length_by : List ℕ → ℕ → HowLong
length_by s n = cond (eqb n 0 || unsound_in n s) NoLine (cond (lacks_count (map byte_of s)) NotYet (Known n))

unfoldable pub line_length : List ℕ → HowLong
line_length s = cond (eqb (length s) 0) NotYet (length_by s (left_by (map byte_of s)))

-- A line and first characters agree: one of them is the beginning of the other.
abbrev pub Agree : List ℕ → List ℕ → Type 0
Agree first line = take (length line) first ≡ take (length first) line
