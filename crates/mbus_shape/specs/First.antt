-- 01, "Refusal numbers", 4 to 6, where a line's first bytes are there, and perhaps no others: how many it has.
use Rattle.std.specs.Prelude.{ℕ, ◌+◌, Bool, cond, not, ◌&&◌, ◌||◌, List, length, ◌==◌, nat_lt}
use Rattle.base_rules.specs.Lists.{at}
use Rattle.mbus_rules.specs.Lines.{is_ack, is_short, is_long, wrong_start}

-- 5: the count is 1 after E5, 5 after 10, second byte + 6 after 68.
abbrev pub line_count : List ℕ → ℕ
line_count b = cond (is_ack b) 1 (cond (is_short b) 5 (at b 1 + 6))

-- 6, of the bytes that are there: second and third byte differ, or fourth is not 68 (the long form alone has them)
abbrev pub wrong_lengths_in : List ℕ → Bool
wrong_lengths_in b = is_long b && ((nat_lt 2 (length b) && not (at b 1 == at b 2)) || (nat_lt 3 (length b) && not (at b 3 == 0x68)))

-- the count of a line with these first bytes, or 0 where 4 or 6 refuses every such line
abbrev pub left_by : List ℕ → ℕ
left_by b = cond (wrong_start b || wrong_lengths_in b) 0 (line_count b)
