-- 01, "Refusal numbers": line reading returns the lowest that applies, except that 11 to 14 are tried entry by entry.
use Rattle.std.specs.Prelude.{ℕ, ◌+◌, ◌-◌, ◌%◌, Bool, cond, not, ◌&&◌, ◌||◌, List, [], map, ◌≡◌, ltb, leb, eqb, length, take, drop}
use Rattle.mbus_rules.specs.declared.Telegram.{Telegram}
use Rattle.base_rules.specs.Lists.{at, any, total}
use Rattle.base_characters.specs.Characters.{over, odd, byte_of}
use Rattle.base_rules.specs.Answers.{Answer, reads, refuse, within}
use Rattle.mbus_rules.specs.Headers.{header_of, wrong_header}
use Rattle.mbus_rules.specs.Entries.{read_entries}
use Rattle.mbus_rules.specs.Telegrams.{ack, read_of, enter_of, leave_of, data_of}

-- ---- the frame, on bytes

-- the form, by the first byte: E5, 10 or 68
abbrev pub is_ack : List ℕ → Bool
is_ack b = eqb (at b 0) 0xE5

abbrev pub is_short : List ℕ → Bool
is_short b = eqb (at b 0) 0x10

abbrev pub is_long : List ℕ → Bool
is_long b = eqb (at b 0) 0x68

-- 4: first byte not E5, 10 or 68
abbrev pub wrong_start : List ℕ → Bool
wrong_start b = not (is_ack b || is_short b || is_long b)

-- 5: count not 1 after E5, not 5 after 10, under 6 or not second byte + 6 after 68
abbrev pub wrong_count : List ℕ → Bool
wrong_count b =
    cond (is_ack b) (not (eqb (length b) 1))
    (cond (is_short b) (not (eqb (length b) 5))
    (ltb (length b) 6 || not (eqb (length b) (at b 1 + 6))))

-- 6: second and third byte differ, or fourth is not 68 (the long form alone has them)
abbrev pub wrong_lengths : List ℕ → Bool
wrong_lengths b = is_long b && (not (eqb (at b 1) (at b 2)) || not (eqb (at b 3) 0x68))

-- 7: read, enter, leave or data shape does not end in 16
abbrev pub wrong_end : List ℕ → Bool
wrong_end b = not (is_ack b) && not (eqb (at b (length b - 1)) 0x16)

-- the bytes from C up to before CS, which L counts
abbrev pub field : List ℕ → List ℕ
field b = cond (is_long b) (take (length b - 6) (drop 4 b)) (take 2 (drop 1 b))

-- 8: checksum wrong; CS is the sum of the bytes from C up to before CS, modulo 256
abbrev pub wrong_sum : List ℕ → Bool
wrong_sum b = not (is_ack b) && not (eqb (at b (length b - 2)) (total (field b) % 256))

-- ---- the body: the rules 9 to 16

-- L = 4 with C 53, CI 50 and an S above
abbrev pub is_method : ℕ → Bool
is_method s = eqb s 0x90 || eqb s 0x91 || eqb s 0x92

abbrev pub is_command : List ℕ → Bool
is_command f = eqb (length f) 4 && eqb (at f 0) 0x53 && eqb (at f 2) 0x50 && (is_method (at f 3) || eqb (at f 3) 0x00)

-- L ≥ 15 with C 08 and CI 72
abbrev pub is_data : List ℕ → Bool
is_data f = leb 15 (length f) && eqb (at f 0) 0x08 && eqb (at f 2) 0x72

abbrev pub read_short : List ℕ → Answer Telegram
read_short f = refuse 9 (not (eqb (at f 0) 0x5B)) (reads (read_of (at f 1)))

abbrev pub command_of : List ℕ → Telegram
command_of f = cond (eqb (at f 3) 0x00) (leave_of (at f 1)) (enter_of (at f 1) (at f 3))

-- the header, then the entries
abbrev pub read_data : ℕ → List ℕ → Answer Telegram
read_data a d = refuse 10 (wrong_header d) (within (data_of a (header_of d)) (read_entries 0 (drop 12 d) []))

abbrev pub read_long : List ℕ → Answer Telegram
read_long f = cond (is_command f) (reads (command_of f)) (refuse 9 (not (is_data f)) (read_data (at f 1) (drop 3 f)))

unfoldable pub read_body : List ℕ → Answer Telegram
read_body b = cond (is_ack b) (reads ack) (cond (is_short b) (read_short (field b)) (read_long (field b)))

-- ---- the line, with the body rules as a parameter

abbrev pub read_frame : {A : Type 0} → (List ℕ → Answer A) → List ℕ → Answer A
read_frame body b =
    refuse 4 (wrong_start b)
    (refuse 5 (wrong_count b)
    (refuse 6 (wrong_lengths b)
    (refuse 7 (wrong_end b)
    (refuse 8 (wrong_sum b)
    (body b)))))

abbrev pub read_with : {A : Type 0} → (List ℕ → Answer A) → List ℕ → Answer A
read_with body s =
    refuse 1 (eqb (length s) 0)
    (refuse 2 (any over s)
    (refuse 3 (any odd s)
    (read_frame body (map byte_of s))))

-- the whole answer of reading a line
unfoldable pub read_line : List ℕ → Answer Telegram
read_line s = read_with read_body s

-- A line is accepted where reading it gives a telegram.
abbrev pub Accepted : List ℕ → Type 0
Accepted s = (t : Telegram) × (read_line s ≡ reads t)
