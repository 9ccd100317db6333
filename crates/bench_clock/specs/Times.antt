-- 01, "Characters and the line clock": time is counted in bit times of 1/2400 s, and these limits belong to the line clock.
-- A difference of two times is 0 where the later one comes first, so a time before another is neither late nor due.
use Rattle.std.specs.Prelude.{ℕ, ◌*◌, ◌-◌, Bool, ltb, leb}

-- 13.75 ms, the least gap between a wake-up's end and a command
abbrev pub gap_least : ℕ
gap_least = 33

-- 137.5 ms, the greatest
abbrev pub gap_most : ℕ
gap_most = 330

-- 187.5 ms, the window for a reply
abbrev pub reply_time : ℕ
reply_time = 450

-- 30 min without an instruction
abbrev pub return_time : ℕ
return_time = 4320000

-- 02, 2026-04: 11 bit times per character
abbrev pub line_times : ℕ → ℕ
line_times characters = 11 * characters

-- 01, "The exchange": t is more than 450 after the send
abbrev pub late : ℕ → ℕ → Bool
late sent t = ltb reply_time (t - sent)

-- 01, "The simulated meter": at t it is 4,320,000 or more since the last instruction
abbrev pub due : ℕ → ℕ → Bool
due last t = leb return_time (t - last)

-- 01, refusals 40 and 70: t is earlier than the last step's time
abbrev pub earlier : ℕ → ℕ → Bool
earlier last t = ltb t last
