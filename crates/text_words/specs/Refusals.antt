-- 01, "Refusal numbers" and "The run bundle", and 02: the words for each number, and for the two of the library's own.
use Rattle.std.specs.Prelude.{ℕ, ◌-◌, cond, List, [], ◌∷◌, eqb, ltb}
use Prim.Native.String.{String}
use Rattle.base_rules.specs.Answers.{Answer, reads, refusal}
use Rattle.text_filling.specs.Texts.{text}

-- a number and its words
pub record Row : Type 0 where
  pub number : ℕ
  pub words : String

abbrev row : ℕ → String → Row
row n s = record { number = n; words = s }

-- 01's words and 02's in the order of the numbers, and the library's own. Where 01 joins numbers in one row, the words that they share are said again;
-- ≥ and – are written in ASCII; those of the run bundle and of CJ/T 188 are told by its name; 21 is said of every output, a record's too.
abbrev pub refusal_texts : List Row
refusal_texts =
    row 1 "the line is empty"
    ∷ row 2 "a character is over 511"
    ∷ row 3 "a parity is odd"
    ∷ row 4 "first byte not E5, 10 or 68"
    ∷ row 5 "count not 1 after E5, not 5 after 10, under 6 or not second byte + 6 after 68"
    ∷ row 6 "second and third byte differ, or fourth is not 68"
    ∷ row 7 "read, enter, leave or data shape does not end in 16"
    ∷ row 8 "checksum wrong"
    ∷ row 9 "short form: C not 5B. Long form: neither L = 4 with C 53, CI 50 and an S above, nor L >= 15 with C 08 and CI 72"
    ∷ row 10 "header rule broken"
    ∷ row 11 "one byte left, unknown structure or unit, wrong pair, or value past the end"
    ∷ row 12 "a BCD digit over 9 in an entry, or a negative value where none is allowed"
    ∷ row 13 "time rule broken"
    ∷ row 14 "quantity already seen"
    ∷ row 16 "a required quantity missing"
    ∷ row 17 "host form only, before 1: odd number of bytes"
    ∷ row 18 "search: no accepted line begins anywhere"
    ∷ row 20 "writer: no accepted line reads as this telegram"
    ∷ row 21 "output: fewer places, or bytes of a record, than needed"
    ∷ row 30 "bundle: too long"
    ∷ row 31 "bundle: under two bytes"
    ∷ row 32 "bundle: count over 512"
    ∷ row 33 "bundle: contents cut"
    ∷ row 34 "bundle: a position, direction or length out of its range, or a time below the row before"
    ∷ row 35 "bundle: an offset wrong or a body past the end"
    ∷ row 36 "bundle: bytes left over"
    ∷ row 37 "bundle: a character over 511"
    ∷ row 38 "bundle: adding: 512 rows, or the new bundle exceeds the buffer or 65,536"
    ∷ row 39 "bundle: no such row"
    ∷ row 40 "exchange: time earlier than the last step's"
    ∷ row 41 "exchange: step not called for in this state"
    ∷ row 42 "start with ack or data"
    ∷ row 43 "a different request at a resend"
    ∷ row 50 "command begins less than 33 after the wake-up's end, or before it"
    ∷ row 51 "command begins more than 330 after the wake-up's end"
    ∷ row 52 "wake-up count outside 459-502"
    ∷ row 60 "a count over 10^12"
    ∷ row 61 "meter count falls"
    ∷ row 62 "standard's count does not rise"
    ∷ row 63 "replay: fewer than two answers"
    ∷ row 64 "replay: any of the four volumes over 10^9 ml"
    ∷ row 65 "replay: either interval not above 0 or over 1,800,000 ms"
    ∷ row 70 "meter: time goes back"
    ∷ row 71 "meter: a total would pass 99,999,999"
    ∷ row 72 "meter: set up with data the writer refuses, or energy or volume not in structure 0C"
    ∷ row 80 "CJ/T 188: frame shape, or length not 03 or 2E"
    ∷ row 81 "CJ/T 188: sum"
    ∷ row 82 "CJ/T 188: type or address, AA with 2E included"
    ∷ row 83 "CJ/T 188: data mark, or control not that length's"
    ∷ row 84 "CJ/T 188: digits or clock"
    ∷ row 85 "CJ/T 188: unit"
    ∷ row 86 "CJ/T 188: conversion not exact"
    ∷ row 90 "temperature over 20,000 hundredths"
    ∷ row 91 "resistance below the first or above the last"
    ∷ row 100 "no words for this number"
    ∷ row 101 "no record: another size, kind or sort, a byte that must be 0, or a state to which no steps lead"
    ∷ []

-- the words that a table has for a number; 100: it has none
unfoldable pub words_in : List Row → ℕ → Answer (List ℕ)
words_in [] n = refusal 100
words_in (r ∷ rows) n = cond (eqb n r.number) (reads (text r.words)) (words_in rows n)

unfoldable pub text_of : ℕ → Answer (List ℕ)
text_of n = words_in refusal_texts n

-- the number that is meant: 8, or as it was answered, 256 + 8
abbrev pub number_asked : ℕ → ℕ
number_asked number = cond (ltb number 256) number (number - 256)
