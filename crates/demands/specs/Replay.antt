-- 02, "Real-time method, from the record": which answers count, what has no part in them, days and millilitres, and the error.
use Rattle.std.specs.Prelude.{ℕ, ◌+◌, ◌*◌, ◌-◌, ◌/◌, ◌%◌, ◌≤◌, ◌<◌, true, false, List, [], ◌∷◌, ◌++◌, map, ◌≡◌, ℤ, pos, neg_ℤ, ◌+ℤ◌, ◌-ℤ◌, ◌*ℤ◌, get_or}
use Rattle.mbus_rules.specs.declared.Moment.{Moment}
use Rattle.mbus_rules.specs.declared.Request.TheVariants.{Read}
use Rattle.mbus_rules.specs.declared.Outline.TheVariants.{Asks}
use Rattle.base_rules.specs.Answers.{reads, refusal}
use Rattle.base_characters.specs.Characters.{chars}
use Rattle.base_rules.specs.Lists.{any}
use Rattle.base_calendar.specs.Months.{days_in}
use Rattle.mbus_rules.specs.Moments.{moment_of}
use Rattle.mbus_rules.specs.Quantities.{quantity_of, power_of, volume}
use Rattle.bench_clock.specs.Times.{reply_time}
use Rattle.bench_clock.specs.Wakes.{is_wake}
use Rattle.base_numbers.specs.Rounding.{Nearest}
use Rattle.exchange_replies.specs.Fits.{fits}
use Rattle.exchange_steps.specs.Steps.{begun}
use Rattle.bundle_rows.specs.Fields.{wrong_position}
use Rattle.bundle_check.specs.Bundles.{check_of}
use Rattle.bundle_check.specs.Records.{Recorded, records_of}
use Rattle.run_counting.specs.Counting.{is_sent, row_outline, looked, send_end, begins_from, counts, kept_if, looked_at, counted_after, answers_of, numbers_of}
use Rattle.run_counting.specs.Exchanges.{row_clock, told_rows, ends_well_by}
use Rattle.run_calendar.specs.Days.{days_before, interval}
use Rattle.run_replay.specs.Figures.{millilitre_power}
use Rattle.run_replay.specs.Errors.{error_of_figures, error_between, row_tells, last_of, replay_of}

-- ---- which rows count

-- Behind a send, and rows heard since of which none is sent, a row heard counts exactly when the exchange that the read began, told of those
-- rows, ends well by it; the rows in front are counted as they were.
abbrev pub CountsAsTheExchange : Type 0
CountsAsTheExchange =
    (front : List Recorded) (send : Recorded) (address : ℕ) (since : List Recorded) (k : Recorded) (later : List Recorded)
    → is_sent send ≡ true → row_outline send ≡ Asks (Read address) → any is_sent since ≡ false → is_sent k ≡ false
    → counted_after [] ((front ++ (send ∷ since)) ++ (k ∷ later))
    ≡ counted_after [] (front ++ (send ∷ since))
    ++ kept_if (ends_well_by (told_rows (begun (Read address) (row_clock (send_end send))) since) k) k (counted_after (send ∷ (since ++ (k ∷ []))) later)

-- What counts behind a sent row is heard, and answers an accepted read: no row heard since began at or after the end of the send, it begins
-- there or later and at most 450 after, and it is data that fits.
abbrev pub WhatCounts : Type 0
WhatCounts =
    (send : Recorded) (since : List Recorded) (k : Recorded) → counts (send ∷ since) k ≡ true
    → (is_sent k ≡ false)
    × ((address : ℕ)
    × (row_outline send ≡ Asks (Read address))
    × (any (begins_from (send_end send)) since ≡ false)
    × (send_end send ≤ k.time)
    × (k.time ≤ send_end send + reply_time)
    × (fits (Read address) (row_outline k) ≡ true))

-- So an answer that is left over, one that begins before the end of the last send, never counts.
abbrev pub LeftOverNeverCounts : Type 0
LeftOverNeverCounts = (send : Recorded) (since : List Recorded) (k : Recorded) → k.time < send_end send → counts (send ∷ since) k ≡ false

-- And every such row counts, whichever send it replies to.
abbrev pub EverySuchRowCounts : Type 0
EverySuchRowCounts =
    (send : Recorded) (address : ℕ) (since : List Recorded) (k : Recorded)
    → is_sent send ≡ true → row_outline send ≡ Asks (Read address) → is_sent k ≡ false → any (begins_from (send_end send)) since ≡ false
    → send_end send ≤ k.time → k.time ≤ send_end send + reply_time → fits (Read address) (row_outline k) ≡ true → counts (send ∷ since) k ≡ true

-- The numbers that are told are those of the rows that count.
abbrev pub NumbersOfTheAnswers : Type 0
NumbersOfTheAnswers =
    (position : ℕ) (ks : List Recorded)
    → map (λ (i : ℕ). get_or ks i (record { position = 0; direction = 0; time = 0; body = [] })) (numbers_of position ks) ≡ answers_of position ks

-- ---- what has no part in them

-- A row of another position and a wake row, in either direction, are not looked at;
abbrev pub OthersNotLookedAt : Type 0
OthersNotLookedAt =
    (position : ℕ) (k : Recorded) → ((k.position ≡ position → ⊥) → looked position k ≡ false)
    × (is_wake (chars k.body) ≡ true → looked position k ≡ false)

-- and a row that is not looked at changes nothing, wherever it stands.
abbrev pub OthersChangeNothing : Type 0
OthersChangeNothing =
    (position : ℕ) (front : List Recorded) (k : Recorded) (later : List Recorded) → looked position k ≡ false
    → answers_of position (front ++ (k ∷ later)) ≡ answers_of position (front ++ later)

-- Two accepted bundles with the same rows to be looked at have the same replay.
abbrev pub SameRowsSameReplay : Type 0
SameRowsSameReplay =
    (b c : List ℕ) (m n position s1 s2 elapsed : ℕ) → check_of b ≡ reads m → check_of c ≡ reads n
    → looked_at position (records_of b) ≡ looked_at position (records_of c) → replay_of b position s1 s2 elapsed ≡ replay_of c position s1 s2 elapsed

-- ---- days and millilitres

-- The first day is day 0, and the next day is one more: inside a month, from a month's last day to the first of the next, and from the last of
-- December to the first of January.
abbrev pub DaysByTheCalendar : Type 0
DaysByTheCalendar =
    (days_before 0 1 1 ≡ 0)
    × ((year month day : ℕ) → 1 ≤ day → days_before year month (day + 1) ≡ days_before year month day + 1)
    × ((year month : ℕ) → 1 ≤ month → days_before year (month + 1) 1 ≡ days_before year month (days_in (2000 + year) month) + 1)
    × ((year : ℕ) → days_before (year + 1) 1 1 ≡ days_before year 12 31 + 1)

abbrev pub WholeMillilitres : Type 0
WholeMillilitres = (u : ℕ) → u < 256 → quantity_of u ≡ volume → power_of u +ℤ pos 6 ≡ pos (millilitre_power u)

-- ---- the error

-- An accepted bundle and a position in its range with two answers that count or more give the error between the first and the last.
abbrev pub FirstAndLast : Type 0
FirstAndLast =
    (b : List ℕ) (n position s1 s2 elapsed : ℕ) (first second : Recorded) (later : List Recorded)
    → check_of b ≡ reads n → wrong_position position ≡ false → answers_of position (records_of b) ≡ first ∷ (second ∷ later)
    → replay_of b position s1 s2 elapsed ≡ error_between (row_tells first) (row_tells (last_of second later)) s1 s2 elapsed

-- No integer is nearer to the error by C.1 in tenths of a percent, and of two as near it is the one farther from zero.
abbrev pub ErrorIsNearest : Type 0
ErrorIsNearest =
    (v1 v2 s1 s2 elapsed meter : ℕ) (e : ℤ) → error_of_figures v1 v2 s1 s2 elapsed meter ≡ reads e
    → Nearest (pos 1000 *ℤ (pos ((v2 - v1) * elapsed) -ℤ pos ((s2 - s1) * meter))) ((s2 - s1) * meter) e

-- Half a tenth is rounded away from zero, whichever of the four figures makes it; the order of the refusals; the edges of 64 and 65.
abbrev pub ReplayValues : Type 0
ReplayValues =
    (error_of_figures 0 10005 0 10000 1000 1000 ≡ reads (pos 1))
    × (error_of_figures 0 9995 0 10000 1000 1000 ≡ reads (neg_ℤ (pos 1)))
    × (error_of_figures 7 10007 20 10020 2001 2000 ≡ reads (pos 1))
    × (error_of_figures 7 10007 20 10020 2000 2001 ≡ reads (pos 0))
    × (error_of_figures 5 5 0 10000 1000 1000 ≡ reads (neg_ℤ (pos 1000)))
    × (error_of_figures 1000000000 1000000000 0 1000000000 1800000 1800000 ≡ reads (neg_ℤ (pos 1000)))
    × (error_of_figures 1000000001 0 0 0 0 0 ≡ refusal 64)
    × (error_of_figures 1 0 0 0 0 1 ≡ refusal 65)
    × (error_of_figures 1 0 0 0 1 1800001 ≡ refusal 65)
    × (error_of_figures 1 0 0 0 1 1 ≡ refusal 61)
    × (error_of_figures 0 0 5 5 1 1 ≡ refusal 62)

-- Over the last of a month, of February and of a year, a second is a second.
abbrev pub moment : ℕ → ℕ → ℕ → ℕ → ℕ → ℕ → Moment
moment year month day hour minute second = moment_of (second ∷ minute ∷ hour ∷ (32 * (year % 8) + day) ∷ (16 * (year / 8) + month) ∷ 0 ∷ [])

abbrev pub IntervalValues : Type 0
IntervalValues =
    (interval (moment 18 7 23 15 51 28) (moment 18 7 23 15 51 29) ≡ 1000)
    × (interval (moment 23 4 30 23 59 59) (moment 23 5 1 0 0 0) ≡ 1000)
    × (interval (moment 24 2 28 23 59 59) (moment 24 2 29 0 0 0) ≡ 1000)
    × (interval (moment 23 2 28 23 59 59) (moment 23 3 1 0 0 0) ≡ 1000)
    × (interval (moment 98 12 31 23 59 59) (moment 99 1 1 0 0 0) ≡ 1000)
