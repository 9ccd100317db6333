-- 02, 2026-03: the weekday is kept in the point in time, read and written, and not compared with the date.
use Rattle.std.specs.Prelude.{ℕ, ◌+◌, ◌*◌, ◌<◌, false, List, [], ◌∷◌, map, ◌≡◌, length, get_or, set}
use Rattle.mbus_rules.specs.declared.Kind.TheVariants.{Data}
use Rattle.mbus_rules.specs.declared.Moment.{Moment}
use Rattle.mbus_rules.specs.declared.Value.TheVariants.{Time}
use Rattle.mbus_rules.specs.declared.Entry.{Entry}
use Rattle.mbus_rules.specs.declared.Telegram.{Telegram}
use Rattle.base_characters.specs.Characters.{carrier}
use Rattle.base_rules.specs.Answers.{reads}
use Rattle.mbus_rules.specs.Moments.{moment_of, wrong_moment}
use Rattle.mbus_rules.specs.Telegrams.{data_of}
use Rattle.mbus_rules.specs.Lines.{read_line}
use Rattle.mbus_rules.specs.Writing.{wrong_value, wrong_for, entries_of}
use Rattle.mbus_rules.specs.FourFlips.{data_bytes}
use Rattle.demands.specs.Values.{Hold, example_header, example_entries}

-- ---- reading

-- the same point in time on another weekday
abbrev pub on_weekday : ℕ → Moment → Moment
on_weekday d m = record {
  year = m.year;
  month = m.month;
  day = m.day;
  hour = m.hour;
  minute = m.minute;
  second = m.second;
  weekday = d;
}

-- Refusal 13 does not cover bits 5–7 of the third byte, whatever the date is.
abbrev pub NotAskedBy13 : Type 0
NotAskedBy13 =
    (d b₁ b₂ hour b₄ b₅ b₆ : ℕ)
    → wrong_moment (b₁ ∷ b₂ ∷ (32 * d + hour) ∷ b₄ ∷ b₅ ∷ b₆ ∷ []) ≡ wrong_moment (b₁ ∷ b₂ ∷ hour ∷ b₄ ∷ b₅ ∷ b₆ ∷ [])

-- They are the weekday, and nothing else of the point in time depends on them.
abbrev pub BitsAreWeekday : Type 0
BitsAreWeekday =
    (d b₁ b₂ hour b₄ b₅ b₆ : ℕ) → hour < 32
    → moment_of (b₁ ∷ b₂ ∷ (32 * d + hour) ∷ b₄ ∷ b₅ ∷ b₆ ∷ []) ≡ on_weekday d (moment_of (b₁ ∷ b₂ ∷ hour ∷ b₄ ∷ b₅ ∷ b₆ ∷ []))

-- ---- writing

-- A point in time that can be written can be written on each weekday, 0 for not said among them.
abbrev pub AnyWeekdayWritten : Type 0
AnyWeekdayWritten =
    (st unit d : ℕ) (m : Moment) → d < 8 → wrong_value st unit (Time m) ≡ false
    → wrong_value st unit (Time (on_weekday d m)) ≡ false

-- A data telegram with a weekday over 7 is 20: each point in time of one that can be written has a weekday of 0 to 7.
abbrev pub WeekdaysWritten : Type 0
WeekdaysWritten =
    (t : Telegram) (e : Entry) (i : ℕ) (m : Moment) → wrong_for Data t ≡ false → i < length (entries_of t)
    → (get_or (entries_of t) i e).value ≡ Time m → m.weekday < 8

-- ---- 000's data example on each weekday, the sum by hand; 2018-07-23 was a Monday, so that all but two of them contradict the date

-- its line with another third byte of the time, and another sum
abbrev pub example_line : ℕ → ℕ → List ℕ
example_line third sum = map carrier (set (set data_bytes 57 third) 61 sum)

-- what is read of it, by its weekday
abbrev pub example_on : ℕ → Telegram
example_on weekday = data_of 0 (example_header 3 0) (example_entries weekday)

abbrev pub eight_weekdays : List (Type 0)
eight_weekdays =
    (read_line (example_line 0x0F 0x02) ≡ reads (example_on 0))
    ∷ (read_line (example_line 0x2F 0x22) ≡ reads (example_on 1))
    ∷ (read_line (example_line 0x4F 0x42) ≡ reads (example_on 2))
    ∷ (read_line (example_line 0x6F 0x62) ≡ reads (example_on 3))
    ∷ (read_line (example_line 0x8F 0x82) ≡ reads (example_on 4))
    ∷ (read_line (example_line 0xAF 0xA2) ≡ reads (example_on 5))
    ∷ (read_line (example_line 0xCF 0xC2) ≡ reads (example_on 6))
    ∷ (read_line (example_line 0xEF 0xE2) ≡ reads (example_on 7))
    ∷ []

abbrev pub WeekdaysRead : Type 0
WeekdaysRead = Hold eight_weekdays
