-- 02, 2026-04: the error by formula C.1 of 000, from the first and last answers that count.
use Rattle.std.specs.Prelude.{ℕ, ◌*◌, ◌-◌, Bool, ◌||◌, List, [], ◌∷◌, ltb, leb, eqb, ℤ}
use Rattle.base_rules.specs.Answers.{Answer, reads, refusal, refuse, follow}
use Rattle.base_characters.specs.Characters.{chars}
use Rattle.bench_indication.specs.Errors.{tenths}
use Rattle.bundle_rows.specs.Fields.{wrong_position}
use Rattle.bundle_check.specs.Bundles.{check_of}
use Rattle.bundle_check.specs.Records.{Recorded, records_of}
use Rattle.run_calendar.specs.Days.{interval}
use Rattle.run_counting.specs.Counting.{answers_of}
use Rattle.run_replay.specs.Figures.{Told, line_tells}

-- 64: any of the four volumes over 10^9 ml
abbrev pub volume_most : ℕ
volume_most = 1000000000

abbrev pub volume_over : ℕ → ℕ → ℕ → ℕ → Bool
volume_over v1 v2 s1 s2 = ltb volume_most v1 || ltb volume_most v2 || ltb volume_most s1 || ltb volume_most s2

-- 65: an interval not above 0 or over 1,800,000 ms
abbrev pub interval_most : ℕ
interval_most = 1800000

abbrev pub wrong_interval : ℕ → Bool
wrong_interval t = eqb t 0 || ltb interval_most t

-- Formula C.1: the meter's rise times the standard's interval, against the standard's rise times the meter's interval, in tenths of a
-- percent, rounded as the error of indication is. Past 61 and 62 the rises are naturals.
abbrev pub error_by_c1 : ℕ → ℕ → ℕ → ℕ → ℕ → ℕ → ℤ
error_by_c1 v1 v2 s1 s2 elapsed meter = tenths ((v2 - v1) * elapsed) ((s2 - s1) * meter)

-- 64, 65, then 61 the meter's volume falls, and 62 the standard's does not rise
unfoldable pub error_of_figures : ℕ → ℕ → ℕ → ℕ → ℕ → ℕ → Answer ℤ
error_of_figures v1 v2 s1 s2 elapsed meter =
    refuse 64 (volume_over v1 v2 s1 s2)
    (refuse 65 (wrong_interval elapsed || wrong_interval meter)
    (refuse 61 (ltb v2 v1)
    (refuse 62 (leb s2 s1)
    (reads (error_by_c1 v1 v2 s1 s2 elapsed meter)))))

-- of two answers, the meter's interval being the difference of their times
abbrev pub error_between : Told → Told → ℕ → ℕ → ℕ → Answer ℤ
error_between first last s1 s2 elapsed = error_of_figures first.volume last.volume s1 s2 elapsed (interval first.time last.time)

-- what a row tells, and the last of some rows
abbrev pub row_tells : Recorded → Told
row_tells k = line_tells (chars k.body)

abbrev pub last_of : {A : Type 0} → A → List A → A
last_of x [] = x
last_of x (y ∷ l) = last_of y l

-- Take the first and last answers that count; 63: fewer than two.
abbrev pub error_from : List Recorded → ℕ → ℕ → ℕ → Answer ℤ
error_from [] s1 s2 elapsed = refusal 63
error_from (only ∷ []) s1 s2 elapsed = refusal 63
error_from (first ∷ (second ∷ later)) s1 s2 elapsed = error_between (row_tells first) (row_tells (last_of second later)) s1 s2 elapsed

-- Replay a bundle for one position: 30 to 37 for the bundle, 34 for a position outside 1–48, 63, 64, 65, 61, 62.
unfoldable pub replay_of : List ℕ → ℕ → ℕ → ℕ → ℕ → Answer ℤ
replay_of b position s1 s2 elapsed =
    follow (check_of b) (λ n. refuse 34 (wrong_position position) (error_from (answers_of position (records_of b)) s1 s2 elapsed))
