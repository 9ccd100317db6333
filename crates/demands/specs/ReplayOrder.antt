-- 02, 2026-04: the refusals of the replay.
-- "In this order: 30 to 37 for the bundle, 34 for a position outside 1–48, 63 fewer than two answers,
-- 64 any of the four volumes over 10^9 ml, 65 either interval not above 0 or over 1,800,000 ms, then 61 and 62."
use Rattle.std.specs.Prelude.{ℕ, ◌+◌, ◌-◌, ◌<◌, ◌≤◌, List, [], ◌∷◌, ◌++◌, ◌⊎◌, ◌≡◌, length, get_or}
use Rattle.bundle_check.specs.Records.{Recorded, records_of}
use Rattle.run_calendar.specs.Days.{milliseconds_at}
use Rattle.run_counting.specs.Counting.{answers_of}
use Rattle.run_replay.specs.Errors.{row_tells, replay_of}
use Rattle.demands.specs.BundleOrder.{OutsidePositions, bundle_table}
use Rattle.demands.specs.Orders.{Table, OrderOf}

-- ---- the answers

-- what stands for one that is not there
abbrev pub no_answer : Recorded
no_answer = record { position = 0; direction = 0; time = 0; body = [] }

-- the first and the last of the answers that count: its volume in millilitres, and its meter time in milliseconds
abbrev pub first_volume : List Recorded → ℕ
first_volume answers = (row_tells (get_or answers 0 no_answer)).volume

abbrev pub last_volume : List Recorded → ℕ
last_volume answers = (row_tells (get_or answers (length answers - 1) no_answer)).volume

abbrev pub first_shown : List Recorded → ℕ
first_shown answers = milliseconds_at (row_tells (get_or answers 0 no_answer)).time

abbrev pub last_shown : List Recorded → ℕ
last_shown answers = milliseconds_at (row_tells (get_or answers (length answers - 1) no_answer)).time

-- 64 any of the four volumes over 10^9 ml; 65 either interval not above 0 or over 1,800,000 ms; 61 the meter's volume falls; 62 the standard's
-- does not rise
abbrev pub behind63 : List Recorded → ℕ → ℕ → ℕ → Table
behind63 answers s1 s2 elapsed =
    (64, (1000000000 < first_volume answers) ⊎ (1000000000 < last_volume answers) ⊎ (1000000000 < s1) ⊎ (1000000000 < s2))
    ∷ (65, (elapsed ≡ 0) ⊎ (1800000 < elapsed) ⊎ (last_shown answers ≤ first_shown answers) ⊎ (first_shown answers + 1800000 < last_shown answers))
    ∷ (61, last_volume answers < first_volume answers)
    ∷ (62, s2 ≤ s1)
    ∷ []

-- 63 fewer than two answers; then the others
abbrev pub answers_table : List Recorded → ℕ → ℕ → ℕ → Table
answers_table answers s1 s2 elapsed = (63, length answers < 2) ∷ behind63 answers s1 s2 elapsed

abbrev pub ReplayOrder : Type 0
ReplayOrder =
    (b : List ℕ) (position s1 s2 elapsed : ℕ)
    → OrderOf (bundle_table b ++ ((34, OutsidePositions position) ∷ answers_table (answers_of position (records_of b)) s1 s2 elapsed))
    (replay_of b position s1 s2 elapsed)
