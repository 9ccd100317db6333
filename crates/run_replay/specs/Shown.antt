-- 01, "The form to use in each place": the number and values for each case of the answer.
use Rattle.std.specs.Prelude.{ℕ, ◌+◌, ◌-◌, min, List, ℤ, length, get_or}
use Rattle.run_replay.specs.declared.figures.Figures.{Figures}
use Rattle.run_replay.specs.declared.Replayed.{Replayed}
use Rattle.run_replay.specs.Errors.{volume_most}
use Rattle.run_replay.specs.Figures.{Told}

-- A volume as the program holds it: one over 10^9 ml is not computed, and 10^9 + 1 stands for it.
abbrev pub capped_volume : ℕ → ℕ
capped_volume v = min v (volume_most + 1)

abbrev pub shown_told : Told → Figures
shown_told told = record { volume = capped_volume told.volume; time = told.time }

-- the first and the last of some row numbers
abbrev pub first_number : List ℕ → ℕ
first_number numbers = get_or numbers 0 0

abbrev pub last_number : List ℕ → ℕ
last_number numbers = get_or numbers (length numbers - 1) 0

-- the first and last rows that count, and the error
abbrev pub replay_with : List ℕ → ℤ → Replayed
replay_with numbers e = record { first = first_number numbers; last = last_number numbers; tenths = e }
