-- 02, 2026-14: what is asked of the line and of the times.
use Rattle.std.specs.Prelude.{ℕ, ◌≤◌, List, [], ◌∷◌, length}
use Rattle.base_characters.specs.Flips.{Place, Places}
use Rattle.both_ends.specs.Line.{Ends, Between, Happening, reaches_meter, lost_to_meter, reaches_bench, lost_to_bench, ticks, send_ends, measures, happens}

-- ---- all times rising together

-- the time of what happens, after a time; a loss has none of its own
abbrev pub time_at : ℕ → Happening → ℕ
time_at now (reaches_meter t ps) = t.0
time_at now lost_to_meter = now
time_at now (reaches_bench t ps) = t.0
time_at now lost_to_bench = now
time_at now (ticks t) = t.0
time_at now (send_ends t) = t.0
time_at now (measures v e t) = t.0

-- No time is before the one in front of it, and none after the end.
abbrev pub Rising : ℕ → ℕ → List Happening → Type 0
Rising now end [] = now ≤ end
Rising now end (h ∷ hs) = (now ≤ time_at now h) × Rising (time_at now h) end hs

-- ---- up to three bits flipped in a line

pub record UpToThree (line : List ℕ) (ps : List Place) : Type 0 where
  pub few : length ps ≤ 3
  pub places : Places line ps

abbrev pub FewInFirst : List (List ℕ) → List Place → Type 0
FewInFirst [] ps = Unit {0}
FewInFirst (line ∷ rest) ps = UpToThree line ps

-- Of a line that reaches the meter. Of one that reaches the bench nothing is asked: an answer may be damaged in any way.
abbrev pub FewFlipped : Between → Happening → Type 0
FewFlipped w (reaches_meter t ps) = FewInFirst w.to_meter ps
FewFlipped w lost_to_meter = Unit {0}
FewFlipped w (reaches_bench t ps) = Unit {0}
FewFlipped w lost_to_bench = Unit {0}
FewFlipped w (ticks t) = Unit {0}
FewFlipped w (send_ends t) = Unit {0}
FewFlipped w (measures v e t) = Unit {0}

abbrev pub Fair : Ends → Between → List Happening → Type 0
Fair ends w [] = Unit {0}
Fair ends w (h ∷ hs) = FewFlipped w h × Fair ends (happens ends w h) hs
