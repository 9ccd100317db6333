-- Where a time is drawn. A run of hours has seconds in which something happens, so a pause in which nothing was sent, heard or waited for is cut short.
use Rattle.std.specs.Prelude.{ℕ, ◌+◌, ◌-◌, ◌*◌, ◌/◌, ◌≤◌, ◌<◌, max, cond, List, [], ◌∷◌, ◌≡◌, ltb, length, get_or, take, drop}
use Rattle.base_characters.specs.Characters.{chars}
use Rattle.bench_clock.specs.Times.{reply_time, line_times}
use Rattle.bundle_rows.specs.Rows.{most_rows}
use Rattle.bundle_check.specs.Records.{Recorded}
use Rattle.bundle_check.specs.Walks.{end_of}
use Rattle.run_picture.specs.declared.pace.Pace.{Pace}
use Rattle.run_picture.specs.declared.pace.Stand.{Stand}

-- The bit times of a row's line, 11 for each character.
abbrev pub line_time : Recorded → ℕ
line_time k = line_times (length (chars k.body))

-- What is left out of a pause: whole tenths of a second (240 bit times), so that 120 to 359 bit times of it stay.
abbrev pub left_out : ℕ → ℕ
left_out pause = (pause - 120) / 240 * 240

-- After a row that begins at t: what is left out so far; until when something was sent, heard or waited for, each row with a reply's time behind it; and
-- where the row is drawn.
abbrev pub paced_by : Pace → ℕ → ℕ → Pace
paced_by s t width =
    let cut = s.cut + left_out (t - s.busy) in
    record { cut = cut; busy = max s.busy (t + width + reply_time); start = t - cut }

abbrev pub paced : Pace → Recorded → Pace
paced s k = paced_by s k.time (line_time k)

-- Before the first row: what is before it is a pause too.
abbrev pub unpaced : Pace
unpaced = record { cut = 0; busy = 0; start = 0 }

-- Where the end of what happened so far is drawn.
abbrev pub drawn_end : Pace → ℕ
drawn_end s = s.busy - s.cut

-- What is left out before a place of the picture: that of the rows up to there.
unfoldable pub cut_at : ℕ → Pace → List Recorded → ℕ
cut_at x s [] = s.cut
cut_at x s (k ∷ ks) = cond (ltb x (paced s k).start) s.cut (cut_at x (paced s k) ks)

-- How far a pace can have come after so many rows.
pub record Steady (rows : ℕ) (s : Pace) : Type 0 where
  pub cut : s.cut ≤ 4294967296 * rows
  pub busy : s.busy ≤ 8589934592
  pub start : s.start ≤ 4294967296

-- The pace after the first so many rows.
abbrev pub pace_at : List Recorded → ℕ → Pace
pace_at ks i = end_of paced unpaced (take i ks)

-- Where each row is drawn, in its place.
pub record Placed (ks : List Recorded) (starts : List ℕ) : Type 0 where
  pub places : length starts ≡ most_rows
  pub start : (i : ℕ) → i < length ks → get_or starts i 0 ≡ (pace_at ks (i + 1)).start
  pub near : (i : ℕ) → i < length ks → get_or starts i 0 ≤ 4294967296

-- What is left out before a place, and that what is left out before any later one can be told from there on.
pub record Reached (ks : List Recorded) (place : ℕ) (from to : Stand) : Type 0 where
  pub cut : to.pace.cut ≡ cut_at place from.pace (drop from.row ks)
  pub on : (x : ℕ) → place ≤ x → cut_at x to.pace (drop to.row ks) ≡ cut_at x from.pace (drop from.row ks)
