-- Rows that repeat a reading: what is named, where none is, which rows have no part, and a bundle in which one is named.
use Rattle.std.specs.Prelude.{ℕ, suc, ◌+◌, ◌<◌, true, false, List, [], ◌∷◌, ◌↔◌, ◌≡◌, length, get_or}
use Rattle.base_rules.specs.Answers.{reads, refusal}
use Rattle.base_rules.specs.Bytes.{Bytes}
use Rattle.base_characters.specs.Characters.{chars}
use Rattle.base_characters.specs.Flips.{flips}
use Rattle.mbus_rules.specs.FourFlips.{data_line, four}
use Rattle.bench_clock.specs.Wakes.{is_wake}
use Rattle.base_lent.specs.Pieces.{pieces}
use Rattle.base_numbers.specs.Numbers.{bytes_of}
use Rattle.bundle_check.specs.Bundles.{check_of}
use Rattle.bundle_check.specs.Records.{Recorded, records_of, bundle_of, blank_record}
use Rattle.std.specs.Prelude.{Result}
use Rattle.base_rules.specs.declared.refusals.Refusal.{Refusal}
use Rattle.run_counting.specs.Counting.{is_sent}
use Rattle.run_repeats.specs.Repeats.{gives_reading, same_reading, earlier_rows, earlier_into, TellsEarlier}
use Rattle.run_repeats.specs.Meaning.{SameTelegrams}
use Rattle.host_verdicts.specs.Repeating.{RepeatsIn}
use Rattle.demands.specs.Refusals.{By, bundle_numbers}
use Rattle.demands.specs.Settled.{Settled}

-- ---- what is named

-- There is a number for each row.
abbrev pub NumberForEachRow : Type 0
NumberForEachRow = (ks : List Recorded) → length (earlier_rows ks) ≡ length ks

-- Of an accepted bundle and two of its rows, counted from 0:
module _ (b : List ℕ) (n : ℕ) (bytes : Bytes b) (accepted : check_of b ≡ reads n) where
  abbrev pub row : ℕ → Recorded
  row i = get_or (records_of b) i blank_record

  -- they give the same reading exactly where both were heard and read as data, with the same meter number and the same entries;
  abbrev pub SameReadingMeans : Type 0
  SameReadingMeans = (i j : ℕ) → i < n → j < n → (same_reading (row i) (row j) ≡ true) ↔ SameTelegrams (row i) (row j)

  module _ (i : ℕ) (inside : i < n) where
    -- what is named for row i, by 1 + its number, is an earlier row, which gives the same reading, and no row before that one does;
    abbrev pub WhatIsNamed : Type 0
    WhatIsNamed =
        (m : ℕ) → get_or (earlier_rows (records_of b)) i 0 ≡ suc m
        → (m < i) × SameTelegrams (row m) (row i) × ((l : ℕ) → l < m → SameTelegrams (row l) (row i) → ⊥)

    -- and where nothing is named, no earlier row gives the same reading.
    abbrev pub WhereNoneIsNamed : Type 0
    WhereNoneIsNamed = get_or (earlier_rows (records_of b)) i 0 ≡ 0 → (l : ℕ) → l < i → SameTelegrams (row l) (row i) → ⊥

-- ---- which rows have no part

-- A row that was sent gives no reading, nor does a wake-up, in either direction.
abbrev pub NoReading : Type 0
NoReading = (k : Recorded) → (is_sent k ≡ true → gives_reading k ≡ false) × (is_wake (chars k.body) ≡ true → gives_reading k ≡ false)

-- ---- 000's data example, heard twice

abbrev pub body_for : List ℕ → List ℕ
body_for line = pieces (bytes_of 2) line

abbrev pub at : ℕ → ℕ → ℕ → List ℕ → Recorded
at position direction time line = record { position = position; direction = direction; time = time; body = body_for line }

-- At position 3, sent back there, at position 7 with another access number and status, and at position 3 again: a program that names nothing
-- is ruled out, and so is one that takes a sent row, or the access number, into account.
abbrev pub HeardTwice : Type 0
HeardTwice = earlier_rows (at 3 1 0 data_line ∷ at 3 0 5 data_line ∷ at 7 1 9000 (flips four data_line) ∷ at 3 1 9500 data_line ∷ []) ≡ 0 ∷ 0 ∷ 1 ∷ 1 ∷ []

-- The bundle of two of these rows is accepted, and names the first for the second.
abbrev pub BundleNamesIt : Type 0
BundleNamesIt = earlier_into (bundle_of (at 3 1 0 data_line ∷ at 7 1 9000 (flips four data_line) ∷ [])) (7 ∷ 7 ∷ 7 ∷ []) ≡ reads (0 ∷ 1 ∷ [])

-- ---- how much the promise says

-- 30 to 37 for the bundle, then 21.
abbrev pub RepeatsBy : Type 0
RepeatsBy = (b rows : List ℕ) → By (21 ∷ bundle_numbers) (earlier_into b rows)

-- A refusal leaves the places as they were, and its number alone is told.
abbrev pub RepeatsUnchanged : Type 0
RepeatsUnchanged =
    (n : ℕ) (b rows after : List ℕ) (count r now : ℕ) → earlier_into b rows ≡ refusal n → RepeatsIn b rows count r after now
    → (r ≡ 256 + n) × (after ≡ rows) × (now ≡ count)

-- Any two results are the same.
abbrev pub EarlierSettled : Type 0
EarlierSettled = (b before : List ℕ) → Settled (λ (x : Result ℕ Refusal × List ℕ). TellsEarlier b before x.0 x.1)

abbrev pub RepeatsSettled : Type 0
RepeatsSettled = (b rows : List ℕ) (count : ℕ) → Settled (λ (x : (ℕ × ℕ) × List ℕ). RepeatsIn b rows count x.0.0 x.1 x.0.1)
