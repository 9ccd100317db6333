-- 02, 2026-12: what a sweep leaves is accepted and holds the old rows without those removed; adding, listing and replay go by what is left.
use Rattle.std.specs.Prelude.{ℕ, ◌+◌, ◌≤◌, ◌<◌, true, false, List, [], ◌∷◌, ◌++◌, ◌≡◌, length, take, drop}
use Rattle.base_lent.specs.Pieces.{pieces}
use Rattle.base_rules.specs.Answers.{reads, refusal, refuse}
use Rattle.base_rules.specs.Bytes.{Bytes}
use Rattle.base_characters.specs.Characters.{over, chars}
use Rattle.base_rules.specs.Lists.{any}
use Rattle.bench_clock.specs.Wakes.{is_wake}
use Rattle.bundle_rows.specs.Rows.{first_offset}
use Rattle.bundle_check.specs.Bundles.{contents_of, check_of}
use Rattle.bundle_check.specs.Example.{sixteen}
use Rattle.bundle_check.specs.Records.{Recorded, records_of, row_for, rows_for, record_time}
use Rattle.bundle_check.specs.RowRules.{wrong_row}
use Rattle.bundle_check.specs.Walks.{end_of}
use Rattle.bundle_adding.specs.Adding.{grown, no_room, add_of}
use Rattle.run_listing.specs.Listings.{word_of, row_text, first_line, listing_of}
use Rattle.run_replay.specs.Errors.{replay_of}
use Rattle.bundle_sweep.specs.Sweeping.{goes, removed, swept, sweep_of, buffer_swept}

-- ---- which rows are removed

-- A wake row goes, in either direction, and so does a row of the named position;
abbrev pub WakeRowsGo : Type 0
WakeRowsGo = (position : ℕ) (k : Recorded) → is_wake (chars k.body) ≡ true → removed position k ≡ true

abbrev pub NamedRowsGo : Type 0
NamedRowsGo = (position : ℕ) (k : Recorded) → 0 < position → k.position ≡ position → removed position k ≡ true

-- no other row does, and 0 names none.
abbrev pub OthersStay : Type 0
OthersStay = (position : ℕ) (k : Recorded) → is_wake (chars k.body) ≡ false → (k.position ≡ position → position ≡ 0) → removed position k ≡ false

-- What a program that removes rows has to do: each of these goes, and each other stays, with those behind it.
pub record SweepsRows (program : ℕ → List Recorded → List Recorded) : Type 0 where
  pub none : (position : ℕ) → program position [] ≡ []
  pub goes : (position : ℕ) (k : Recorded) (ks : List Recorded) → removed position k ≡ true → program position (k ∷ ks) ≡ program position ks
  pub stays : (position : ℕ) (k : Recorded) (ks : List Recorded) → removed position k ≡ false → program position (k ∷ ks) ≡ k ∷ program position ks

-- The sweep does, and no other program.
abbrev pub SweptSweeps : Type 0
SweptSweeps = SweepsRows swept

abbrev pub OnlySwept : Type 0
OnlySwept =
    (program : ℕ → List Recorded → List Recorded) → SweepsRows program → (position : ℕ) (ks : List Recorded)
    → program position ks ≡ swept position ks

abbrev pub RemovesNothing : Type 0
RemovesNothing = SweepsRows (λ position ks. ks) → ⊥

abbrev pub RemovesEverything : Type 0
RemovesEverything = SweepsRows (λ position ks. []) → ⊥

-- ---- what is left

-- The lines of a listing are those of the records that the bundle holds.
abbrev pub record_line : Recorded → List ℕ
record_line k = row_text k.position k.direction k.time (word_of (chars k.body))

abbrev pub ListingByRecords : Type 0
ListingByRecords = (b : List ℕ) (n : ℕ) → check_of b ≡ reads n → listing_of b ≡ first_line ++ pieces record_line (records_of b)

-- Where a sweep answers that n bytes are filled (the buffer holds bytes):
module _ (buffer : List ℕ) (filled position n : ℕ) (cleared : sweep_of buffer filled position ≡ reads n) (bytes : Bytes buffer) where
  abbrev pub old : List ℕ
  old = take filled buffer

  abbrev pub after : List ℕ
  after = buffer_swept (reads n) buffer filled position

  abbrev pub new : List ℕ
  new = take n after

  abbrev pub left : List Recorded
  left = swept position (records_of old)

  -- these are no more than before, the others are as they were,
  abbrev pub NoLonger : Type 0
  NoLonger = n ≤ filled

  abbrev pub PastTheEnd : Type 0
  PastTheEnd = drop n after ≡ drop n buffer

  -- what they hold is accepted, with a row for each that is left,
  abbrev pub LeftAccepted : Type 0
  LeftAccepted = check_of new ≡ reads (length left)

  -- and holds what the old bundle held without what is removed, in order, with bodies and times;
  abbrev pub LeftHolds : Type 0
  LeftHolds = records_of new ≡ left

  -- each row says where its body now lies.
  abbrev pub LeftRows : Type 0
  LeftRows = contents_of new ≡ rows_for (first_offset (length left)) left

  -- The listing is the old one without the lines of what is removed.
  abbrev pub LeftListed : Type 0
  LeftListed = listing_of new ≡ first_line ++ pieces record_line left

  -- The replay of every position that is not named answers as before.
  abbrev pub ReplayAsBefore : Type 0
  ReplayAsBefore = (other s1 s2 elapsed : ℕ) → (other ≡ position → position ≡ 0) → replay_of new other s1 s2 elapsed ≡ replay_of old other s1 s2 elapsed

  -- Sweeping twice changes nothing more.
  abbrev pub SweptTwice : Type 0
  SweptTwice = (sweep_of after n position ≡ reads n) × (buffer_swept (reads n) after n position ≡ after)

  -- ---- adding afterwards

  -- tests 34 against the last row that is left, and 38 goes by the new row count and length.
  abbrev pub AddingAfter : Type 0
  AddingAfter =
      (k : Recorded) → add_of after n k
      ≡ refuse 34 (wrong_row (end_of record_time 0 left) (row_for (n + 12) k))
      (refuse 37 (any over (chars k.body)) (refuse 38 (no_room buffer (length left) (grown n k)) (reads (grown n k))))

  -- So what met 38 before is added where there is room now.
  abbrev pub FitsAfterwards : Type 0
  FitsAfterwards =
      (k : Recorded) → add_of buffer filled k ≡ refusal 38 → no_room buffer (length left) (grown n k) ≡ false
      → add_of after n k ≡ reads (grown n k)

-- ---- 01's example: one row of position 7

abbrev pub ExampleSwept : Type 0
ExampleSwept =
    (sweep_of sixteen 16 0 ≡ reads 16)
    × (sweep_of sixteen 16 7 ≡ reads 2)
    × (sweep_of sixteen 16 8 ≡ reads 16)
    × (sweep_of sixteen 16 48 ≡ reads 16)
    × (sweep_of sixteen 16 49 ≡ refusal 34)
    × (sweep_of sixteen 15 49 ≡ refusal 35)
    × (sweep_of sixteen 17 0 ≡ refusal 30)
    × (buffer_swept (reads 2) sixteen 16 7 ≡ 0 ∷ 0 ∷ drop 2 sixteen)
