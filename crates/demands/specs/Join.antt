-- Two bundles joined by time: which rows come when, the bundles of all positions joined again, and that a position's verdicts, replay and lines stay.
use Rattle.std.specs.Prelude.{ℕ, ◌+◌, ◌-◌, ◌≤◌, ◌<◌, ◌||◌, List, [], ◌∷◌, ◌++◌, ◌≡◌, ltb, length, take, drop, replicate}
use Rattle.base_lent.specs.Pieces.{pieces}
use Rattle.base_rules.specs.Answers.{reads, refusal, refuse}
use Rattle.base_rules.specs.Bytes.{Bytes}
use Rattle.bundle_rows.specs.Rows.{first_offset}
use Rattle.bundle_check.specs.Bundles.{contents_of, check_of}
use Rattle.bundle_check.specs.Example.{sixteen}
use Rattle.bundle_check.specs.Records.{Recorded, records_of, rows_for}
use Rattle.bundle_joining.specs.Choosing.{of_position, position_bundle}
use Rattle.std.specs.Prelude.{Result}
use Rattle.base_rules.specs.declared.refusals.Refusal.{Refusal}
use Rattle.base_rules.specs.Shown.{shown}
use Rattle.bundle_joining.specs.Joining.{by_time, join_of}
use Rattle.bundle_joining.specs.Parts.{bundles_joined, TimesApart}
use Rattle.bundle_joining.specs.JoinShown.{buffer_joined, Joins}
use Rattle.run_listing.specs.Listings.{first_line, listing_of}
use Rattle.run_replay.specs.Errors.{replay_of}
use Rattle.host_bundle.specs.Joining.{JoinsIn}
use Rattle.demands.specs.OfPosition.{verdicts_at}
use Rattle.demands.specs.OneToOne.{Apart}
use Rattle.demands.specs.Refusals.{By, bundle_numbers}
use Rattle.demands.specs.Settled.{Settled}
use Rattle.demands.specs.Sweep.{record_line}

-- ---- which row comes next

-- What a program that joins rows has to do: the earlier of the two that are first comes first, and of equal times that of the first list.
pub record JoinsRows (program : List Recorded → List Recorded → List Recorded) : Type 0 where
  pub none_first : (ls : List Recorded) → program [] ls ≡ ls
  pub none_second : (ks : List Recorded) → program ks [] ≡ ks
  pub earlier : (k : Recorded) (ks : List Recorded) (l : Recorded) (ls : List Recorded) → l.time < k.time
      → program (k ∷ ks) (l ∷ ls) ≡ l ∷ program (k ∷ ks) ls
  pub not_earlier : (k : Recorded) (ks : List Recorded) (l : Recorded) (ls : List Recorded) → k.time ≤ l.time
      → program (k ∷ ks) (l ∷ ls) ≡ k ∷ program ks (l ∷ ls)

-- Joining does, and no other program.
abbrev pub RowsAreJoined : Type 0
RowsAreJoined = JoinsRows by_time

abbrev pub OnlyByTime : Type 0
OnlyByTime =
    (program : List Recorded → List Recorded → List Recorded) → JoinsRows program → (ks ls : List Recorded) → program ks ls ≡ by_time ks ls

-- ---- where it is done

-- Where joining answers that n bytes are filled (both bundles hold bytes):
module _ (a b out : List ℕ) (n : ℕ) (done : join_of a b out ≡ reads n) (in-a : Bytes a) (in_b : Bytes b) where
  abbrev pub after : List ℕ
  after = buffer_joined (reads n) a b out

  abbrev pub new : List ℕ
  new = take n after

  abbrev pub both : List Recorded
  both = by_time (records_of a) (records_of b)

  -- these are those of both but for one count, and the others are as they were;
  abbrev pub BothButOneCount : Type 0
  BothButOneCount = n + 2 ≡ length a + length b

  abbrev pub BehindAsBefore : Type 0
  BehindAsBefore = drop n after ≡ drop n out

  -- what they hold is accepted, so that no time is below the row before, with a row for each of both,
  abbrev pub BothAccepted : Type 0
  BothAccepted = check_of new ≡ reads (length (records_of a) + length (records_of b))

  -- and holds exactly these, by time, with bodies and times;
  abbrev pub BothHeld : Type 0
  BothHeld = records_of new ≡ both

  -- each row says where its body now lies.
  abbrev pub BothPlaces : Type 0
  BothPlaces = contents_of new ≡ rows_for (first_offset (length both)) both

  abbrev pub BothListed : Type 0
  BothListed = listing_of new ≡ first_line ++ pieces record_line both

  -- Where only one of both has rows of a position, these are the same there and in the whole, in order, and so are their lines,
  abbrev pub RowsOfOne : Type 0
  RowsOfOne =
      (position : ℕ)
      → (of_position position (records_of b) ≡ [] → of_position position (records_of new) ≡ of_position position (records_of a))
      × (of_position position (records_of a) ≡ [] → of_position position (records_of new) ≡ of_position position (records_of b))

  -- their verdicts,
  abbrev pub VerdictsOfOne : Type 0
  VerdictsOfOne =
      (position : ℕ)
      → (of_position position (records_of b) ≡ [] → verdicts_at position (records_of new) ≡ verdicts_at position (records_of a))
      × (of_position position (records_of a) ≡ [] → verdicts_at position (records_of new) ≡ verdicts_at position (records_of b))

  -- and the position's replay.
  abbrev pub ReplayOfOne : Type 0
  ReplayOfOne =
      (position s1 s2 elapsed : ℕ)
      → (of_position position (records_of b) ≡ [] → replay_of new position s1 s2 elapsed ≡ replay_of a position s1 s2 elapsed)
      × (of_position position (records_of a) ≡ [] → replay_of new position s1 s2 elapsed ≡ replay_of b position s1 s2 elapsed)

-- ---- when it is done, and what is refused first

-- A first bundle that is refused is refused by its number, then a second by its own,
abbrev pub FirstBefore : Type 0
FirstBefore = (a b out : List ℕ) (k : ℕ) → check_of a ≡ refusal k → join_of a b out ≡ refusal k

abbrev pub SecondRefusedNext : Type 0
SecondRefusedNext = (a b out : List ℕ) (m k : ℕ) → check_of a ≡ reads m → check_of b ≡ refusal k → join_of a b out ≡ refusal k

-- then by 38 over 512 rows, over 65,536 bytes or over the room, and every other call succeeds.
abbrev pub MuchLast : Type 0
MuchLast =
    (a b out : List ℕ) (m n : ℕ) → check_of a ≡ reads m → check_of b ≡ reads n
    → join_of a b out
    ≡ refuse 38 (ltb 512 (m + n) || ltb 65536 (length a + length b - 2) || ltb (length out) (length a + length b - 2)) (reads (length a + length b - 2))

-- ---- the bundles of all positions

-- Joined one after the other, from position 1 to 48, they give the bundle back where no two rows of different positions have one time,
abbrev pub AllGiveItBack : Type 0
AllGiveItBack = (b : List ℕ) (n : ℕ) → Bytes b → check_of b ≡ reads n → TimesApart (records_of b) → bundles_joined 48 b ≡ b

-- and in any case a bundle with as many rows, of each position the same ones in order;
abbrev pub AllHoldTheSame : Type 0
AllHoldTheSame =
    (b : List ℕ) (n : ℕ) → Bytes b → check_of b ≡ reads n
    → (check_of (bundles_joined 48 b) ≡ reads n)
    × ((position : ℕ) → 1 ≤ position → position ≤ 48 → of_position position (records_of (bundles_joined 48 b)) ≡ of_position position (records_of b))

-- and each of these calls succeeds in a buffer of the bundle's length.
abbrev pub EachIsJoined : Type 0
EachIsJoined =
    (b : List ℕ) (n q : ℕ) (out : List ℕ) → Bytes b → check_of b ≡ reads n → length b ≤ length out
    → join_of (bundles_joined q b) (position_bundle (q + 1) b) out ≡ reads (length (bundles_joined (q + 1) b))

-- ---- what is settled, and what a refusal leaves

abbrev pub JoiningSettled : Type 0
JoiningSettled = (a b out : List ℕ) → Settled (λ (x : Result ℕ Refusal × List ℕ). Joins a b out x.0 x.1)

abbrev pub JoiningForCSettled : Type 0
JoiningForCSettled = (a b out : List ℕ) (filled : ℕ) → Settled (λ (x : (ℕ × ℕ) × List ℕ). JoinsIn a b out filled x.0.0 x.1 x.0.1)

abbrev pub JoiningRefused : Type 0
JoiningRefused = (k : ℕ) (a b out after : List ℕ) (r : Result ℕ Refusal) → join_of a b out ≡ refusal k → Joins a b out r after → after ≡ out

abbrev pub JoiningForCRefused : Type 0
JoiningForCRefused =
    (k : ℕ) (a b out : List ℕ) (filled r : ℕ) (after : List ℕ) (now : ℕ) → join_of a b out ≡ refusal k → JoinsIn a b out filled r after now
    → (r ≡ 256 + k) × (after ≡ out) × (now ≡ filled)

-- It refuses by no other numbers, and no two answers have one case.
abbrev pub JoiningBy : Type 0
JoiningBy = (a b out : List ℕ) → By (38 ∷ bundle_numbers) (join_of a b out)

abbrev pub JoinedApart : Type 0
JoinedApart = Apart (shown {A = ℕ})

-- ---- 01's example with a row of position 9, sent at the same time

abbrev pub nine : List ℕ
nine = 0x01 ∷ 0x00 ∷ 0x09 ∷ 0x00 ∷ 0x00 ∷ 0x00 ∷ 0x00 ∷ 0x00 ∷ 0x0E ∷ 0x00 ∷ 0x00 ∷ 0x00 ∷ 0x02 ∷ 0x00 ∷ 0x10 ∷ 0x01 ∷ []

-- the first list's row comes first
abbrev pub ExampleJoined : Type 0
ExampleJoined =
    (join_of sixteen nine (replicate 30 0) ≡ reads 30)
    × (join_of sixteen nine (replicate 29 0) ≡ refusal 38)
    × (join_of (take 15 sixteen) (take 1 nine) [] ≡ refusal 35)
    × (join_of sixteen (take 1 nine) [] ≡ refusal 31)
    × (buffer_joined (reads 30) sixteen nine (replicate 31 0)
    ≡ 0x02 ∷ 0x00 ∷ 0x07 ∷ 0x01 ∷ 0x00 ∷ 0x00 ∷ 0x00 ∷ 0x00 ∷ 0x1A ∷ 0x00 ∷ 0x00 ∷ 0x00 ∷ 0x02 ∷ 0x00 ∷ 0x09 ∷ 0x00 ∷ 0x00 ∷ 0x00 ∷ 0x00 ∷ 0x00
    ∷ 0x1C ∷ 0x00 ∷ 0x00 ∷ 0x00 ∷ 0x02 ∷ 0x00 ∷ 0xE5 ∷ 0x01 ∷ 0x10 ∷ 0x01 ∷ 0x00 ∷ [])
