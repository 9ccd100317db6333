-- The rows of one position as a bundle of their own: which rows these are, and that verdicts, replay and listing of the position are the same there.
use Rattle.std.specs.Prelude.{ℕ, ◌+◌, ◌≤◌, List, [], ◌∷◌, ◌++◌, ◌≡◌, eqb, ltb, length, take, drop, replicate}
use Rattle.base_lent.specs.Pieces.{pieces}
use Rattle.base_rules.specs.Answers.{reads, refusal, refuse}
use Rattle.base_rules.specs.Bytes.{Bytes}
use Rattle.bundle_rows.specs.Rows.{first_offset}
use Rattle.bundle_check.specs.Bundles.{contents_of, check_of}
use Rattle.bundle_check.specs.Example.{sixteen}
use Rattle.bundle_check.specs.Records.{Recorded, records_of, rows_for, bodies_for}
use Rattle.std.specs.Prelude.{Result}
use Rattle.base_rules.specs.declared.refusals.Refusal.{Refusal}
use Rattle.base_rules.specs.Shown.{shown}
use Rattle.bundle_joining.specs.Choosing.{of_position, choosing_of}
use Rattle.bundle_joining.specs.ChoosingShown.{buffer_chosen, Chooses}
use Rattle.run_counting.specs.Counting.{kept_if}
use Rattle.run_listing.specs.Listings.{first_line, listing_of}
use Rattle.run_replay.specs.Errors.{replay_of}
use Rattle.run_verdicts.specs.declared.Verdict.{Verdict}
use Rattle.run_verdicts.specs.Verdicts.{verdicts_of}
use Rattle.host_bundle.specs.Joining.{ChoosesIn}
use Rattle.demands.specs.OneToOne.{Apart}
use Rattle.demands.specs.Refusals.{By, bundle_numbers}
use Rattle.demands.specs.Settled.{Settled}
use Rattle.demands.specs.Sweep.{record_line}

-- ---- which rows

-- What a program that chooses rows has to do: each row of the position is chosen, with those behind it, and each other is passed over.
pub record ChoosesRows (program : ℕ → List Recorded → List Recorded) : Type 0 where
  pub none : (position : ℕ) → program position [] ≡ []
  pub own : (position : ℕ) (k : Recorded) (ks : List Recorded) → k.position ≡ position → program position (k ∷ ks) ≡ k ∷ program position ks
  pub other : (position : ℕ) (k : Recorded) (ks : List Recorded) → (k.position ≡ position → ⊥) → program position (k ∷ ks) ≡ program position ks

-- Choosing does, and no other program.
abbrev pub OwnRowsAreChosen : Type 0
OwnRowsAreChosen = ChoosesRows of_position

abbrev pub OnlyOwnRows : Type 0
OnlyOwnRows =
    (program : ℕ → List Recorded → List Recorded) → ChoosesRows program → (position : ℕ) (ks : List Recorded) → program position ks ≡ of_position position ks

-- ---- where it is done

-- of as many verdicts as rows, those of the rows of a position
abbrev pub picked_for : ℕ → List Recorded → List Verdict → List Verdict
picked_for position [] vs = []
picked_for position (k ∷ ks) [] = []
picked_for position (k ∷ ks) (v ∷ vs) = kept_if (eqb k.position position) v (picked_for position ks vs)

-- the verdicts of a position among those of a run
abbrev pub verdicts_at : ℕ → List Recorded → List Verdict
verdicts_at position ks = picked_for position ks (verdicts_of ks)

-- Where choosing answers that n bytes are filled (the bundle holds bytes):
module _ (b : List ℕ) (position : ℕ) (out : List ℕ) (n : ℕ) (done : choosing_of b position out ≡ reads n) (bytes : Bytes b) where
  abbrev pub after : List ℕ
  after = buffer_chosen (reads n) b position out

  abbrev pub new : List ℕ
  new = take n after

  abbrev pub own : List Recorded
  own = of_position position (records_of b)

  -- these are no more than the whole bundle has, and the others are as they were;
  abbrev pub OwnNoLonger : Type 0
  OwnNoLonger = n ≤ length b

  abbrev pub BehindAsItWas : Type 0
  BehindAsItWas = drop n after ≡ drop n out

  -- what they hold is accepted, with a row for each of the position,
  abbrev pub OwnAccepted : Type 0
  OwnAccepted = check_of new ≡ reads (length own)

  -- and holds exactly these, in order, with bodies and times;
  abbrev pub OwnHeld : Type 0
  OwnHeld = records_of new ≡ own

  -- each row says where its body now lies.
  abbrev pub OwnPlaces : Type 0
  OwnPlaces = contents_of new ≡ rows_for (first_offset (length own)) own

  -- The verdicts are those of the position in the whole,
  abbrev pub OwnVerdicts : Type 0
  OwnVerdicts = verdicts_of (records_of new) ≡ verdicts_at position (records_of b)

  -- its replay is the same,
  abbrev pub OwnReplay : Type 0
  OwnReplay = (s1 s2 elapsed : ℕ) → replay_of new position s1 s2 elapsed ≡ replay_of b position s1 s2 elapsed

  -- and the listing has the lines of its rows, as that of the whole has the lines of all rows (`ListingByRecords`).
  abbrev pub OwnListing : Type 0
  OwnListing = listing_of new ≡ first_line ++ pieces record_line own

-- ---- when it is done, and what is refused first

-- A bundle that is refused is refused by its number, whatever the position and the room;
abbrev pub BundleFirst : Type 0
BundleFirst = (b : List ℕ) (position : ℕ) (out : List ℕ) (k : ℕ) → check_of b ≡ refusal k → choosing_of b position out ≡ refusal k

-- then a position outside 1 to 48 by 34;
abbrev pub PositionNext : Type 0
PositionNext =
    (b : List ℕ) (n position : ℕ) (out : List ℕ) → check_of b ≡ reads n → (1 ≤ position → position ≤ 48 → ⊥) → choosing_of b position out ≡ refusal 34

-- the bytes of the count, of so many rows and of their bodies
abbrev pub bytes_for : List Recorded → ℕ
bytes_for ks = first_offset (length ks) + length (bodies_for ks)

-- then a buffer with fewer bytes than they need by 38, and every other call succeeds.
abbrev pub RoomLast : Type 0
RoomLast =
    (b : List ℕ) (n position : ℕ) (out : List ℕ) → check_of b ≡ reads n → 1 ≤ position → position ≤ 48
    → choosing_of b position out
    ≡ refuse 38 (ltb (length out) (bytes_for (of_position position (records_of b)))) (reads (bytes_for (of_position position (records_of b))))

-- A buffer of the whole bundle's length is always enough.
abbrev pub WholeIsEnough : Type 0
WholeIsEnough =
    (b : List ℕ) (n position : ℕ) (out : List ℕ) → check_of b ≡ reads n → 1 ≤ position → position ≤ 48 → length b ≤ length out
    → choosing_of b position out ≡ reads (bytes_for (of_position position (records_of b)))

-- ---- what is settled, and what a refusal leaves

abbrev pub ChoosingSettled : Type 0
ChoosingSettled = (b : List ℕ) (position : ℕ) (out : List ℕ) → Settled (λ (x : Result ℕ Refusal × List ℕ). Chooses b position out x.0 x.1)

abbrev pub ChoosingForCSettled : Type 0
ChoosingForCSettled =
    (b : List ℕ) (position : ℕ) (out : List ℕ) (filled : ℕ)
    → Settled (λ (x : (ℕ × ℕ) × List ℕ). ChoosesIn b position out filled x.0.0 x.1 x.0.1)

abbrev pub ChoosingRefused : Type 0
ChoosingRefused =
    (k : ℕ) (b : List ℕ) (position : ℕ) (out after : List ℕ) (r : Result ℕ Refusal) → choosing_of b position out ≡ refusal k → Chooses b position out r after
    → after ≡ out

abbrev pub ChoosingForCRefused : Type 0
ChoosingForCRefused =
    (k : ℕ) (b : List ℕ) (position : ℕ) (out : List ℕ) (filled r : ℕ) (after : List ℕ) (now : ℕ) → choosing_of b position out ≡ refusal k
    → ChoosesIn b position out filled r after now → (r ≡ 256 + k) × (after ≡ out) × (now ≡ filled)

-- It refuses by no other numbers, and no two answers have one case.
abbrev pub ChoosingBy : Type 0
ChoosingBy = (b : List ℕ) (position : ℕ) (out : List ℕ) → By (38 ∷ bundle_numbers) (choosing_of b position out)

abbrev pub ChosenApart : Type 0
ChosenApart = Apart (shown {A = ℕ})

-- ---- 01's example: one row of position 7

abbrev pub ExampleChosen : Type 0
ExampleChosen =
    (choosing_of sixteen 7 (replicate 16 9) ≡ reads 16)
    × (buffer_chosen (reads 16) sixteen 7 (replicate 17 9) ≡ sixteen ++ (9 ∷ []))
    × (choosing_of sixteen 7 (replicate 15 9) ≡ refusal 38)
    × (choosing_of sixteen 8 (replicate 3 9) ≡ reads 2)
    × (buffer_chosen (reads 2) sixteen 8 (replicate 3 9) ≡ 0 ∷ 0 ∷ 9 ∷ [])
    × (choosing_of sixteen 48 [] ≡ refusal 38)
    × (choosing_of sixteen 0 [] ≡ refusal 34)
    × (choosing_of sixteen 49 [] ≡ refusal 34)
    × (choosing_of (take 15 sixteen) 49 [] ≡ refusal 35)
