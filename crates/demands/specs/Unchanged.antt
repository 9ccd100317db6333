-- Demand 1: a refusal hands back the number alone, with lent memory unchanged. One shape, and the promise of each function that is lent memory to
-- write in. (A step of an exchange or of a meter takes its state by value: `Exchange` and `Meter` say what a refused step leaves.)
use Rattle.std.specs.Prelude.{ℕ, ◌+◌, List, [], Result, Err, ◌≡◌, length}
use Rattle.std.specs.Borrow.{Bor}
use Rattle.bench_clock.specs.declared.Clock.{Clock}
use Rattle.bench_clock.specs.Wakes.{wake_of, wake_line}
use Rattle.mbus_rules.specs.declared.Telegram.{Telegram}
use Rattle.base_rules.specs.Answers.{Answer, refusal, follow}
use Rattle.base_rules.specs.declared.refusals.Refusal.{Refusal}
use Rattle.base_rules.specs.Shown.{refused_by}
use Rattle.mbus_rules.specs.Writing.{write_line}
use Rattle.base_lent.specs.Lent.{told, stored, Leaves}
use Rattle.base_lent.specs.Handed.{Hands}
use Rattle.base_characters.specs.Carrying.{Writes}
use Rattle.mbus_either.specs.declared.Either.{Either}
use Rattle.mbus_either.specs.Interfaces.{find_either}
use Rattle.mbus_either.specs.Stretches.{HandsEither}
use Rattle.bundle_check.specs.Records.{Recorded}
use Rattle.bundle_check.specs.declared.rows.BodyPlace.{BodyPlace}
use Rattle.bundle_check.specs.Stretches.{Handed}
use Rattle.bundle_columns.specs.Columns.{Columns}
use Rattle.bundle_columns.specs.Shown.{Turns}
use Rattle.bundle_salvage.specs.Salvaging.{salvage_into}
use Rattle.bundle_salvage.specs.declared.Salvaged.{Salvaged}
use Rattle.bundle_salvage.specs.Shown.{Salvages}
use Rattle.bundle_sweep.specs.Sweeping.{sweep_of}
use Rattle.bundle_sweep.specs.Shown.{Sweeps}
use Rattle.bundle_adding.specs.Adding.{add_of}
use Rattle.bundle_adding.specs.Shown.{Adds}
use Rattle.run_listing.specs.Listings.{listing_of}
use Rattle.run_listing.specs.Shown.{listed_in, Lists}
use Rattle.text_words.specs.Saying.{fitted, Says}
use Rattle.exchange_steps.specs.declared.Exchange.{Exchange}
use Rattle.host_exchange.specs.Calls as exchanges
use Rattle.meter_steps.specs.Meters.{Deed}
use Rattle.host_meter.specs.Calls as meters
use Rattle.mbus_length.specs.declared.HowLong.{HowLong}
use Rattle.mbus_length.specs.declared.HowLong.TheVariants.{NotYet, NoLine}
use Rattle.host_incoming.specs.Calls.{TellsLength}
use Rattle.host_bundle.specs.Lent.{Gives}
use Rattle.host_bundle.specs.Bundled.{AddsIn, ListsIn}
use Rattle.host_bundle.specs.Salvaging.{salvage_for, SalvagesIn}
use Rattle.host_sweep.specs.Sweeping.{SweepsIn}
use Rattle.run_picture.specs.Shown.{drawn_in, Draws}
use Rattle.host_picture.specs.Pictured.{DrawsIn}
use Rattle.run_verdicts.specs.declared.Verdict.{Verdict}
use Rattle.host_verdicts.specs.Told.{GivesVerdicts}

-- The number alone, and what was lent as it was.
pub record Untouched {B : Type 0} (n r : ℕ) (before after : B) : Type 0 where
  pub number : r ≡ 256 + n
  pub same : after ≡ before

-- A definition of what is left leaves, where the answer is a refusal, what there was.
abbrev pub Unchanged : {A B : Type 0} → (Answer A → B) → B → Type 0
Unchanged leaves before = (n : ℕ) → leaves (refusal n) ≡ before

-- ---- in Rattle

module _ (n : ℕ) where
  abbrev pub WritingUnchanged : Type 0
  WritingUnchanged =
      (t : Telegram) (before after : List ℕ) (r : Result ℕ Refusal) → write_line t (length before) ≡ refusal n
      → Writes (write_line t (length before)) before after r → after ≡ before

  abbrev pub WakeUnchanged : Type 0
  WakeUnchanged =
      (count : ℕ) (before after : List ℕ) → wake_of count before ≡ refusal n → after ≡ stored wake_line before (wake_of count before)
      → after ≡ before

  abbrev pub AddingUnchanged : Type 0
  AddingUnchanged =
      (before after : List ℕ) (filled : ℕ) (k : Recorded) (r : Result ℕ Refusal) → add_of before filled k ≡ refusal n
      → Adds before filled k r after → after ≡ before

  abbrev pub SweepingUnchanged : Type 0
  SweepingUnchanged =
      (before after : List ℕ) (filled position : ℕ) (r : Result ℕ Refusal) → sweep_of before filled position ≡ refusal n
      → Sweeps before filled position r after → after ≡ before

  abbrev pub TurningUnchanged : Type 0
  TurningUnchanged =
      (written : Columns → List ℕ) (a : Answer Columns) (before after : List ℕ) (r : Result ℕ Refusal) → a ≡ refusal n
      → Turns written a before r after → after ≡ before

  abbrev pub SalvagingUnchanged : Type 0
  SalvagingUnchanged = (b before after : List ℕ) (r : Result Salvaged Refusal) → salvage_into b before ≡ refusal n → Salvages b before r after → after ≡ before

  abbrev pub ListingUnchanged : Type 0
  ListingUnchanged = (b before after : List ℕ) (r : Result ℕ Refusal) → listed_in (listing_of b) before ≡ refusal n → Lists b before r after → after ≡ before

  abbrev pub DrawingUnchanged : Type 0
  DrawingUnchanged = (b before after : List ℕ) (r : Result ℕ Refusal) → drawn_in b before ≡ refusal n → Draws b before r after → after ≡ before

  -- Where a stretch of the caller's memory is asked for, a refusal hands out an empty one.
  abbrev pub StretchEmpty : Type 0
  StretchEmpty = (a : Answer BodyPlace) (whole part : Bor (List ℕ)) → a ≡ refusal n → Handed a whole part → part.now ≡ []

  abbrev pub EitherEmpty : Type 0
  EitherEmpty =
      (mbus optical : Bor (List ℕ)) (r : Either) → find_either mbus.now optical.now ≡ refusal n → HandsEither mbus optical r
      → r.stretch.now ≡ []

  -- ---- for C

  -- lines, search, wake-up, error, rows, and the record of an exchange or of a meter
  module _ {A B : Type 0} (tell : A → ℕ) (written : A → List B) (a : Answer A) where
    abbrev pub LeavesUntouched : Type 0
    LeavesUntouched = (before after : List B) (r : ℕ) → a ≡ refusal n → Leaves tell written a before after r → Untouched n r before after

  -- one value, in the place lent for it
  module _ {A : Type 0} (a : Result A Refusal) where
    abbrev pub HandsUntouched : Type 0
    HandsUntouched = (before after : A) (r : ℕ) → a ≡ Err (refused_by n) → Hands a before after r → Untouched n r before after

  -- and the reply or the answer beside it
  abbrev pub ReplyUnchanged : Type 0
  ReplyUnchanged =
      (a : Answer Exchange) (telegram : Telegram) (before after out then : List ℕ) (r : ℕ) → a ≡ refusal n
      → exchanges.HearsReply a telegram before after out then r → then ≡ out

  abbrev pub AnswerUnchanged : Type 0
  AnswerUnchanged =
      (a : Answer Deed) (t : Clock) (before after out then : List ℕ) (r : ℕ) → a ≡ refusal n
      → meters.HearsLine a t before after out then r → then ≡ out

  -- a number in its place, and the buffer or the places beside it
  abbrev pub GivesUntouched : Type 0
  GivesUntouched = (a : Answer ℕ) (before r after : ℕ) → a ≡ refusal n → Gives a before r after → Untouched n r before after

  abbrev pub BufferUnchanged : Type 0
  BufferUnchanged =
      (buffer : List ℕ) (filled : ℕ) (k : Recorded) (r : ℕ) (after : List ℕ) (now : ℕ) → add_of buffer filled k ≡ refusal n
      → AddsIn buffer filled k r after now → after ≡ buffer

  abbrev pub SweptBufferUnchanged : Type 0
  SweptBufferUnchanged =
      (buffer : List ℕ) (filled position r : ℕ) (after : List ℕ) (now : ℕ) → sweep_of buffer filled position ≡ refusal n
      → SweepsIn buffer filled position r after now → after ≡ buffer

  abbrev pub SecondBufferUnchanged : Type 0
  SecondBufferUnchanged =
      (b out told : List ℕ) (r : ℕ) (after then : List ℕ) → salvage_for b out told ≡ refusal n → SalvagesIn b out told r after then
      → after ≡ out

  abbrev pub PlacesUnchanged : Type 0
  PlacesUnchanged =
      (b out : List ℕ) (written r : ℕ) (after : List ℕ) (now : ℕ) → listed_in (listing_of b) out ≡ refusal n
      → ListsIn b out written r after now → after ≡ out

  abbrev pub PictureUnchanged : Type 0
  PictureUnchanged =
      (b out : List ℕ) (written r : ℕ) (after : List ℕ) (now : ℕ) → drawn_in b out ≡ refusal n
      → DrawsIn b out written r after now → after ≡ out

  -- verdicts, and how many there are
  abbrev pub VerdictsUnchanged : Type 0
  VerdictsUnchanged =
      (a : Answer (List Verdict)) (out : List ℕ) (count r : ℕ) (after : List ℕ) (now : ℕ) → a ≡ refusal n
      → GivesVerdicts a out count r after now → (after ≡ out) × (now ≡ count)

  -- words
  abbrev pub SaysUntouched : Type 0
  SaysUntouched =
      (said : Answer (List ℕ)) (out : List ℕ) (r : ℕ) (after : List ℕ) → follow said (fitted out) ≡ refusal n
      → Says said out r after → Untouched n r out after

-- ---- the length of a line, by its first characters: also where it is not yet known

abbrev pub LengthUntouched : Type 0
LengthUntouched = (w : HowLong) (before after r : ℕ) → w ≡ NoLine → TellsLength w before after r → Untouched 18 r before after

abbrev pub LengthNotYet : Type 0
LengthNotYet = (w : HowLong) (before after r : ℕ) → w ≡ NotYet → TellsLength w before after r → (r ≡ 1) × (after ≡ before)
