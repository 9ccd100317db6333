-- 01, "How much each promise says": any two results that a promise allows are the same. One shape, and a law for each form that a promise of a
-- public function has: an equation; a record of equations on the answer and on what is left in lent memory; a stretch handed out.
use Rattle.std.specs.Prelude.{ℕ, List, Result, ◌≡◌, length}
use Rattle.std.specs.Borrow.{Bor}
use Rattle.bench_clock.specs.declared.Clock.{Clock}
use Rattle.mbus_rules.specs.declared.Telegram.{Telegram}
use Rattle.base_rules.specs.Answers.{Answer}
use Rattle.base_rules.specs.declared.refusals.Refusal.{Refusal}
use Rattle.base_lent.specs.Lent.{Leaves}
use Rattle.base_lent.specs.Handed.{Hands}
use Rattle.base_characters.specs.Carrying.{Writes}
use Rattle.mbus_either.specs.declared.Either.{Either}
use Rattle.mbus_either.specs.Stretches.{HandsEither}
use Rattle.serial_marks.specs.declared.Unmarked.{Unmarked}
use Rattle.serial_marks.specs.Unmarking.{Unmarks}
use Rattle.bundle_check.specs.Records.{Recorded}
use Rattle.bundle_check.specs.declared.rows.BodyPlace.{BodyPlace}
use Rattle.bundle_check.specs.Stretches.{Handed}
use Rattle.bundle_columns.specs.Columns.{Columns}
use Rattle.bundle_columns.specs.Shown.{Turns}
use Rattle.bundle_salvage.specs.declared.Salvaged.{Salvaged}
use Rattle.bundle_salvage.specs.Shown.{Salvages}
use Rattle.bundle_sweep.specs.Shown.{Sweeps}
use Rattle.bundle_adding.specs.Shown.{Adds}
use Rattle.run_listing.specs.Shown.{Lists}
use Rattle.text_filling.specs.Putting.{PutAt}
use Rattle.run_picture.specs.Shown.{Draws}
use Rattle.host_picture.specs.Pictured.{DrawsIn}
use Rattle.text_words.specs.Saying.{Says}
use Rattle.host_incoming.specs.Unmarking.{UnmarksFor}
use Rattle.exchange_steps.specs.declared.Exchange.{Exchange}
use Rattle.host_exchange.specs.Calls as exchanges
use Rattle.meter_steps.specs.Meters.{Deed}
use Rattle.host_meter.specs.Calls as meters
use Rattle.mbus_length.specs.declared.HowLong.{HowLong}
use Rattle.host_incoming.specs.Calls.{TellsLength}
use Rattle.host_bundle.specs.Lent.{Gives}
use Rattle.host_bundle.specs.Bundled.{AddsIn, ListsIn}
use Rattle.host_bundle.specs.Salvaging.{SalvagesIn}
use Rattle.host_sweep.specs.Sweeping.{SweepsIn}
use Rattle.run_verdicts.specs.declared.Verdict.{Verdict}
use Rattle.host_verdicts.specs.Told.{GivesVerdicts}
use Rattle.mbus_rules.specs.Writing.{write_line}

-- Any two results that the promise allows are the same. (A result is the answer, and beside it what is left in each thing lent.)
abbrev pub Settled : {R : Type 0} → (R → Type 0) → Type 0
Settled {R} promise = (x y : R) → promise x → promise y → x ≡ y

-- ---- an equation: every promise `result ≡ ..`, and every `out.new ≡ ..`

module _ {R : Type 0} (a : R) where
  abbrev pub Equation : Type 0
  Equation = Settled (λ (r : R). r ≡ a)

-- two of them: the answer, and what was lent (`bench_clock::write_wake`, `base_lent::store`)
module _ {R L : Type 0} (a : R) (b : L) where
  abbrev pub TwoEquations : Type 0
  TwoEquations = Settled (λ (x : R × L). (x.0 ≡ a) × (x.1 ≡ b))

-- ---- records of equations, in Rattle

abbrev pub WritingSettled : Type 0
WritingSettled = (t : Telegram) (before : List ℕ) → Settled (λ (x : Result ℕ Refusal × List ℕ). Writes (write_line t (length before)) before x.1 x.0)

abbrev pub UnmarkingSettled : Type 0
UnmarkingSettled = (bytes before : List ℕ) → Settled (λ (x : Unmarked × List ℕ). Unmarks bytes before x.1 x.0)

abbrev pub AddingSettled : Type 0
AddingSettled = (before : List ℕ) (filled : ℕ) (k : Recorded) → Settled (λ (x : Result ℕ Refusal × List ℕ). Adds before filled k x.0 x.1)

abbrev pub SweepingSettled : Type 0
SweepingSettled = (before : List ℕ) (filled position : ℕ) → Settled (λ (x : Result ℕ Refusal × List ℕ). Sweeps before filled position x.0 x.1)

abbrev pub TurningSettled : Type 0
TurningSettled =
    (written : Columns → List ℕ) (a : Answer Columns) (before : List ℕ)
    → Settled (λ (x : Result ℕ Refusal × List ℕ). Turns written a before x.0 x.1)

abbrev pub SalvagingSettled : Type 0
SalvagingSettled = (b before : List ℕ) → Settled (λ (x : Result Salvaged Refusal × List ℕ). Salvages b before x.0 x.1)

abbrev pub ListingSettled : Type 0
ListingSettled = (b before : List ℕ) → Settled (λ (x : Result ℕ Refusal × List ℕ). Lists b before x.0 x.1)

abbrev pub DrawingSettled : Type 0
DrawingSettled = (b before : List ℕ) → Settled (λ (x : Result ℕ Refusal × List ℕ). Draws b before x.0 x.1)

abbrev pub PuttingSettled : Type 0
PuttingSettled = (text before : List ℕ) (at : ℕ) → Settled (λ (x : List ℕ × ℕ). PutAt text before at x.1 x.0)

-- ---- and for C

-- lines, search, wake-up, error, rows, and the record of an exchange or of a meter
module _ {A B : Type 0} (tell : A → ℕ) (written : A → List B) (a : Answer A) (before : List B) where
  abbrev pub LeavesSettled : Type 0
  LeavesSettled = Settled (λ (x : ℕ × List B). Leaves tell written a before x.1 x.0)

-- one value, in the place lent for it
abbrev pub HandsSettled : Type 1
HandsSettled = (A : Type 0) (a : Result A Refusal) (before : A) → Settled (λ (x : ℕ × A). Hands a before x.1 x.0)

-- unmarking: the answer, the characters, and the two numbers
abbrev pub UnmarkSettled : Type 0
UnmarkSettled = (bytes before : List ℕ) → Settled (λ (x : (ℕ × List ℕ) × (ℕ × ℕ)). UnmarksFor bytes before x.0.1 x.1.0 x.1.1 x.0.0)

-- the same with the reply, or the meter's answer, beside it
abbrev pub ExchangeHeardSettled : Type 0
ExchangeHeardSettled =
    (a : Answer Exchange) (telegram : Telegram) (before out : List ℕ)
    → Settled (λ (x : (ℕ × List ℕ) × List ℕ). exchanges.HearsReply a telegram before x.0.1 out x.1 x.0.0)

abbrev pub MeterHeardSettled : Type 0
MeterHeardSettled =
    (a : Answer Deed) (t : Clock) (before out : List ℕ)
    → Settled (λ (x : (ℕ × List ℕ) × List ℕ). meters.HearsLine a t before x.0.1 out x.1 x.0.0)

-- a number in its place, and the buffer or the places beside it
abbrev pub GivesSettled : Type 0
GivesSettled = (a : Answer ℕ) (before : ℕ) → Settled (λ (x : ℕ × ℕ). Gives a before x.0 x.1)

-- the length of a line, by its first characters
abbrev pub LengthSettled : Type 0
LengthSettled = (w : HowLong) (before : ℕ) → Settled (λ (x : ℕ × ℕ). TellsLength w before x.1 x.0)

abbrev pub AddSettled : Type 0
AddSettled =
    (buffer : List ℕ) (filled : ℕ) (k : Recorded)
    → Settled (λ (x : (ℕ × ℕ) × List ℕ). AddsIn buffer filled k x.0.0 x.1 x.0.1)

abbrev pub SweepSettled : Type 0
SweepSettled =
    (buffer : List ℕ) (filled position : ℕ)
    → Settled (λ (x : (ℕ × ℕ) × List ℕ). SweepsIn buffer filled position x.0.0 x.1 x.0.1)

abbrev pub ListSettled : Type 0
ListSettled = (b out : List ℕ) (written : ℕ) → Settled (λ (x : (ℕ × ℕ) × List ℕ). ListsIn b out written x.0.0 x.1 x.0.1)

abbrev pub PictureSettled : Type 0
PictureSettled = (b out : List ℕ) (written : ℕ) → Settled (λ (x : (ℕ × ℕ) × List ℕ). DrawsIn b out written x.0.0 x.1 x.0.1)

abbrev pub SalvageSettled : Type 0
SalvageSettled = (b out told : List ℕ) → Settled (λ (x : (ℕ × List ℕ) × List ℕ). SalvagesIn b out told x.0.0 x.1 x.0.1)

abbrev pub VerdictsSettled : Type 0
VerdictsSettled =
    (a : Answer (List Verdict)) (out : List ℕ) (count : ℕ)
    → Settled (λ (x : (ℕ × List ℕ) × ℕ). GivesVerdicts a out count x.0.0 x.0.1 x.1)

abbrev pub WordsSettled : Type 0
WordsSettled = (said : Answer (List ℕ)) (out : List ℕ) → Settled (λ (x : ℕ × List ℕ). Says said out x.0 x.1)

-- ---- a stretch handed out: its bytes, and where it lies. (docs/PROMISES.md says what is left open, and why.)

abbrev pub StretchSettled : Type 0
StretchSettled = (a : Answer BodyPlace) (whole x y : Bor (List ℕ)) → Handed a whole x → Handed a whole y → (x.now ≡ y.now) × (x.ref_ptr ≡ y.ref_ptr)

-- the same of one of two captures, beside what was found
abbrev pub EitherSettled : Type 0
EitherSettled =
    (mbus optical : Bor (List ℕ)) (x y : Either) → HandsEither mbus optical x → HandsEither mbus optical y
    → (x.found ≡ y.found) × (x.stretch.now ≡ y.stretch.now) × (x.stretch.ref_ptr ≡ y.stretch.ref_ptr)
