-- What became of each row of a run: the verdicts of sent rows and of heard rows by what was sent and heard before, the numbers in them, and a run that has
-- every verdict.
use Rattle.std.specs.Prelude.{ℕ, ◌+◌, ◌*◌, ◌≤◌, ◌<◌, true, false, List, [], ◌∷◌, ◌++◌, ◌⊎◌, ◌↔◌, ◌≡◌, length, replicate}
use Rattle.base_lent.specs.Pieces.{pieces}
use Rattle.base_numbers.specs.Numbers.{bytes_of}
use Rattle.base_rules.specs.Answers.{reads, refusal}
use Rattle.base_rules.specs.Lists.{any}
use Rattle.base_characters.specs.Characters.{chars}
use Rattle.mbus_rules.specs.declared.Kind.TheVariants as kinds
use Rattle.mbus_rules.specs.declared.Request.{Request}
use Rattle.mbus_rules.specs.declared.Outline.TheVariants.{Asks}
use Rattle.mbus_rules.specs.declared.Telegram.{Telegram}
use Rattle.mbus_rules.specs.Lines.{read_line}
use Rattle.mbus_rules.specs.Telegrams.{ack, read_of, enter_of}
use Rattle.mbus_rules.specs.Writing.{line_of}
use Rattle.bench_clock.specs.Wakes.{is_wake}
use Rattle.exchange_replies.specs.Fits.{fits}
use Rattle.exchange_steps.specs.declared.Cause.{Cause}
use Rattle.exchange_steps.specs.declared.Exchange.{Exchange}
use Rattle.exchange_steps.specs.declared.Slot.{Slot}
use Rattle.exchange_steps.specs.declared.Slot.TheVariants.{Idle, Busy}
use Rattle.exchange_steps.specs.declared.State.TheVariants as states
use Rattle.exchange_steps.specs.Steps.{begun, sending, heard_on, tick_on}
use Rattle.exchange_steps.specs.Histories.{stands}
use Rattle.bundle_check.specs.Records.{Recorded, bundle_of}
use Rattle.run_counting.specs.Counting.{is_sent, row_outline, looked, send_end, begins_from, looked_at}
use Rattle.run_counting.specs.Exchanges.{row_clock}
use Rattle.run_verdicts.specs.declared.Verdict.TheVariants.{Wake, First, Resend, Refused, Counts, LeftOver, Late, Second, Damaged, WrongKind, Unasked}
use Rattle.run_verdicts.specs.Verdicts.{slot_of}
use Rattle.run_verdicts.specs.Answering.{verdicts_in}
use Rattle.run_verdicts.specs.Words.{verdict_behind, stretch_of}
use Rattle.host_verdicts.specs.Told.{records_told}

-- ---- a sent row

-- a row that was sent and is no wake-up
abbrev pub Sent : Recorded → Type 0
Sent k = (is_wake (chars k.body) ≡ false) × (k.direction ≡ 0)

-- a row that was heard and is no wake-up
abbrev pub Heard : Recorded → Type 0
Heard k = (is_wake (chars k.body) ≡ false) × (k.direction ≡ 1)

-- A line that cannot be sent is refused by its number,
abbrev pub RefusedByItsNumber : Type 0
RefusedByItsNumber =
    (before : List Recorded) (k : Recorded) (n : ℕ) → Sent k → read_line (chars k.body) ≡ refusal n → verdict_behind before k ≡ Refused n

-- and an ack or data by 42.
abbrev pub AckOrDataBy42 : Type 0
AckOrDataBy42 =
    (before : List Recorded) (k : Recorded) (t : Telegram) → Sent k → read_line (chars k.body) ≡ reads t → (t.kind ≡ kinds.Ack) ⊎ (t.kind ≡ kinds.Data)
    → verdict_behind before k ≡ Refused 42

-- The exchange of a row's position, which has waited until the row begins.
abbrev pub waited_for : List Recorded → Recorded → Slot
waited_for before k = stands (slot_of k.position before) (tick_on (slot_of k.position before) (row_clock k.time))

-- It asks for a resend of this request: fewer than three sends were made, the last of them failed, and this one ends at its last time or later.
pub record AsksAgain (before : List Recorded) (k : Recorded) (request : Request) : Type 0 where
  pub x : Exchange
  pub there : waited_for before k ≡ Busy x
  pub cause : Cause
  pub failed : x.state ≡ states.Resend cause
  pub fewer : x.sends < 3
  pub same : x.request ≡ request
  pub onward : x.last.0 ≤ send_end k

-- A request is a resend exactly where it is asked for again,
abbrev pub ResendWhereAsked : Type 0
ResendWhereAsked =
    (before : List Recorded) (k : Recorded) (request : Request) → Sent k → row_outline k ≡ Asks request
    → (verdict_behind before k ≡ Resend) ↔ AsksAgain before k request

-- and else a first send.
abbrev pub FirstOrResend : Type 0
FirstOrResend =
    (before : List Recorded) (k : Recorded) (request : Request) → Sent k → row_outline k ≡ Asks request
    → (verdict_behind before k ≡ First) ⊎ (verdict_behind before k ≡ Resend)

-- A send of n characters, two bytes each, ends 11 × n bit times after it began.
abbrev pub SendEnds : Type 0
SendEnds = (k : Recorded) (n : ℕ) → length k.body ≡ 2 * n → send_end k ≡ k.time + 11 * n

-- ---- the exchange of a position

-- At first there is none.
abbrev pub NoneAtFirst : Type 0
NoneAtFirst = (position : ℕ) → slot_of position [] ≡ Idle

-- A wake-up, and a row of another position, leave it as it is.
abbrev pub OthersLeaveIt : Type 0
OthersLeaveIt =
    (position : ℕ) (before : List Recorded) (k : Recorded) → (is_wake (chars k.body) ≡ true) ⊎ (k.position ≡ position → ⊥)
    → slot_of position (before ++ (k ∷ [])) ≡ slot_of position before

-- Behind a heard row it is as 01's exchange is that was told of the line;
abbrev pub HeardGoesOn : Type 0
HeardGoesOn =
    (before : List Recorded) (k : Recorded) → Heard k
    → slot_of k.position (before ++ (k ∷ []))
    ≡ stands (slot_of k.position before) (heard_on (slot_of k.position before) (row_outline k) (row_clock k.time))

-- behind a first send it has begun, with one send;
abbrev pub FirstBegins : Type 0
FirstBegins =
    (before : List Recorded) (k : Recorded) (request : Request) → Sent k → row_outline k ≡ Asks request → verdict_behind before k ≡ First
    → slot_of k.position (before ++ (k ∷ [])) ≡ Busy (begun request (row_clock (send_end k)))

-- behind a resend it has one send more;
abbrev pub ResendGoesOn : Type 0
ResendGoesOn =
    (before : List Recorded) (k : Recorded) (request : Request) → Sent k → row_outline k ≡ Asks request → (a : AsksAgain before k request)
    → slot_of k.position (before ++ (k ∷ [])) ≡ Busy (sending request (a.x.sends + 1) (row_clock (send_end k)))

-- and behind a send that is refused there is none.
abbrev pub RefusedEnds : Type 0
RefusedEnds =
    (before : List Recorded) (k : Recorded) (n : ℕ) → Sent k → verdict_behind before k ≡ Refused n → slot_of k.position (before ++ (k ∷ [])) ≡ Idle

-- ---- a heard row

-- The last row sent at a position and the rows heard there since, wake-ups aside.
abbrev pub LastSentAndSince : Type 0
LastSentAndSince =
    (position : ℕ) (front : List Recorded) (send : Recorded) (later : List Recorded)
    → looked position send ≡ true → is_sent send ≡ true → any is_sent (looked_at position later) ≡ false
    → stretch_of position (front ++ (send ∷ later)) ≡ send ∷ looked_at position later

-- A row is heard behind a request.
pub record BehindAsk (before : List Recorded) (k send : Recorded) (since : List Recorded) (request : Request) : Type 0 where
  pub heard : Heard k
  pub last : stretch_of k.position before ≡ send ∷ since
  pub sent : send.direction ≡ 0
  pub asks : row_outline send ≡ Asks request

-- Where nothing was sent it was not asked for,
abbrev pub UnaskedWhereNoneSent : Type 0
UnaskedWhereNoneSent = (before : List Recorded) (k : Recorded) → Heard k → stretch_of k.position before ≡ [] → verdict_behind before k ≡ Unasked

-- nor where the last row sent is no accepted request.
abbrev pub UnaskedBehindNoRequest : Type 0
UnaskedBehindNoRequest =
    (before : List Recorded) (k send : Recorded) (since : List Recorded) → Heard k → stretch_of k.position before ≡ send ∷ since
    → ((request : Request) → row_outline send ≡ Asks request → ⊥) → verdict_behind before k ≡ Unasked

-- Behind a request: before the end of the send it is left over;
abbrev pub LeftOverBeforeTheEnd : Type 0
LeftOverBeforeTheEnd =
    (before : List Recorded) (k send : Recorded) (since : List Recorded) (request : Request) → BehindAsk before k send since request → k.time < send_end send
    → verdict_behind before k ≡ LeftOver

-- where a row heard since did not begin before that end, it is second;
abbrev pub SecondBehindAnother : Type 0
SecondBehindAnother =
    (before : List Recorded) (k send : Recorded) (since : List Recorded) (request : Request) → BehindAsk before k send since request
    → send_end send ≤ k.time → any (begins_from (send_end send)) since ≡ true → verdict_behind before k ≡ Second

-- and else it decides.
pub record Decides (before : List Recorded) (k send : Recorded) (since : List Recorded) (request : Request) : Type 0 where
  pub behind : BehindAsk before k send since request
  pub ended : send_end send ≤ k.time
  pub first : any (begins_from (send_end send)) since ≡ false

-- More than 450 after the end it is late, whatever it is;
abbrev pub LateAfter450 : Type 0
LateAfter450 =
    (before : List Recorded) (k send : Recorded) (since : List Recorded) (request : Request) → Decides before k send since request
    → send_end send + 450 < k.time → verdict_behind before k ≡ Late

-- up to 450 after it, it counts if it fits,
abbrev pub CountsIfItFits : Type 0
CountsIfItFits =
    (before : List Recorded) (k send : Recorded) (since : List Recorded) (request : Request) → Decides before k send since request
    → k.time ≤ send_end send + 450 → fits request (row_outline k) ≡ true → verdict_behind before k ≡ Counts

-- is damaged, by its number, where the line is refused,
abbrev pub DamagedByItsNumber : Type 0
DamagedByItsNumber =
    (before : List Recorded) (k send : Recorded) (since : List Recorded) (request : Request) (n : ℕ) → Decides before k send since request
    → k.time ≤ send_end send + 450 → read_line (chars k.body) ≡ refusal n → verdict_behind before k ≡ Damaged n

-- and is of the wrong kind where it is accepted and does not fit.
abbrev pub WrongKindIfNot : Type 0
WrongKindIfNot =
    (before : List Recorded) (k send : Recorded) (since : List Recorded) (request : Request) (t : Telegram) → Decides before k send since request
    → k.time ≤ send_end send + 450 → read_line (chars k.body) ≡ reads t → fits request (row_outline k) ≡ false → verdict_behind before k ≡ WrongKind

-- ---- a run that has every verdict

-- a row of position 7: direction, time and characters
abbrev row_of7 : ℕ → ℕ → List ℕ → Recorded
row_of7 direction time line = record { position = 7; direction = direction; time = time; body = pieces (bytes_of 2) line }

-- A read ends 55 after it began, and an enter 110.
abbrev pub every_verdict : List Recorded
every_verdict =
    row_of7 1 100 (line_of ack)
    ∷ row_of7 0 200 (replicate 459 0x055)
    ∷ row_of7 0 5300 (0x0E5 ∷ [])
    ∷ row_of7 0 5400 (line_of ack)
    ∷ row_of7 0 6000 (line_of (read_of 0xFE))
    ∷ row_of7 1 6054 (line_of ack)
    ∷ row_of7 1 6055 (0x1E5 ∷ 0x1E5 ∷ [])
    ∷ row_of7 1 6056 (line_of ack)
    ∷ row_of7 0 7000 (line_of (read_of 0xFE))
    ∷ row_of7 1 7506 (line_of ack)
    ∷ row_of7 0 8000 (line_of (read_of 0xFE))
    ∷ row_of7 1 8505 (line_of ack)
    ∷ row_of7 0 9000 (line_of (enter_of 0xFE 0x92))
    ∷ row_of7 1 9110 (line_of ack)
    ∷ []

-- An odd parity is 3 and two characters behind E5 are 5. What is told for C: the number of the verdict, and the number by which a line is refused or damaged.
abbrev pub EveryVerdictOccurs : Type 0
EveryVerdictOccurs =
    (verdicts_in (bundle_of every_verdict)
    ≡ reads (Unasked ∷ Wake ∷ Refused 3 ∷ Refused 42 ∷ First ∷ LeftOver ∷ Damaged 5 ∷ Second ∷ Resend ∷ Late ∷ Resend ∷ WrongKind ∷ First ∷ Counts ∷ []))
    × (records_told (Wake ∷ First ∷ Resend ∷ Refused 3 ∷ Counts ∷ LeftOver ∷ Late ∷ Second ∷ Damaged 261 ∷ WrongKind ∷ Unasked ∷ [])
    ≡ 1 ∷ 0 ∷ 0 ∷ 0 ∷ 2 ∷ 0 ∷ 0 ∷ 0 ∷ 3 ∷ 0 ∷ 0 ∷ 0 ∷ 4 ∷ 0 ∷ 3 ∷ 0 ∷ 5 ∷ 0 ∷ 0 ∷ 0 ∷ 6 ∷ 0 ∷ 0 ∷ 0 ∷ 7 ∷ 0 ∷ 0 ∷ 0 ∷ 8 ∷ 0 ∷ 0 ∷ 0 ∷ 9 ∷ 0 ∷ 5 ∷ 1
    ∷ 10 ∷ 0 ∷ 0 ∷ 0 ∷ 11 ∷ 0 ∷ 0 ∷ 0 ∷ [])
