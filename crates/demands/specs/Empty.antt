-- 01, "How much each promise says": the empty programs are caught. A statement of the front page stands here as a demand on any program; the rules
-- meet it by the theorem, and the empty program does not, even where rules and code are changed alike.
use Rattle.std.specs.Prelude.{ℕ, ◌+◌, ◌≤◌, ◌<◌, Bool, true, false, List, [], ◌∷◌, ◌++◌, map, ◌≡◌, length, drop}
use Rattle.bench_clock.specs.declared.Clock.{Clock}
use Rattle.bench_clock.specs.Times.{reply_time, earlier}
use Rattle.mbus_rules.specs.declared.Telegram.{Telegram}
use Rattle.base_rules.specs.Lists.{any}
use Rattle.base_characters.specs.Characters.{over, byte_of, carrier}
use Rattle.base_rules.specs.Answers.{Answer, reads, refusal}
use Rattle.mbus_rules.specs.Telegrams.{ack}
use Rattle.mbus_rules.specs.TelegramSizes.{Sized}
use Rattle.mbus_rules.specs.Lines.{read_line, Accepted}
use Rattle.mbus_rules.specs.Outlines.{outlined}
use Rattle.mbus_rules.specs.Writing.{line_of, unwritable, write_line}
use Rattle.base_characters.specs.Flips.{Place, Places, flips}
use Rattle.base_lent.specs.Lent.{stored}
use Rattle.base_lent.specs.Pieces.{pieces}
use Rattle.mbus_search.specs.declared.Spot.{Spot}
use Rattle.mbus_search.specs.Searching.{Begins, find_in}
use Rattle.mbus_after.specs.declared.TimedSpot.{TimedSpot}
use Rattle.mbus_after.specs.After.{BeginsAfter, find_after}
use Rattle.mbus_length.specs.declared.HowLong.{HowLong}
use Rattle.mbus_length.specs.declared.HowLong.TheVariants.{Known, NotYet, NoLine}
use Rattle.mbus_length.specs.Lengths.{line_length, Agree}
use Rattle.mbus_either.specs.declared.Interface.TheVariants.{Mbus, Optical}
use Rattle.mbus_either.specs.declared.LiveLine.{LiveLine}
use Rattle.mbus_either.specs.Interfaces.{live_on, find_either}
use Rattle.serial_marks.specs.Marks.{port_marked}
use Rattle.serial_marks.specs.Unmarking.{unmarked_in}
use Rattle.exchange_replies.specs.Fits.{fits}
use Rattle.exchange_steps.specs.declared.State.TheVariants.{Waiting, Well}
use Rattle.exchange_steps.specs.declared.Exchange.{Exchange}
use Rattle.exchange_steps.specs.declared.Slot.{Slot}
use Rattle.exchange_steps.specs.declared.Slot.TheVariants.{Idle, Busy}
use Rattle.exchange_steps.specs.Steps.{asks_resend, sending, moved, step, sent_in, send_ended_on, tick_on, is_well}
use Rattle.exchange_steps.specs.Histories.{Step, send_ended, heard, tick, answer, stands, Send, noted, Ask}
use Rattle.meter_steps.specs.declared.Meter.{Meter}
use Rattle.meter_steps.specs.Meters.{Said, Deed, silence, says, quiet, returned}
use Rattle.meter_steps.specs.Histories.{Event, hear, step_of, is_enter, instructs, obeys}

-- ---- a reader

abbrev pub ReadsBack : (List ℕ → Answer Telegram) → Type 0
ReadsBack read =
    (t : Telegram) (out : List ℕ) → Sized t → unwritable t ≡ false → length (line_of t) ≤ length out
    → (s : List ℕ) × (write_line t (length out) ≡ reads s) × (read s ≡ reads t)

abbrev pub RulesRead : Type 0
RulesRead = ReadsBack read_line

-- one that refuses every line, by whatever numbers
abbrev pub RefusesEveryLine : Type 0
RefusesEveryLine = (number : List ℕ → ℕ) → ReadsBack (λ s. refusal (number s)) → ⊥

-- one that says ack to each line,
abbrev pub SaysAckToEachLine : Type 0
SaysAckToEachLine = ReadsBack (λ s. reads ack) → ⊥

-- which breaks the flips too
abbrev pub RefusesFlips : (List ℕ → Answer Telegram) → Type 0
RefusesFlips read =
    (s : List ℕ) (ps : List Place) → ((t : Telegram) × (read s ≡ reads t)) → Places s ps → 1 ≤ length ps → length ps ≤ 3
    → ¬ ((t : Telegram) × (read (flips ps s) ≡ reads t))

abbrev pub RulesRefuseFlips : Type 0
RulesRefuseFlips = RefusesFlips read_line

abbrev pub SaysAckToFlips : Type 0
SaysAckToFlips = RefusesFlips (λ s. reads ack) → ⊥

-- ---- a writer: what it answers, and what it then leaves in the places

abbrev pub WritesBack : (Telegram → ℕ → Answer (List ℕ)) → (List ℕ → Answer (List ℕ) → List ℕ) → Type 0
WritesBack write leaves =
    (s : List ℕ) (t : Telegram) (out : List ℕ) → read_line s ≡ reads t → length s ≤ length out
    → (write t (length out) ≡ reads s) × (leaves out (write t (length out)) ≡ s ++ drop (length s) out)

abbrev pub RulesWrite : Type 0
RulesWrite = WritesBack write_line (stored (λ (line : List ℕ). line))

-- one that refuses every telegram, by 21 or whatever numbers
abbrev pub RefusesEveryTelegram : Type 0
RefusesEveryTelegram =
    (number : Telegram → ℕ → ℕ) (leaves : List ℕ → Answer (List ℕ) → List ℕ)
    → WritesBack (λ t places. refusal (number t places)) leaves → ⊥

-- one that does nothing, whatever it answers
abbrev pub WriterDoesNothing : Type 0
WriterDoesNothing = (write : Telegram → ℕ → Answer (List ℕ)) → WritesBack write (λ out a. out) → ⊥

-- ---- a search

abbrev pub FindsLines : (List ℕ → Answer Spot) → Type 0
FindsLines find = (s : List ℕ) (place n : ℕ) → Begins s place n → (p : Spot) × (find s ≡ reads p) × (p.place ≤ place)

abbrev pub RulesFind : Type 0
RulesFind = FindsLines find_in

-- one that finds nothing
abbrev pub FindsNothing : Type 0
FindsNothing = (number : List ℕ → ℕ) → FindsLines (λ s. refusal (number s)) → ⊥

-- and one of two captures
abbrev pub FindsLive : (List ℕ → List ℕ → Answer LiveLine) → Type 0
FindsLive find =
    (mbus optical : List ℕ) (place n : ℕ) → Begins mbus place n → (p : Spot) × (find mbus optical ≡ reads (live_on Mbus p)) × (p.place ≤ place)

abbrev pub RulesFindLive : Type 0
RulesFindLive = FindsLive find_either

-- one that finds nothing in either, and one that answers the optical capture whenever it has a line
abbrev pub FindsNeither : Type 0
FindsNeither = (number : List ℕ → List ℕ → ℕ) → FindsLive (λ mbus optical. refusal (number mbus optical)) → ⊥

abbrev pub OpticalComesFirst : Type 0
OpticalComesFirst =
    (find : List ℕ → List ℕ → Answer LiveLine)
    → ((mbus optical : List ℕ) (place n : ℕ) → Begins optical place n → (p : Spot) × (find mbus optical ≡ reads (live_on Optical p))) → FindsLive find → ⊥

-- and one after a time
abbrev pub FindsSince : (ℕ → List ℕ → List ℕ → Answer TimedSpot) → Type 0
FindsSince find =
    (t : ℕ) (s times : List ℕ) (place n : ℕ) → BeginsAfter t s times place n
    → (p : TimedSpot) × (find t s times ≡ reads p) × (p.spot.place ≤ place)

abbrev pub RulesFindAfter : Type 0
RulesFindAfter = FindsSince find_after

-- one that finds nothing from any time on
abbrev pub FindsNothingAfter : Type 0
FindsNothingAfter = (number : ℕ → List ℕ → List ℕ → ℕ) → FindsSince (λ t s times. refusal (number t s times)) → ⊥

-- ---- the length of a line, by its first characters

abbrev pub KnowsLines : (List ℕ → HowLong) → Type 0
KnowsLines program =
    (first line : List ℕ) → Accepted line → Agree first line → 2 ≤ length first → program first ≡ Known (length line)

abbrev pub RulesKnow : Type 0
RulesKnow = KnowsLines line_length

-- 1 where a length is told
abbrev pub tells : HowLong → ℕ
tells (Known n) = 1
tells NotYet = 0
tells NoLine = 0

-- one that never tells a length, and says NotYet or NoLine as it likes
abbrev pub LengthNeverKnown : Type 0
LengthNeverKnown = (program : List ℕ → HowLong) → ((first : List ℕ) → tells (program first) ≡ 0) → KnowsLines program → ⊥

-- ---- characters from a serial port: what is made of bytes in so many places

abbrev pub GivesBack : (ℕ → List ℕ → List ℕ) → Type 0
GivesBack made = (cs : List ℕ) → any over cs ≡ false → (k : ℕ) → made (length cs + k) (pieces port_marked cs) ≡ cs

abbrev pub RulesGiveBack : Type 0
RulesGiveBack = GivesBack (λ room bytes. (unmarked_in room bytes).characters)

-- one that makes nothing
abbrev pub MakesNothing : Type 0
MakesNothing = GivesBack (λ room bytes. []) → ⊥

abbrev pub DropsTheParityBit : Type 0
DropsTheParityBit = (bytes_of : ℕ → List ℕ → List ℕ) → GivesBack (λ room bytes. map byte_of (bytes_of room bytes)) → ⊥

abbrev pub WorksItOut : Type 0
WorksItOut = (bytes_of : ℕ → List ℕ → List ℕ) → GivesBack (λ room bytes. map carrier (bytes_of room bytes)) → ⊥

-- ---- a simulated meter: what it answers to a step

abbrev pub AnswersEnter : (Meter → Event → Answer Deed) → Type 0
AnswersEnter step =
    (m : Meter) (line : List ℕ) (t : Clock) → obeys is_enter m (hear line t) ≡ true
    → (d : Deed) × (step m (hear line t) ≡ reads d) × (d.said ≡ says ack)

abbrev pub RulesAnswer : Type 0
RulesAnswer = AnswersEnter step_of

abbrev pub KeepsSilent : (Meter → Event → Answer Deed) → Type 0
KeepsSilent step =
    (m : Meter) (line : List ℕ) (t : Clock) → earlier m.last.0 t.0 ≡ false
    → instructs (λ q. true) m.core.address (outlined (read_line line)) ≡ false → step m (hear line t) ≡ reads (quiet (returned t m.core))

abbrev pub RulesKeepSilent : Type 0
RulesKeepSilent = KeepsSilent step_of

-- 1 where the meter says a telegram
abbrev pub spoken : Said → ℕ
spoken silence = 0
spoken (says t) = 1

abbrev pub speaks : Answer Deed → ℕ
speaks (refusal n) = 2
speaks (reads d) = spoken d.said

-- one that is mute, whatever it does beside
abbrev pub MeterIsMute : Type 0
MeterIsMute = (step : Meter → Event → Answer Deed) → ((m : Meter) (e : Event) → speaks (step m e) ≡ 0) → AnswersEnter step → ⊥

-- one that answers every line
abbrev pub MeterAnswersAll : Type 0
MeterAnswersAll =
    (step : Meter → Event → Answer Deed) → ((m : Meter) (line : List ℕ) (t : Clock) → speaks (step m (hear line t)) ≡ 1)
    → KeepsSilent step → ⊥

-- ---- an exchange, by what is answered to a step: how it stands after a history, and the sends that were made

abbrev pub next_by : (Slot → Step → Answer Exchange) → Slot → Step → Slot
next_by program b s = stands b (program b s)

unfoldable pub run_by : (Slot → Step → Answer Exchange) → Slot → List Step → Slot
run_by program b [] = b
run_by program b (s ∷ h) = run_by program (next_by program b s) h

unfoldable pub made_by : (Slot → Step → Answer Exchange) → Slot → List Send → List Step → List Send
made_by program b sends [] = sends
made_by program b sends (s ∷ h) = made_by program (next_by program b s) (noted b s (program b s) sends) h

abbrev pub TakesReplies : (Slot → Step → Answer Exchange) → Type 0
TakesReplies program =
    (h : List Step) (x : Exchange) → run_by program Idle h ≡ Busy x → (send : Send) (others : List Send) (line : List ℕ) (t : Clock) (telegram : Telegram)
    → x.state ≡ Waiting
    → made_by program Idle [] h ≡ send ∷ others
    → x.last.0 ≤ t.0
    → t.0 ≤ send.end.0 + reply_time
    → read_line line ≡ reads telegram
    → fits x.request (outlined (reads telegram)) ≡ true
    → program (Busy x) (heard line t) ≡ reads (moved x Well t)

abbrev pub RulesTakeReplies : Type 0
RulesTakeReplies = TakesReplies answer

abbrev pub ReportsSends : (Slot → Step → Answer Exchange) → Type 0
ReportsSends program = (h : List Step) (x : Exchange) → run_by program Idle h ≡ Busy x → x.sends ≡ length (made_by program Idle [] h)

abbrev pub RulesReportSends : Type 0
RulesReportSends = ReportsSends answer

abbrev pub SendsOneRequest : (Slot → Step → Answer Exchange) → Type 0
SendsOneRequest program = (h : List Step) (x : Exchange) → run_by program Idle h ≡ Busy x → Ask x.request (made_by program Idle [] h)

abbrev pub RulesSendOneRequest : Type 0
RulesSendOneRequest = SendsOneRequest answer

abbrev pub BeginsAgain : (Slot → Step → Answer Exchange) → Type 0
BeginsAgain program =
    (x : Exchange) (telegram : Telegram) (t : Clock) → x.state ≡ Well
    → program (Busy x) (send_ended telegram t) ≡ program Idle (send_ended telegram t)

abbrev pub RulesBeginAgain : Type 0
RulesBeginAgain = BeginsAgain answer

abbrev pub well_in : Answer Exchange → Bool
well_in (refusal n) = false
well_in (reads x) = is_well x.state

-- One that decides all on its first send and only shows two more: whatever it answers to a line after the second send, it does not end well.
module _ (program : Slot → Step → Answer Exchange) (ticks : (b : Slot) (t : Clock) → program b (tick t) ≡ tick_on b t)
    (sends : (b : Slot) (telegram : Telegram) (t : Clock) → program b (send_ended telegram t) ≡ send_ended_on b (outlined (reads telegram)) t) where
  abbrev pub DecidesOnFirstSend : Type 0
  DecidesOnFirstSend =
      ((x : Exchange) (line : List ℕ) (t : Clock) → 1 < x.sends → well_in (program (Busy x) (heard line t)) ≡ false)
      → TakesReplies program → ⊥

-- one that reports one send, however many were made
abbrev pub reports_one : Slot → Step → Answer Exchange
reports_one Idle s = answer Idle s
reports_one (Busy x) (send_ended telegram t) = step x t (asks_resend x.state x.sends) (sending x.request 1 t)
reports_one (Busy x) (heard line t) = answer (Busy x) (heard line t)
reports_one (Busy x) (tick t) = answer (Busy x) (tick t)

abbrev pub ReportsAnotherCount : Type 0
ReportsAnotherCount = ReportsSends reports_one → ⊥

-- one that takes the end of any send for a resend's
abbrev pub takes_any_send : Slot → Step → Answer Exchange
takes_any_send Idle s = answer Idle s
takes_any_send (Busy x) (send_ended telegram t) = sent_in x t
takes_any_send (Busy x) (heard line t) = answer (Busy x) (heard line t)
takes_any_send (Busy x) (tick t) = answer (Busy x) (tick t)

abbrev pub TakesAnySend : Type 0
TakesAnySend = SendsOneRequest takes_any_send → ⊥

-- and which never begins a second exchange
abbrev pub BeginsButOnce : Type 0
BeginsButOnce = BeginsAgain takes_any_send → ⊥
