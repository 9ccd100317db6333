-- Demand 2, the exchange, and 02, 2026-09: what holds after every history of steps, refused ones included, from none, one exchange after another.
use Rattle.std.specs.Prelude.{ℕ, ◌+◌, ◌≤◌, ◌<◌, true, false, cond, List, [], ◌∷◌, ◌⊎◌, ◌≡◌, length}
use Rattle.bench_clock.specs.declared.Clock.{Clock}
use Rattle.bench_clock.specs.Times.{reply_time, earlier}
use Rattle.mbus_rules.specs.declared.Request.{Request}
use Rattle.mbus_rules.specs.declared.Telegram.{Telegram}
use Rattle.mbus_rules.specs.declared.Outline.TheVariants.{Asks}
use Rattle.base_rules.specs.Answers.{reads, refusal}
use Rattle.mbus_rules.specs.Lines.{read_line}
use Rattle.mbus_rules.specs.Outlines.{outlined}
use Rattle.exchange_replies.specs.Fits.{fits}
use Rattle.exchange_steps.specs.declared.Cause.{Cause}
use Rattle.exchange_steps.specs.declared.Cause.TheVariants.{Silent}
use Rattle.exchange_steps.specs.declared.State.TheVariants.{Waiting, Resend, Well, Failed}
use Rattle.exchange_steps.specs.declared.Exchange.{Exchange}
use Rattle.exchange_steps.specs.declared.Slot.TheVariants.{Idle, Busy}
use Rattle.exchange_steps.specs.Steps.{cause_of, ended, sending, begun, moved}
use Rattle.exchange_steps.specs.Histories.{Step, send_ended, heard, tick, answer, next, run, after, Send, made, Ask, EndedWell, SendFails, GivesWay}

-- ---- the end of a send

module _ (telegram : Telegram) (t : Clock) where
  -- Given none, it begins an exchange of the request, whatever the time; ack and data are refused by 42.
  abbrev pub BeginsFromNone : Type 0
  BeginsFromNone = (request : Request) → outlined (reads telegram) ≡ Asks request → answer Idle (send_ended telegram t) ≡ reads (begun request t)

  abbrev pub NoneRefuses : Type 0
  NoneRefuses = ((request : Request) → outlined (reads telegram) ≡ Asks request → ⊥) → answer Idle (send_ended telegram t) ≡ refusal 42

  module _ (x : Exchange) where
    -- An exchange that has ended, well or by a cause, counts as none, and its last time no longer binds.
    abbrev pub WellAsNone : Type 0
    WellAsNone = x.state ≡ Well → answer (Busy x) (send_ended telegram t) ≡ answer Idle (send_ended telegram t)

    abbrev pub FailedAsNone : Type 0
    FailedAsNone = (cause : Cause) → x.state ≡ Failed cause → answer (Busy x) (send_ended telegram t) ≡ answer Idle (send_ended telegram t)

    -- One that waits refuses it by 40, and then by 41, whatever was sent.
    abbrev pub WaitingRefuses : Type 0
    WaitingRefuses = x.state ≡ Waiting → answer (Busy x) (send_ended telegram t) ≡ refusal (cond (earlier x.last.0 t.0) 40 41)

    -- One that asks for a resend refuses it by 40 first, whatever was sent.
    abbrev pub ResendEarly : Type 0
    ResendEarly = (cause : Cause) → x.state ≡ Resend cause → t.0 < x.last.0 → answer (Busy x) (send_ended telegram t) ≡ refusal 40

-- ---- a line and a tick, where neither is called for

-- Given none they are 41;
abbrev pub NoneHears : Type 0
NoneHears = (line : List ℕ) (t : Clock) → (answer Idle (heard line t) ≡ refusal 41) × (answer Idle (tick t) ≡ refusal 41)

-- after the end they are 40, and then 41.
abbrev pub EndedHears : Type 0
EndedHears =
    (x : Exchange) → ended x.state ≡ true → (line : List ℕ) (t : Clock)
    → (answer (Busy x) (heard line t) ≡ refusal (cond (earlier x.last.0 t.0) 40 41))
    × (answer (Busy x) (tick t) ≡ refusal (cond (earlier x.last.0 t.0) 40 41))

-- ---- every history

module _ (h : List Step) (x : Exchange) (stood : after h ≡ Busy x) where
  -- It reports exactly the sends made, never more than three, and all of them were of its request.
  abbrev pub SendsReported : Type 0
  SendsReported = (x.sends ≡ length (made h)) × (length (made h) ≤ 3) × Ask x.request (made h)

  -- It ends well only by a line that was heard while a send was outstanding, not before that send's end and at most 450 after it, and that fits.
  abbrev pub EndsWell : Type 0
  EndsWell = x.state ≡ Well → EndedWell Idle [] h x

  -- And by every such line that is heard not before the last step it does, whichever of the three sends is outstanding.
  abbrev pub TakesReply : Type 0
  TakesReply =
      (send : Send) (others : List Send) (line : List ℕ) (t : Clock) (telegram : Telegram)
      → x.state ≡ Waiting
      → made h ≡ send ∷ others
      → x.last.0 ≤ t.0
      → t.0 ≤ send.end.0 + reply_time
      → read_line line ≡ reads telegram
      → fits x.request (outlined (reads telegram)) ≡ true
      → answer (Busy x) (heard line t) ≡ reads (moved x Well t)

  module _ (send : Send) (others : List Send) (t : Clock) (waiting : x.state ≡ Waiting) (last_send : made h ≡ send ∷ others)
      (in_order : x.last.0 ≤ t.0) where
    -- A line in time that does not fit fails the send: the first and second then ask for a resend, the third ends the exchange with its cause.
    abbrev pub FailsByLine : Type 0
    FailsByLine =
        (line : List ℕ) → t.0 ≤ send.end.0 + reply_time → fits x.request (outlined (read_line line)) ≡ false
        → SendFails h x (cause_of (outlined (read_line line))) t (answer (Busy x) (heard line t))

    -- Past the window every line is silence, as a tick is, and fails the send in the same way.
    abbrev pub FailsBySilence : Type 0
    FailsBySilence =
        (line : List ℕ) → send.end.0 + reply_time < t.0
        → SendFails h x Silent t (answer (Busy x) (heard line t)) × SendFails h x Silent t (answer (Busy x) (tick t))

  module _ (cause : Cause) (asked : x.state ≡ Resend cause) where
    -- Where a resend is asked for, the end of a send of the same request is the next send; a different request, ack and data are 43.
    module _ (telegram : Telegram) (t : Clock) (in_order : x.last.0 ≤ t.0) where
      abbrev pub ResendRecorded : Type 0
      ResendRecorded =
          outlined (reads telegram) ≡ Asks x.request
          → answer (Busy x) (send_ended telegram t) ≡ reads (sending x.request (x.sends + 1) t)

      abbrev pub AnotherRefused : Type 0
      AnotherRefused = (outlined (reads telegram) ≡ Asks x.request → ⊥) → answer (Busy x) (send_ended telegram t) ≡ refusal 43

    -- A line that is heard meanwhile changes nothing.
    abbrev pub ResendStays : Type 0
    ResendStays = (line : List ℕ) (t : Clock) → next (Busy x) (heard line t) ≡ Busy x

-- Once ended, it stays as it is, until the end of a send of a request begins the next.
abbrev pub EndedStays : Type 0
EndedStays = (x : Exchange) → ended x.state ≡ true → (h : List Step) → (run (Busy x) h ≡ Busy x) ⊎ GivesWay x h
