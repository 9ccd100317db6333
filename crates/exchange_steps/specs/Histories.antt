-- Histories of a bench, one exchange after another: any list of steps, those that are refused included, and the account of sends that a host keeps beside it.
use Rattle.std.specs.Prelude.{ℕ, ◌+◌, ◌≤◌, ◌<◌, true, List, [], ◌∷◌, ◌++◌, ◌≡◌, length}
use Rattle.bench_clock.specs.declared.Clock.{Clock}
use Rattle.bench_clock.specs.Times.{reply_time}
use Rattle.mbus_rules.specs.declared.Request.{Request}
use Rattle.mbus_rules.specs.declared.Telegram.{Telegram}
use Rattle.mbus_rules.specs.declared.Outline.TheVariants.{Asks}
use Rattle.base_rules.specs.Answers.{Answer, reads, refusal}
use Rattle.mbus_rules.specs.Lines.{read_line}
use Rattle.mbus_rules.specs.Outlines.{outlined}
use Rattle.exchange_steps.specs.declared.Cause.{Cause}
use Rattle.exchange_steps.specs.declared.State.TheVariants.{Waiting, Resend, Well, Failed}
use Rattle.exchange_steps.specs.declared.Exchange.{Exchange}
use Rattle.exchange_steps.specs.declared.Slot.{Slot}
use Rattle.exchange_steps.specs.declared.Slot.TheVariants.{Idle, Busy}
use Rattle.exchange_replies.specs.Fits.{fits}
use Rattle.exchange_steps.specs.Steps.{in_progress, begun, moved, send_ended_on, heard_on, tick_on}

-- A step as a host takes it.
pub data Step : Type 0 where
  send_ended : Telegram → Clock → Step
  heard : List ℕ → Clock → Step
  tick : Clock → Step

abbrev pub step_time : Step → Clock
step_time (send_ended telegram t) = t
step_time (heard line t) = t
step_time (tick t) = t

-- What is answered to a step.
abbrev pub answer : Slot → Step → Answer Exchange
answer b (send_ended telegram t) = send_ended_on b (outlined (reads telegram)) t
answer b (heard line t) = heard_on b (outlined (read_line line)) t
answer b (tick t) = tick_on b t

-- An exchange after a step: as it then stands, and after a refusal as it stood.
abbrev pub exchange_after : Exchange → Answer Exchange → Exchange
exchange_after x (refusal n) = x
exchange_after x (reads y) = y

-- The exchange as it then stands; a refused step leaves it, or none, as it stood.
abbrev pub stands : Slot → Answer Exchange → Slot
stands b (refusal n) = b
stands b (reads x) = Busy x

abbrev pub next : Slot → Step → Slot
next b s = stands b (answer b s)

unfoldable pub run : Slot → List Step → Slot
run b [] = b
run b (s ∷ h) = run (next b s) h

-- A send that was made: what was sent, and when that had ended.
pub record Send : Type 0 where
  pub telegram : Telegram
  pub end : Clock

-- A new exchange begins with no sends; one in progress has those made so far.
abbrev pub made_in : Slot → List Send → List Send
made_in Idle sends = []
made_in (Busy x) sends = sends

-- A send is made by a send's end that is accepted, and by nothing else.
abbrev pub noted : Slot → Step → Answer Exchange → List Send → List Send
noted b (send_ended telegram t) (refusal n) sends = sends
noted b (send_ended telegram t) (reads x) sends = record { telegram = telegram; end = t } ∷ made_in (in_progress b) sends
noted b (heard line t) a sends = sends
noted b (tick t) a sends = sends

-- The sends made of the exchange that there then is, the last one first.
unfoldable pub sends_made : Slot → List Send → List Step → List Send
sends_made b sends [] = sends
sends_made b sends (s ∷ h) = sends_made (next b s) (noted b s (answer b s) sends) h

-- From none: how it stands after a history, and the sends made.
abbrev pub after : List Step → Slot
after h = run Idle h

abbrev pub made : List Step → List Send
made h = sends_made Idle [] h

-- Every send was one of the request.
unfoldable pub Ask : Request → List Send → Type 0
Ask request [] = Unit {0}
Ask request (s ∷ sends) = (outlined (reads s.telegram) ≡ Asks request) × Ask request sends

-- How an exchange ended well: a line was heard while a send was outstanding, it began at most 450 after that send's end, and
-- it reads as a telegram that fits the request.
pub record EndedWell (b : Slot) (sends : List Send) (h : List Step) (x : Exchange) : Type 0 where
  pub before : List Step
  pub line : List ℕ
  pub at : Clock
  pub later : List Step
  pub history : h ≡ before ++ (heard line at ∷ later)
  pub stood : Exchange
  pub outstanding : (run b before ≡ Busy stood) × (stood.state ≡ Waiting)
  pub send : Send
  pub others : List Send
  pub last_send : sends_made b sends before ≡ send ∷ others
  pub not_before : send.end.0 ≤ at.0
  pub in_time : at.0 ≤ send.end.0 + reply_time
  pub telegram : Telegram
  pub accepted : read_line line ≡ reads telegram
  pub fitting : fits x.request (outlined (reads telegram)) ≡ true
  pub ends : x ≡ moved stood Well at

-- What a failed send leaves, by the sends made: if it was the first or second, it asks for a resend; if it was the third, the exchange ends with
-- that cause.
pub record SendFails (h : List Step) (x : Exchange) (cause : Cause) (t : Clock) (a : Answer Exchange) : Type 0 where
  pub before_third : length (made h) < 3 → a ≡ reads (moved x (Resend cause) t)
  pub third : length (made h) ≡ 3 → a ≡ reads (moved x (Failed cause) t)

-- How an exchange that has ended gives way to the next: by the end of a send of a request, up to which it stayed as it was.
pub record GivesWay (x : Exchange) (h : List Step) : Type 0 where
  pub before : List Step
  pub telegram : Telegram
  pub request : Request
  pub at : Clock
  pub later : List Step
  pub history : h ≡ before ++ (send_ended telegram at ∷ later)
  pub stayed : run (Busy x) before ≡ Busy x
  pub asks : outlined (reads telegram) ≡ Asks request
  pub begins : next (Busy x) (send_ended telegram at) ≡ Busy (begun request at)
