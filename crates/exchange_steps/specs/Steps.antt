-- 01, "The exchange", and 02, 2026-09: the one way to say that a send has ended, lines and ticks. Each takes the exchange as it stood, or none, and gives
-- the exchange as it then stands.
use Rattle.std.specs.Prelude.{ℕ, ◌+◌, Bool, true, false, cond, not, ◌&&◌, eqb, ltb, Result, Ok, Err}
use Rattle.bench_clock.specs.declared.Clock.{Clock}
use Rattle.bench_clock.specs.Times.{late, earlier}
use Rattle.mbus_rules.specs.declared.Request.{Request}
use Rattle.mbus_rules.specs.declared.Request.TheVariants.{Read, Enter, Leave}
use Rattle.mbus_rules.specs.declared.Telegram.{Telegram}
use Rattle.mbus_rules.specs.declared.Outline.{Outline}
use Rattle.mbus_rules.specs.declared.Outline.TheVariants as outlines
use Rattle.base_rules.specs.Answers.{Answer, reads, refusal, refuse, follow}
use Rattle.base_rules.specs.declared.refusals.Refusal.{Refusal}
use Rattle.base_rules.specs.Shown as answers
use Rattle.mbus_rules.specs.Telegrams.{blank, telegram_read}
use Rattle.mbus_rules.specs.Outlines.{outlined}
use Rattle.exchange_steps.specs.declared.Cause.{Cause}
use Rattle.exchange_steps.specs.declared.Cause.TheVariants.{Silent, Damaged, WrongKind}
use Rattle.exchange_steps.specs.declared.State.{State}
use Rattle.exchange_steps.specs.declared.State.TheVariants.{Waiting, Resend, Well, Failed}
use Rattle.exchange_steps.specs.declared.Exchange.{Exchange}
use Rattle.exchange_steps.specs.declared.Slot.{Slot}
use Rattle.exchange_steps.specs.declared.Slot.TheVariants.{Idle, Busy}
use Rattle.exchange_steps.specs.declared.Heard.{Heard}
use Rattle.exchange_replies.specs.Fits.{fits}

-- ---- the state that comes next

-- A failed send, if it was the first or second, asks for a resend; if it was the third, the exchange ends with that cause.
abbrev pub most_sends : ℕ
most_sends = 3

abbrev pub failed : ℕ → Cause → State
failed sends cause = cond (ltb sends most_sends) (Resend cause) (Failed cause)

-- A line that does not fit fails its send as damaged (refused line) or wrong kind.
abbrev pub cause_of : Outline → Cause
cause_of (outlines.Refused n) = Damaged
cause_of outlines.Ack = WrongKind
cause_of (outlines.Asks other) = WrongKind
cause_of (outlines.Data answers) = WrongKind

-- Line heard: more than 450 after the send counts as silence and the line is ignored; otherwise a fitting line ends the
-- exchange well, and another fails this send.
abbrev pub after_line : Request → ℕ → Bool → Outline → State
after_line request sends silent outline = cond silent (failed sends Silent) (cond (fits request outline) Well (failed sends (cause_of outline)))

-- Tick: more than 450 after the send fails it as silent; 450 or less leaves the state.
abbrev pub after_tick : ℕ → Bool → State
after_tick sends silent = cond silent (failed sends Silent) Waiting

-- ---- which step is called for

-- Lines and ticks are called for only while waiting.
abbrev pub waits : State → Bool
waits Waiting = true
waits (Resend cause) = false
waits Well = false
waits (Failed cause) = false

-- Sent, only when a resend is asked for; after the third send none is.
abbrev pub asks_resend : State → ℕ → Bool
asks_resend Waiting sends = false
asks_resend (Resend cause) sends = ltb sends most_sends
asks_resend Well sends = false
asks_resend (Failed cause) sends = false

-- An exchange that has ended, well or by a cause.
abbrev pub ended : State → Bool
ended Waiting = false
ended (Resend cause) = false
ended Well = true
ended (Failed cause) = true

-- 02, 2026-09: an exchange that has ended counts as none.
abbrev pub in_progress : Slot → Slot
in_progress Idle = Idle
in_progress (Busy x) = cond (ended x.state) Idle (Busy x)

-- ---- which request a resend may carry

-- The method counts only for an enter.
abbrev pub same_request : Request → Request → Bool
same_request (Read a) (Read b) = eqb a b
same_request (Read a) (Enter b n) = false
same_request (Read a) (Leave b) = false
same_request (Enter a m) (Read b) = false
same_request (Enter a m) (Enter b n) = eqb a b && eqb m n
same_request (Enter a m) (Leave b) = false
same_request (Leave a) (Read b) = false
same_request (Leave a) (Enter b n) = false
same_request (Leave a) (Leave b) = eqb a b

-- 02, 2026-09: the request given with a resend must be the one the exchange was begun with; an ack and data are none.
abbrev pub asks_for : Request → Outline → Bool
asks_for request (outlines.Refused n) = false
asks_for request outlines.Ack = false
asks_for request (outlines.Asks other) = same_request request other
asks_for request (outlines.Data answers) = false

-- ---- the exchange that comes next

-- A send of the request has ended at t, and it was so many sends with this one.
abbrev pub sending : Request → ℕ → Clock → Exchange
sending request sends t = record { request = request; state = Waiting; sends = sends; began = t; last = t }

-- A fresh exchange: waiting, with one send.
abbrev pub begun : Request → Clock → Exchange
begun request t = sending request 1 t

-- A line or a tick at t: the state and the last time are new, and the rest stays.
abbrev pub moved : Exchange → State → Clock → Exchange
moved x state t = record { request = x.request; state = state; sends = x.sends; began = x.began; last = t }

-- t is more than 450 after the send.
abbrev pub past : Exchange → Clock → Bool
past x t = late x.began.0 t.0

-- Refusals 40, time earlier than the last step's, and then 41, step not called for in this state.
abbrev pub step : Exchange → Clock → Bool → Exchange → Answer Exchange
step x t called next = refuse 40 (earlier x.last.0 t.0) (refuse 41 (not called) (reads next))

abbrev pub heard_in : Exchange → Outline → Clock → Answer Exchange
heard_in x outline t = step x t (waits x.state) (moved x (after_line x.request x.sends (past x t) outline) t)

abbrev pub tick_in : Exchange → Clock → Answer Exchange
tick_in x t = step x t (waits x.state) (moved x (after_tick x.sends (past x t)) t)

-- Sent at t: waiting again, one send more.
abbrev pub sent_in : Exchange → Clock → Answer Exchange
sent_in x t = step x t (asks_resend x.state x.sends) (sending x.request (x.sends + 1) t)

-- 02, 2026-09: a different request at a resend is 43, after 40 and 41.
abbrev pub resent_in : Exchange → Outline → Clock → Answer Exchange
resent_in x outline t = follow (sent_in x t) (λ y. refuse 43 (not (asks_for x.request outline)) (reads y))

-- A new exchange: 42 with ack or data.
abbrev pub start_with : Outline → Clock → Answer Exchange
start_with (outlines.Refused n) t = refusal 42
start_with outlines.Ack t = refusal 42
start_with (outlines.Asks request) t = reads (begun request t)
start_with (outlines.Data answers) t = refusal 42

-- ---- none or an exchange

-- 02, 2026-09: given no exchange in progress it begins one, given an exchange that asks for a resend it records the next send.
abbrev pub send_ended_in : Slot → Outline → Clock → Answer Exchange
send_ended_in Idle outline t = start_with outline t
send_ended_in (Busy x) outline t = resent_in x outline t

-- The last time of an exchange that has ended no longer binds.
abbrev pub send_ended_on : Slot → Outline → Clock → Answer Exchange
send_ended_on b outline t = send_ended_in (in_progress b) outline t

-- Lines and ticks are not called for where there is none.
abbrev pub heard_on : Slot → Outline → Clock → Answer Exchange
heard_on Idle outline t = refusal 41
heard_on (Busy x) outline t = heard_in x outline t

abbrev pub tick_on : Slot → Clock → Answer Exchange
tick_on Idle t = refusal 41
tick_on (Busy x) t = tick_in x t

-- ---- what the program answers

-- The step ended the exchange well.
abbrev pub is_well : State → Bool
is_well Waiting = false
is_well (Resend cause) = false
is_well Well = true
is_well (Failed cause) = false

abbrev pub ends_well : Result Exchange Refusal → Bool
ends_well (Err e) = false
ends_well (Ok x) = is_well x.state

-- The whole answer for a line heard, by what reading the line answers. The reply is the telegram of the line by which the
-- exchange ended well; where it did not, it is blank.
abbrev pub heard_of : Slot → Answer Telegram → Clock → Heard
heard_of b reading t = record {
  stepped = answers.shown (heard_on b (outlined reading) t);
  reply = cond (ends_well (answers.shown (heard_on b (outlined reading) t))) (telegram_read reading) blank;
}
