-- 01, "The exchange": which reply fits which request, why a send fails, and an exchange by a run in which every number is different.
use Rattle.std.specs.Prelude.{ℕ, ◌<◌, true, false, List, [], ◌∷◌, ◌↔◌, ◌⊎◌, ◌≡◌}
use Rattle.base_rules.specs.Answers.{Answer, reads, refusal}
use Rattle.bench_clock.specs.declared.Clock.{Clock}
use Rattle.bench_clock.specs.Times.{earlier}
use Rattle.mbus_rules.specs.declared.Kind.TheVariants as kinds
use Rattle.mbus_rules.specs.declared.Request.{Request}
use Rattle.mbus_rules.specs.declared.Request.TheVariants.{Read, Enter, Leave}
use Rattle.mbus_rules.specs.declared.Outline.TheVariants.{Asks}
use Rattle.mbus_rules.specs.declared.Telegram.{Telegram}
use Rattle.mbus_rules.specs.FourFlips.{data_line}
use Rattle.mbus_rules.specs.Lines.{is_method}
use Rattle.mbus_rules.specs.Outlines.{outlined}
use Rattle.mbus_rules.specs.Telegrams.{enter_of, leave_of}
use Rattle.exchange_replies.specs.Fits.{fits}
use Rattle.exchange_steps.specs.declared.Cause.TheVariants.{Silent, Damaged, WrongKind}
use Rattle.exchange_steps.specs.declared.Exchange.{Exchange}
use Rattle.exchange_steps.specs.declared.State.{State}
use Rattle.exchange_steps.specs.declared.State.TheVariants.{Waiting, Resend, Well, Failed}
use Rattle.exchange_steps.specs.declared.Slot.{Slot}
use Rattle.exchange_steps.specs.declared.Slot.TheVariants.{Idle}
use Rattle.exchange_steps.specs.Steps.{cause_of}
use Rattle.exchange_steps.specs.Histories.{Step, send_ended, heard, tick, answer, next}

-- ---- requests and replies

-- A telegram asks by its kind: a read, an enter with its method, a leave, each at its address; an ack and data ask for nothing.
abbrev pub ReadAsks : Type 0
ReadAsks = (t : Telegram) → t.kind ≡ kinds.Read → outlined (reads t) ≡ Asks (Read t.address)

abbrev pub EnterAsks : Type 0
EnterAsks = (t : Telegram) → t.kind ≡ kinds.Enter → outlined (reads t) ≡ Asks (Enter t.address t.method)

abbrev pub LeaveAsks : Type 0
LeaveAsks = (t : Telegram) → t.kind ≡ kinds.Leave → outlined (reads t) ≡ Asks (Leave t.address)

abbrev pub AckAndDataAskNothing : Type 0
AckAndDataAskNothing = (t : Telegram) (request : Request) → (t.kind ≡ kinds.Ack) ⊎ (t.kind ≡ kinds.Data) → outlined (reads t) ≡ Asks request → ⊥

-- Data fits a read if the asked address is FE or equals the answer's, and nothing else does.
abbrev pub FitsARead : Type 0
FitsARead =
    (asked : ℕ) (t : Telegram)
    → (fits (Read asked) (outlined (reads t)) ≡ true) ↔ ((t.kind ≡ kinds.Data) × ((asked ≡ 0xFE) ⊎ (asked ≡ t.address)))

-- Ack fits enter and leave, and nothing else does.
abbrev pub FitsAnEnter : Type 0
FitsAnEnter = (asked method : ℕ) (t : Telegram) → (fits (Enter asked method) (outlined (reads t)) ≡ true) ↔ (t.kind ≡ kinds.Ack)

abbrev pub FitsALeave : Type 0
FitsALeave = (asked : ℕ) (t : Telegram) → (fits (Leave asked) (outlined (reads t)) ≡ true) ↔ (t.kind ≡ kinds.Ack)

-- A refused line fits nothing.
abbrev pub RefusedFitsNothing : Type 0
RefusedFitsNothing = (request : Request) (n : ℕ) → fits request (outlined (refusal n)) ≡ false

-- A line that does not fit fails its send as damaged, if the line is refused, or as wrong kind.
abbrev pub CauseOfAFailure : Type 0
CauseOfAFailure = ((n : ℕ) → cause_of (outlined (refusal n)) ≡ Damaged) × ((t : Telegram) → cause_of (outlined (reads t)) ≡ WrongKind)

-- A time is earlier than another where it is below it.
abbrev pub EarlierIsBelow : Type 0
EarlierIsBelow = (last t : ℕ) → (earlier last t ≡ true) ↔ (t < last)

-- The methods of an enter are 90, 91 and 92.
abbrev pub ThreeMethods : Type 0
ThreeMethods = (s : ℕ) → (is_method s ≡ true) ↔ ((s ≡ 0x90) ⊎ ((s ≡ 0x91) ⊎ (s ≡ 0x92)))

-- ---- a run

-- what is answered to each step, one after another
unfoldable pub answers_to : Slot → List Step → List (Answer Exchange)
answers_to slot [] = []
answers_to slot (s ∷ h) = answer slot s ∷ answers_to (next slot s) h

abbrev pub at : ℕ → Clock
at n = record { 0 = n }

-- an exchange of an enter with method 91 at address 7
abbrev pub entering : State → ℕ → ℕ → ℕ → Exchange
entering state sends began last = record { request = Enter 0x07 0x91; state = state; sends = sends; began = at began; last = at last }

abbrev pub enter7 : Telegram
enter7 = enter_of 0x07 0x91

-- Its steps: times that go back, a leave and another method where it is asked for again, and a line where it is not waited for are among them.
abbrev pub three_sends : List Step
three_sends =
    tick (at 900)
    ∷ send_ended enter7 (at 1000)
    ∷ tick (at 1210)
    ∷ tick (at 1209)
    ∷ send_ended enter7 (at 1220)
    ∷ heard (0x0E5 ∷ []) (at 1450)
    ∷ heard (0x1E5 ∷ []) (at 1460)
    ∷ send_ended (leave_of 0x07) (at 1500)
    ∷ send_ended (enter_of 0x07 0x90) (at 1500)
    ∷ send_ended enter7 (at 1449)
    ∷ send_ended enter7 (at 1501)
    ∷ heard data_line (at 1702)
    ∷ send_ended enter7 (at 2003)
    ∷ heard (0x1E5 ∷ []) (at 2454)
    ∷ tick (at 2460)
    ∷ send_ended (leave_of 0x09) (at 805)
    ∷ heard (0x1E5 ∷ []) (at 1255)
    ∷ []

-- What is answered: each step leaves what it has no part in, and a refused step all.
abbrev pub ThreeSendsAnswered : Type 0
ThreeSendsAnswered =
    answers_to Idle three_sends
    ≡ refusal 41
    ∷ reads (entering Waiting 1 1000 1000)
    ∷ reads (entering Waiting 1 1000 1210)
    ∷ refusal 40
    ∷ refusal 41
    ∷ reads (entering (Resend Damaged) 1 1000 1450)
    ∷ refusal 41
    ∷ refusal 43
    ∷ refusal 43
    ∷ refusal 40
    ∷ reads (entering Waiting 2 1501 1501)
    ∷ reads (entering (Resend WrongKind) 2 1501 1702)
    ∷ reads (entering Waiting 3 2003 2003)
    ∷ reads (entering (Failed Silent) 3 2003 2454)
    ∷ refusal 41
    ∷ reads (record { request = Leave 0x09; state = Waiting; sends = 1; began = at 805; last = at 805 })
    ∷ reads (record { request = Leave 0x09; state = Well; sends = 1; began = at 805; last = at 1255 })
    ∷ []
