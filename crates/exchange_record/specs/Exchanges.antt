-- The record of an exchange, or of none: `struct skarrowith_exchange` of include/skarrowith.h, 24 bytes, numbers low byte first.
use Rattle.std.specs.Prelude.{ℕ, Bool, not, cond, ◌&&◌, List, [], ◌∷◌, ◌++◌, eqb, ltb, leb, take, drop, replicate}
use Rattle.mbus_rules.specs.declared.Request.{Request}
use Rattle.mbus_rules.specs.declared.Request.TheVariants.{Read, Enter, Leave}
use Rattle.base_rules.specs.Answers.{Answer, reads, refuse, within, follow}
use Rattle.base_rules.specs.Lists.{at}
use Rattle.exchange_steps.specs.declared.Cause.{Cause}
use Rattle.exchange_steps.specs.declared.Cause.TheVariants.{Silent, Damaged, WrongKind}
use Rattle.exchange_steps.specs.declared.State.{State}
use Rattle.exchange_steps.specs.declared.State.TheVariants.{Waiting, Resend, Well, Failed}
use Rattle.exchange_steps.specs.declared.Exchange.{Exchange}
use Rattle.exchange_steps.specs.declared.Slot.{Slot}
use Rattle.exchange_steps.specs.declared.Slot.TheVariants.{Idle, Busy}
use Rattle.exchange_steps.specs.Steps.{most_sends, past}
use Rattle.base_lent.specs.Same.{same}
use Rattle.base_numbers.specs.Numbers.{number}
use Rattle.base_numbers.specs.Records.{record_of}
use Rattle.base_lent.specs.Recorded.{no_record, recorded}

abbrev pub exchange_size : ℕ
exchange_size = 24

-- ---- written

-- the request by its telegram's kind, 2 read, 3 enter, 4 leave, with address and method
abbrev pub request_bytes : Request → List ℕ
request_bytes (Read address) = 2 ∷ address ∷ 0 ∷ []
request_bytes (Enter address method) = 3 ∷ address ∷ method ∷ []
request_bytes (Leave address) = 4 ∷ address ∷ 0 ∷ []

abbrev pub cause_number : Cause → ℕ
cause_number Silent = 1
cause_number Damaged = 2
cause_number WrongKind = 3

-- what every step answers
abbrev pub state_number : State → ℕ
state_number Waiting = 1
state_number (Resend cause) = 2
state_number Well = 3
state_number (Failed cause) = 4

-- the cause, 0 where there is none
abbrev pub cause_in : State → ℕ
cause_in Waiting = 0
cause_in (Resend cause) = cause_number cause
cause_in Well = 0
cause_in (Failed cause) = cause_number cause

-- request, state, cause and sends, and two bytes of 0
abbrev pub exchange_head : Request → State → ℕ → List ℕ
exchange_head request state sends = request_bytes request ++ (state_number state ∷ cause_in state ∷ sends ∷ 0 ∷ 0 ∷ [])

unfoldable pub exchange_bytes : Exchange → List ℕ
exchange_bytes x = record_of (exchange_head x.request x.state x.sends) (x.began.0 ∷ x.last.0 ∷ []) []

-- ---- read

abbrev pub request_of : ℕ → ℕ → ℕ → Request
request_of kind address method = cond (eqb kind 2) (Read address) (cond (eqb kind 3) (Enter address method) (Leave address))

abbrev pub cause_of_number : ℕ → Cause
cause_of_number n = cond (eqb n 1) Silent (cond (eqb n 2) Damaged WrongKind)

abbrev pub state_of : ℕ → ℕ → State
state_of n cause = cond (eqb n 1) Waiting (cond (eqb n 2) (Resend (cause_of_number cause)) (cond (eqb n 3) Well (Failed (cause_of_number cause))))

unfoldable pub exchange_in : List ℕ → Exchange
exchange_in b = record {
  request = request_of (at b 0) (at b 1) (at b 2);
  state = state_of (at b 3) (at b 4);
  sends = at b 5;
  began = record { 0 = number (take 8 (drop 8 b)) };
  last = record { 0 = number (take 8 (drop 16 b)) };
}

-- ---- which exchanges some run reaches

-- The cause of a failed send goes with the time of the step that failed it: silence is late, a line that was judged is not.
abbrev pub fails_by : Cause → Bool → Bool
fails_by Silent late = late
fails_by Damaged late = not late
fails_by WrongKind late = not late

-- A resend is asked for before the third send and the exchange fails by the third; it waits, or has ended well, inside the window.
abbrev pub stands_at : State → ℕ → Bool → Bool
stands_at Waiting sends late = not late
stands_at (Resend cause) sends late = ltb sends most_sends && fails_by cause late
stands_at Well sends late = not late
stands_at (Failed cause) sends late = eqb sends most_sends && fails_by cause late

-- One to three sends, the last step not before the last send's end, and a state that goes with both.
abbrev pub reached : Exchange → Bool
reached x =
    ltb 0 x.sends
    && (leb x.sends most_sends
    && (leb x.began.0 x.last.0
    && stands_at x.state x.sends (past x x.last)))

-- The exchange whose record the bytes are, or 101 where they are none's that a run reaches.
abbrev pub exchange_from : List ℕ → Answer Exchange
exchange_from b = follow (recorded exchange_bytes exchange_in b) (λ x. refuse no_record (not (reached x)) (reads x))

-- ---- none or an exchange

-- 02, 2026-09: none is a record of zeros.
abbrev pub none_bytes : List ℕ
none_bytes = replicate exchange_size 0

abbrev pub slot_bytes : Slot → List ℕ
slot_bytes Idle = none_bytes
slot_bytes (Busy x) = exchange_bytes x

abbrev pub slot_from : List ℕ → Answer Slot
slot_from b = cond (same b none_bytes) (reads Idle) (within Busy (exchange_from b))
