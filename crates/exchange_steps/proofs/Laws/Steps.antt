-- Laws of `specs/Steps`.
use Prim.Native.Nat.{ℕ, ◌+◌, ◌≤◌, ◌<◌}
use Rattle.std.specs.Prelude.{Result}
use mathlib.Core.Bool.{Bool, true, false, cond, not, true≢false, and-eq-true_iff}
use mathlib.Core.Path.{◌≡◌, refl, sym, ap, ap₂, ◌∙◌}
use native.Mathlib.Omega.{arith}
use borrow.Author.Tests.{ltb-true, ltb-false, lt-ltb, le-ltb, not-false, eqb-true, eq-eqb}
use lib.Dec.{eqb}
use Rattle.bench_clock.specs.declared.Clock.{Clock}
use Rattle.bench_clock.specs.Times.{reply_time, earlier}
use Rattle.bench_clock.proofs.Laws.Times.{late_true, late_false}
use Rattle.mbus_rules.specs.declared.Request.{Request}
use Rattle.mbus_rules.specs.declared.Request.TheVariants.{Read, Enter, Leave}
use Rattle.mbus_rules.specs.declared.Telegram.{Telegram}
use Rattle.mbus_rules.specs.declared.Outline.{Outline}
use Rattle.mbus_rules.specs.declared.Outline.TheVariants as outlines
use Rattle.base_rules.specs.Answers.{Answer, reads, refusal, refuse, follow}
use Rattle.base_rules.specs.declared.refusals.Refusal.{Refusal}
use Rattle.base_rules.specs.Shown as answers
use Rattle.mbus_rules.specs.Telegrams.{blank, telegram_read}
use Rattle.base_rules.proofs.Laws.Tests.{by_test}
use Rattle.mbus_rules.specs.Outlines.{outlined}
use Rattle.exchange_steps.specs.declared.Cause.TheVariants.{Silent}
use Rattle.exchange_steps.specs.declared.State.{State}
use Rattle.exchange_steps.specs.declared.State.TheVariants.{Waiting, Resend, Well, Failed}
use Rattle.exchange_steps.specs.declared.Exchange.{Exchange}
use Rattle.exchange_steps.specs.declared.Slot.{Slot}
use Rattle.exchange_steps.specs.declared.Slot.TheVariants.{Idle, Busy}
use Rattle.exchange_steps.specs.declared.Heard.{Heard}
use Rattle.exchange_replies.specs.Fits.{fits}
use Rattle.exchange_steps.specs.Steps.{most_sends, failed, cause_of, after_line, after_tick, waits, asks_resend, moved, past, step, heard_in, tick_in}
use Rattle.exchange_steps.specs.Steps.{ends_well, heard_of, ended, in_progress, same_request, asks_for, sending, begun, sent_in, resent_in}
use Rattle.exchange_steps.specs.Steps.{start_with, send_ended_in, send_ended_on, heard_on}

-- ---- laws

-- the answer of a tick and of a line heard, from its parts
module _ (x : Exchange) (t : Clock) {called silent : Bool} {state : State} {next : Exchange} {s : Result Exchange Refusal} (c : called ≡ waits x.state)
    (p : silent ≡ past x t)
    (n : next ≡ moved x state t) (e : s ≡ answers.shown (step x t called next)) where
  moved_parts : {after : State} → state ≡ after → s ≡ answers.shown (step x t (waits x.state) (moved x after t))
  moved_parts q = e ∙ ap₂ (λ (b : Bool) (y : Exchange). answers.shown (step x t b y)) c (n ∙ ap (λ (z : State). moved x z t) q)

  pub tick_parts : state ≡ after_tick x.sends silent → s ≡ answers.shown (tick_in x t)
  tick_parts q = moved_parts (q ∙ ap (after_tick x.sends) p)

  pub line_parts : (outline : Outline) → state ≡ after_line x.request x.sends silent outline → s ≡ answers.shown (heard_in x outline t)
  line_parts outline q = moved_parts (q ∙ ap (λ (b : Bool). after_line x.request x.sends b outline) p)

-- the whole answer for a line heard: the step, and the reply
pub heard_parts : (b : Slot) (reading : Answer Telegram) (t : Clock) {s : Result Exchange Refusal} {r : Telegram}
    → s ≡ answers.shown (heard_on b (outlined reading) t) → r ≡ cond (ends_well s) (telegram_read reading) blank
    → ◌≡◌ {A = Heard} (record { stepped = s; reply = r }) (heard_of b reading t)
heard_parts b reading t e q =
    λ i. record {
      stepped = e i;
      reply = (q ∙ ap (λ (u : Result Exchange Refusal). cond (ends_well u) (telegram_read reading) blank) e) i;
    }

-- a resend is asked for only before the third send
pub asks_few : (state : State) (sends : ℕ) → asks_resend state sends ≡ true → sends < most_sends
asks_few Waiting sends e = absurd (true≢false (sym e))
asks_few (Resend cause) sends e = ltb-true sends most_sends e
asks_few Well sends e = absurd (true≢false (sym e))
asks_few (Failed cause) sends e = absurd (true≢false (sym e))

-- what a test decides has a property that both its outcomes have
pub by_cond : {A : Type 0} (P : A → Type 0) (test : Bool) (u v : A) → (test ≡ true → P u) → (test ≡ false → P v) → P (cond test u v)
by_cond P true u v f g = f refl
by_cond P false u v f g = g refl

one_of : (test : Bool) (m n : ℕ) → ◌≡◌ {A = Answer Exchange} (cond test (refusal m) (refusal n)) (refusal (cond test m n))
one_of true m n = refl
one_of false m n = refl

-- the number of a step at t that the state does not call for
abbrev pub refused_by : Exchange → Clock → ℕ
refused_by x t = cond (earlier x.last.0 t.0) 40 41

module _ (x : Exchange) (t : Clock) where
  -- what holds of every refusal, and of the next exchange where time and state allow the step, holds of the step's answer
  pub step_cases : (P : Answer Exchange → Type 0) (called : Bool) (next : Exchange) → ((n : ℕ) → P (refusal n))
      → (x.last.0 ≤ t.0 → called ≡ true → P (reads next)) → P (step x t called next)
  step_cases P called next refused taken =
      by_cond P (earlier x.last.0 t.0) (refusal 40) _ (λ e. refused 40)
      (λ e. by_cond P (not called) (refusal 41) (reads next) (λ d. refused 41)
      (λ d. taken (ltb-false t.0 x.last.0 e) (not-false called d)))

  pub step_taken : (called : Bool) (next : Exchange) → x.last.0 ≤ t.0 → called ≡ true → step x t called next ≡ reads next
  step_taken called next h c = rw (le-ltb t.0 x.last.0 h, c)

  pub uncalled : (called : Bool) (next : Exchange) → called ≡ false → step x t called next ≡ refusal (refused_by x t)
  uncalled called next c = rw c (one_of (earlier x.last.0 t.0) 40 41)

-- up to 450 after the send the window is open, and then it is past
pub open_window : (x : Exchange) (t : Clock) → t.0 ≤ x.began.0 + reply_time → past x t ≡ false
open_window x t h = by_test (past x t) (λ e. absurd (omega (arith, late_true))) (λ e. e)

pub past_window : (x : Exchange) (t : Clock) → x.began.0 + reply_time < t.0 → past x t ≡ true
past_window x t h = by_test (past x t) (λ e. e) (λ e. absurd (omega (arith, late_false)))

-- A line in time that does not fit fails the send, and past the window so does every line, as silence.
module _ (x : Exchange) (outline : Outline) (t : Clock) (w : x.state ≡ Waiting) (l : x.last.0 ≤ t.0) where
  pub line_fails : t.0 ≤ x.began.0 + reply_time → fits x.request outline ≡ false → heard_in x outline t
      ≡ reads (moved x (failed x.sends (cause_of outline)) t)
  line_fails i f = rw (open_window x t i, f) (step_taken x t (waits x.state) (moved x (failed x.sends (cause_of outline)) t) l (rw w))

  pub late_fails : x.began.0 + reply_time < t.0 → heard_in x outline t ≡ reads (moved x (failed x.sends Silent) t)
  late_fails i = rw (past_window x t i) (step_taken x t (waits x.state) (moved x (failed x.sends Silent) t) l (rw w))

pub tick_fails : (x : Exchange) (t : Clock) → x.state ≡ Waiting → x.last.0 ≤ t.0 → x.began.0 + reply_time < t.0
    → tick_in x t ≡ reads (moved x (failed x.sends Silent) t)
tick_fails x t w l i = rw (past_window x t i) (step_taken x t (waits x.state) (moved x (failed x.sends Silent) t) l (rw w))

-- ---- the request of a resend

same_request_lem : (q r : Request) → same_request q r ≡ true → r ≡ q
same_request_lem (Read a) (Read b) e = ap Read (sym (eqb-true a b e))
same_request_lem (Read a) (Enter b n) e = absurd (true≢false (sym e))
same_request_lem (Read a) (Leave b) e = absurd (true≢false (sym e))
same_request_lem (Enter a m) (Read b) e = absurd (true≢false (sym e))
same_request_lem (Enter a m) (Enter b n) e =
    let both = (and-eq-true_iff (eqb a b) (eqb m n)).0 e in
    ap₂ Enter (sym (eqb-true a b both.0)) (sym (eqb-true m n both.1))
same_request_lem (Enter a m) (Leave b) e = absurd (true≢false (sym e))
same_request_lem (Leave a) (Read b) e = absurd (true≢false (sym e))
same_request_lem (Leave a) (Enter b n) e = absurd (true≢false (sym e))
same_request_lem (Leave a) (Leave b) e = ap Leave (sym (eqb-true a b e))

-- What is the request, and nothing else, asks for it.
pub asks_only : (q : Request) (outline : Outline) → asks_for q outline ≡ true → outline ≡ outlines.Asks q
asks_only q (outlines.Refused n) e = absurd (true≢false (sym e))
asks_only q outlines.Ack e = absurd (true≢false (sym e))
asks_only q (outlines.Asks r) e = ap outlines.Asks (same_request_lem q r e)
asks_only q (outlines.Data answers) e = absurd (true≢false (sym e))

asks_itself : (q : Request) → asks_for q (outlines.Asks q) ≡ true
asks_itself (Read a) = eq-eqb a a refl
asks_itself (Enter a m) = rw (eq-eqb a a refl, eq-eqb m m refl)
asks_itself (Leave a) = eq-eqb a a refl

pub asks_request : (q : Request) (outline : Outline) → outline ≡ outlines.Asks q → asks_for q outline ≡ true
asks_request q outline e = ap (asks_for q) e ∙ asks_itself q

pub asks_another : (q : Request) (outline : Outline) → (outline ≡ outlines.Asks q → ⊥) → asks_for q outline ≡ false
asks_another q outline h = by_test (asks_for q outline) (λ e. absurd (h (asks_only q outline e))) (λ e. e)

-- ---- the next send of an exchange in progress

module _ (x : Exchange) (outline : Outline) (t : Clock) where
  abbrev judged : Bool → Answer Exchange → Answer Exchange
  judged same a = follow a (λ y. refuse 43 (not same) (reads y))

  unjudged : (a : Answer Exchange) → judged true a ≡ a
  unjudged (refusal n) = refl
  unjudged (reads y) = refl

  pub resent_same : asks_for x.request outline ≡ true → resent_in x outline t ≡ sent_in x t
  resent_same e = ap (λ (b : Bool). judged b (sent_in x t)) e ∙ unjudged (sent_in x t)

  -- 40 goes first, then 41, then 43
  pub resent_early : t.0 < x.last.0 → resent_in x outline t ≡ refusal 40
  resent_early l = rw (lt-ltb t.0 x.last.0 l)

  pub resent_uncalled : asks_resend x.state x.sends ≡ false → resent_in x outline t ≡ refusal (refused_by x t)
  resent_uncalled c = ap (judged (asks_for x.request outline)) (uncalled x t (asks_resend x.state x.sends) _ c)

  pub resent_differs : asks_for x.request outline ≡ false → x.last.0 ≤ t.0 → asks_resend x.state x.sends ≡ true → resent_in x outline t ≡ refusal 43
  resent_differs a l c =
      ap (λ (b : Bool). judged b (sent_in x t)) a ∙ ap (judged false) (step_taken x t (asks_resend x.state x.sends) _ l c)

-- ---- none or an exchange

pub ended_none : (x : Exchange) → ended x.state ≡ true → in_progress (Busy x) ≡ Idle
ended_none x e = rw e

pub goes_on : (x : Exchange) → ended x.state ≡ false → in_progress (Busy x) ≡ Busy x
goes_on x e = rw e

pub in_progress_is : (b : Slot) (x : Exchange) → in_progress b ≡ Busy x → b ≡ Busy x
in_progress_is Idle x e = e
in_progress_is (Busy y) x e = go (ended y.state) e
  where
    go : (d : Bool) → ◌≡◌ {A = Slot} (cond d Idle (Busy y)) (Busy x) → Busy y ≡ Busy x
    go true e = cc
    go false e = e

-- what holds of every refusal, of a new exchange and of a resend, holds of what the end of a send answers
pub send_cases : (b : Slot) (outline : Outline) (t : Clock) (P : Answer Exchange → Type 0)
    → ((n : ℕ) → P (refusal n))
    → (in_progress b ≡ Idle → (request : Request) → outline ≡ outlines.Asks request → P (reads (begun request t)))
    → ((x : Exchange) → in_progress b ≡ Busy x → outline ≡ outlines.Asks x.request → x.last.0 ≤ t.0 → asks_resend x.state x.sends ≡ true
    → P (reads (sending x.request (x.sends + 1) t)))
    → P (send_ended_on b outline t)
send_cases b outline t P refused begins resends = go (in_progress b) refl
  where
    new : (v : Outline) → outline ≡ v → (in_progress b ≡ Idle) → P (start_with v t)
    new (outlines.Refused n) v i = refused 42
    new outlines.Ack v i = refused 42
    new (outlines.Asks request) v i = begins i request v
    new (outlines.Data answers) v i = refused 42

    go : (c : Slot) → in_progress b ≡ c → P (send_ended_in c outline t)
    go Idle i = new outline refl i
    go (Busy x) i =
        step_cases x t (λ (a : Answer Exchange). P (follow a (λ y. refuse 43 (not (asks_for x.request outline)) (reads y))))
        (asks_resend x.state x.sends) (sending x.request (x.sends + 1) t) (λ n. refused n)
        (λ l c. by_cond P (not (asks_for x.request outline)) (refusal 43) (reads (sending x.request (x.sends + 1) t)) (λ d. refused 43)
        (λ d. resends x i (asks_only x.request outline (not-false (asks_for x.request outline) d)) l c))
