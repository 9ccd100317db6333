-- What every history keeps: the exchange's count, times and request are those of the sends made, and its state goes with the count.
use Prim.Native.Nat.{ℕ, suc, ◌+◌, ◌≤◌, ◌<◌}
use native.Mathlib.Nat.{le_refl, le_trans}
use native.Mathlib.Omega.{arith}
use native.Mathlib.Numerals.{add-one}
use mathlib.Core.Bool.{Bool, true, false}
use mathlib.Core.List.{List, [], ◌∷◌}
use mathlib.Core.Path.{◌≡◌, refl, sym, ap, subst, ◌∙◌}
use lib.Dec.{ltb}
use lib.ListN.{length}
use borrow.Author.Tests.{ltb-true, ltb-false}
use Rattle.bench_clock.specs.declared.Clock.{Clock}
use Rattle.mbus_rules.specs.declared.Request.{Request}
use Rattle.mbus_rules.specs.declared.Telegram.{Telegram}
use Rattle.mbus_rules.specs.declared.Outline.{Outline}
use Rattle.mbus_rules.specs.declared.Outline.TheVariants.{Asks}
use Rattle.base_rules.specs.Answers.{Answer, reads}
use Rattle.mbus_rules.specs.Lines.{read_line}
use Rattle.mbus_rules.specs.Outlines.{outlined}
use Rattle.exchange_steps.specs.declared.Cause.{Cause}
use Rattle.exchange_steps.specs.declared.Cause.TheVariants.{Silent}
use Rattle.exchange_steps.specs.declared.State.{State}
use Rattle.exchange_steps.specs.declared.State.TheVariants.{Waiting, Resend, Well, Failed}
use Rattle.exchange_steps.specs.declared.Exchange.{Exchange}
use Rattle.exchange_steps.specs.declared.Slot.{Slot}
use Rattle.exchange_steps.specs.declared.Slot.TheVariants.{Idle, Busy}
use Rattle.exchange_replies.specs.Fits.{fits}
use Rattle.exchange_steps.specs.Steps.{most_sends, failed, cause_of, after_line, after_tick, waits, sending, begun, moved, past, step}
use Rattle.exchange_steps.proofs.Laws.Steps.{asks_few, by_cond, step_cases, in_progress_is, send_cases}
use Rattle.exchange_steps.specs.Histories.{Step, send_ended, heard, tick, answer, stands, next, run, Send, made_in, noted, sends_made, Ask}

-- ---- the state and the count

-- a resend is asked for after less than three sends, and the exchange fails after three
abbrev pub Agrees : State → ℕ → Type 0
Agrees Waiting sends = Unit
Agrees (Resend cause) sends = sends < most_sends
Agrees Well sends = Unit
Agrees (Failed cause) sends = sends ≡ most_sends

module _ (sends : ℕ) (few : sends ≤ most_sends) where
  failed_agrees : (cause : Cause) → Agrees (failed sends cause) sends
  failed_agrees cause =
      by_cond (λ (s : State). Agrees s sends) (ltb sends most_sends) (Resend cause) (Failed cause) (ltb-true sends most_sends)
      (λ e. let h = ltb-false sends most_sends e in omega arith)

  line_agrees : (request : Request) (silent : Bool) (outline : Outline) → Agrees (after_line request sends silent outline) sends
  line_agrees request true outline = failed_agrees Silent
  line_agrees request false outline =
      by_cond (λ (s : State). Agrees s sends) (fits request outline) Well (failed sends (cause_of outline)) (λ e. tt) (λ e. failed_agrees (cause_of outline))

  tick_agrees : (silent : Bool) → Agrees (after_tick sends silent) sends
  tick_agrees true = failed_agrees Silent
  tick_agrees false = tt

-- ---- what is kept

pub record Kept (x : Exchange) (sends : List Send) : Type 0 where
  pub count : x.sends ≡ length sends
  pub few : x.sends ≤ most_sends
  pub send : Send
  pub others : List Send
  pub last_send : sends ≡ send ∷ others
  pub began : x.began ≡ send.end
  pub in_order : x.began.0 ≤ x.last.0
  pub agrees : Agrees x.state x.sends
  pub asked : Ask x.request sends

-- of an exchange; where there is none, nothing is
abbrev pub KeptBy : Slot → List Send → Type 0
KeptBy Idle sends = Unit {0}
KeptBy (Busy x) sends = Kept x sends

abbrev send_of : Telegram → Clock → Send
send_of telegram t = record { telegram = telegram; end = t }

kept_begun : (telegram : Telegram) (request : Request) (t : Clock) → outlined (reads telegram) ≡ Asks request
    → Kept (begun request t) (send_of telegram t ∷ [])
unfolding Ask
kept_begun telegram request t v = record {
  count = refl;
  few = omega arith;
  send = send_of telegram t;
  others = [];
  last_send = refl;
  began = refl;
  in_order = le_refl t.0;
  agrees = tt;
  asked = (v, tt);
}

module _ (x : Exchange) (sends : List Send) (k : Kept x sends) where
  -- a line or a tick, accepted or refused
  kept_moved : (state : State) (t : Clock) (called : Bool) → Agrees state x.sends → KeptBy (stands (Busy x) (step x t called (moved x state t))) sends
  kept_moved state t called g =
      step_cases x t (λ (a : Answer Exchange). KeptBy (stands (Busy x) a) sends) called (moved x state t) (λ n. k)
      (λ h c. record {
        count = k.count;
        few = k.few;
        send = k.send;
        others = k.others;
        last_send = k.last_send;
        began = k.began;
        in_order = le_trans k.in_order h;
        agrees = g;
        asked = k.asked;
      })

  -- a resend of the request
  kept_resent : (telegram : Telegram) (t : Clock) → outlined (reads telegram) ≡ Asks x.request → x.sends < most_sends
      → Kept (sending x.request (x.sends + 1) t) (send_of telegram t ∷ sends)
  unfolding Ask
  kept_resent telegram t v fewer = record {
    count = add-one x.sends ∙ ap suc k.count;
    few = omega arith;
    send = send_of telegram t;
    others = sends;
    last_send = refl;
    began = refl;
    in_order = le_refl t.0;
    agrees = tt;
    asked = (v, k.asked);
  }

-- the end of a send, accepted or refused
kept_send : (b : Slot) (sends : List Send) → KeptBy b sends → (telegram : Telegram) (t : Clock)
    → KeptBy (next b (send_ended telegram t)) (noted b (send_ended telegram t) (answer b (send_ended telegram t)) sends)
kept_send b sends k telegram t =
    send_cases b (outlined (reads telegram)) t (λ (a : Answer Exchange). KeptBy (stands b a) (noted b (send_ended telegram t) a sends)) (λ n. k)
    (λ i request v. subst (λ (c : Slot). Kept (begun request t) (send_of telegram t ∷ made_in c sends)) (sym i) (kept_begun telegram request t v))
    (λ x i v l c. let stood : Kept x sends = subst (λ (c : Slot). KeptBy c sends) (in_progress_is b x i) k in
    subst (λ (c : Slot). Kept (sending x.request (x.sends + 1) t) (send_of telegram t ∷ made_in c sends)) (sym i)
    (kept_resent x sends stood telegram t v (asks_few x.state x.sends c)))

pub kept_step : (b : Slot) (sends : List Send) → KeptBy b sends → (s : Step) → KeptBy (next b s) (noted b s (answer b s) sends)
kept_step b sends k (send_ended telegram t) = kept_send b sends k telegram t
kept_step Idle sends k (heard line t) = tt
kept_step (Busy x) sends k (heard line t) =
    kept_moved x sends k _ t (waits x.state) (line_agrees x.sends k.few x.request (past x t) (outlined (read_line line)))
kept_step Idle sends k (tick t) = tt
kept_step (Busy x) sends k (tick t) = kept_moved x sends k _ t (waits x.state) (tick_agrees x.sends k.few (past x t))

-- Every history keeps it.
pub kept : (b : Slot) (sends : List Send) → KeptBy b sends → (h : List Step) → KeptBy (run b h) (sends_made b sends h)
unfolding run sends_made
kept b sends k [] = k
kept b sends k (s ∷ h) = kept (next b s) (noted b s (answer b s) sends) (kept_step b sends k s) h
