-- Theorems about every history from none: any list of steps, those that are refused included, one exchange after another.
use Prim.Native.Nat.{ℕ, ◌+◌, ◌≤◌, ◌<◌}
use native.Mathlib.Omega.{arith}
use mathlib.Core.Bool.{true, false}
use mathlib.Core.List.{List, [], ◌∷◌}
use mathlib.Core.Logic.{◌⊎◌, inl, inr, ⊎_elim}
use mathlib.Core.Path.{◌≡◌, refl, sym, ap, subst, ◌∙◌}
use lib.ListN.{length}
use borrow.Author.Tests.{lt-ltb}
use Rattle.bench_clock.specs.declared.Clock.{Clock}
use Rattle.bench_clock.specs.Times.{reply_time}
use Rattle.mbus_rules.specs.declared.Request.{Request}
use Rattle.mbus_rules.specs.declared.Telegram.{Telegram}
use Rattle.mbus_rules.specs.declared.Outline.{Outline}
use Rattle.mbus_rules.specs.declared.Outline.TheVariants as outlines
use Rattle.base_rules.specs.Answers.{Answer, reads, refusal}
use Rattle.mbus_rules.specs.Lines.{read_line}
use Rattle.mbus_rules.specs.Outlines.{outlined}
use Rattle.exchange_steps.specs.declared.Cause.{Cause}
use Rattle.exchange_steps.specs.declared.Cause.TheVariants.{Silent}
use Rattle.exchange_steps.specs.declared.State.{State}
use Rattle.exchange_steps.specs.declared.State.TheVariants.{Waiting, Resend, Well, Failed}
use Rattle.exchange_steps.specs.declared.Exchange.{Exchange}
use Rattle.exchange_steps.specs.declared.Slot.{Slot}
use Rattle.exchange_steps.specs.declared.Slot.TheVariants.{Idle, Busy}
use Rattle.exchange_replies.specs.Fits.{fits}
use Rattle.exchange_steps.specs.Steps.{failed, cause_of, waits, asks_resend, ended, sending, begun, moved, sent_in}
use Rattle.exchange_steps.specs.Steps.{resent_in, start_with, send_ended_in, heard_on, heard_of}
use Rattle.exchange_steps.proofs.Laws.Steps.{refused_by, uncalled, step_taken, open_window, past_window, line_fails, late_fails, tick_fails}
use Rattle.exchange_steps.proofs.Laws.Steps.{asks_request, asks_another, resent_same, resent_early, resent_uncalled, resent_differs}
use Rattle.exchange_steps.proofs.Laws.Steps.{ended_none, goes_on}
use Rattle.exchange_steps.specs.Histories.{Step, send_ended, heard, tick, answer, stands, next, run, after, Send, made}
use Rattle.exchange_steps.specs.Histories.{Ask, EndedWell, SendFails, GivesWay}
use Rattle.exchange_steps.proofs.Laws.Kept.{Agrees, Kept, KeptBy, kept}
use Rattle.exchange_steps.proofs.Laws.Endings.{ended_well}

-- ---- one step

-- A line that begins more than 450 after the send is silence, whatever line it is.
pub late_is_silence : (x : Exchange) (t : Clock) → x.began.0 + reply_time < t.0 → (line : List ℕ) → answer (Busy x) (heard line t) ≡ answer (Busy x) (tick t)
late_is_silence x t h line = rw (past_window x t h)

-- The reply is the telegram of the line that ended the exchange well.
pub reply_is : (b : Slot) (y : Exchange) (telegram : Telegram) (t : Clock) → heard_on b (outlined (reads telegram)) t ≡ reads y → y.state ≡ Well
    → (heard_of b (reads telegram) t).reply ≡ telegram
reply_is b y telegram t e w = rw (e, w)

-- A line that is heard while a resend is awaited changes nothing.
pub resend_stays : (x : Exchange) (cause : Cause) → x.state ≡ Resend cause → (line : List ℕ) (t : Clock) → next (Busy x) (heard line t) ≡ Busy x
resend_stays x cause e line t = ap (stands (Busy x)) (uncalled x t (waits x.state) _ (rw e))

-- Given none, a send of a request begins its exchange, and anything else is 42.
module _ (telegram : Telegram) (t : Clock) where
  pub none_begins : (request : Request) → outlined (reads telegram) ≡ outlines.Asks request → answer Idle (send_ended telegram t) ≡ reads (begun request t)
  none_begins request v = ap (λ (w : Outline). start_with w t) v

  pub none_refuses : ((request : Request) → outlined (reads telegram) ≡ outlines.Asks request → ⊥) → answer Idle (send_ended telegram t) ≡ refusal 42
  none_refuses other = go (outlined (reads telegram)) refl
    where
      go : (v : Outline) → outlined (reads telegram) ≡ v → answer Idle (send_ended telegram t) ≡ refusal 42
      go (outlines.Refused n) i = ap (λ (w : Outline). start_with w t) i
      go outlines.Ack i = ap (λ (w : Outline). start_with w t) i
      go (outlines.Asks request) i = absurd (other request i)
      go (outlines.Data answers) i = ap (λ (w : Outline). start_with w t) i

module _ (x : Exchange) (telegram : Telegram) (t : Clock) where
  -- An exchange that has ended counts as none.
  ended_as_none : ended x.state ≡ true → answer (Busy x) (send_ended telegram t) ≡ answer Idle (send_ended telegram t)
  ended_as_none e = ap (λ (b : Slot). send_ended_in b (outlined (reads telegram)) t) (ended_none x e)

  pub well_as_none : x.state ≡ Well → answer (Busy x) (send_ended telegram t) ≡ answer Idle (send_ended telegram t)
  well_as_none w = ended_as_none (ap ended w)

  pub failed_as_none : (cause : Cause) → x.state ≡ Failed cause → answer (Busy x) (send_ended telegram t) ≡ answer Idle (send_ended telegram t)
  failed_as_none cause w = ended_as_none (ap ended w)

  in_hand : ended x.state ≡ false → answer (Busy x) (send_ended telegram t) ≡ resent_in x (outlined (reads telegram)) t
  in_hand e = ap (λ (b : Slot). send_ended_in b (outlined (reads telegram)) t) (goes_on x e)

  -- While one is in progress, a send of its request is the next send or is refused as such;
  pub same_as_sent : ended x.state ≡ false → outlined (reads telegram) ≡ outlines.Asks x.request
      → answer (Busy x) (send_ended telegram t) ≡ sent_in x t
  same_as_sent e v = in_hand e ∙ resent_same x (outlined (reads telegram)) t (asks_request x.request (outlined (reads telegram)) v)

  -- while it waits, every send is refused, by 40 or 41;
  pub waiting_refuses : x.state ≡ Waiting → answer (Busy x) (send_ended telegram t) ≡ refusal (refused_by x t)
  waiting_refuses w = in_hand (ap ended w) ∙ resent_uncalled x (outlined (reads telegram)) t (ap (λ (s : State). asks_resend s x.sends) w)

  -- and where a resend is asked for, 40 goes before 43, whatever is sent.
  pub resend_early : (cause : Cause) → x.state ≡ Resend cause → t.0 < x.last.0 → answer (Busy x) (send_ended telegram t) ≡ refusal 40
  resend_early cause w l = in_hand (ap ended w) ∙ resent_early x (outlined (reads telegram)) t l

-- ---- once ended

ended_waits : (s : State) → ended s ≡ true → waits s ≡ false
ended_waits Waiting e = sym e
ended_waits (Resend cause) e = refl
ended_waits Well e = refl
ended_waits (Failed cause) e = refl

module _ (x : Exchange) (e : ended x.state ≡ true) where
  -- one step more in front that changes nothing
  abbrev Stays : List Step → Type 0
  Stays h = (run (Busy x) h ≡ Busy x) ⊎ GivesWay x h

  later : (s : Step) (h : List Step) → next (Busy x) s ≡ Busy x → Stays h → Stays (s ∷ h)
  unfolding run
  later s h q (inl r) = inl (ap (λ (b : Slot). run b h) q ∙ r)
  later s h q (inr g) =
      inr
      (record {
        before = s ∷ g.before;
        telegram = g.telegram;
        request = g.request;
        at = g.at;
        later = g.later;
        history = ap (λ (l : List Step). s ∷ l) g.history;
        stayed = ap (λ (b : Slot). run b g.before) q ∙ g.stayed;
        asks = g.asks;
        begins = g.begins;
      })

  -- the end of a send
  module _ (telegram : Telegram) (t : Clock) (h : List Step) (rest : Stays h) where
    told : (v : Outline) → outlined (reads telegram) ≡ v → next (Busy x) (send_ended telegram t) ≡ stands (Busy x) (start_with v t)
    told v i = ap (stands (Busy x)) (ended_as_none x telegram t e ∙ ap (λ (w : Outline). start_with w t) i)

    after_send : (v : Outline) → outlined (reads telegram) ≡ v → Stays (send_ended telegram t ∷ h)
    unfolding run
    after_send (outlines.Refused n) i = later (send_ended telegram t) h (told (outlines.Refused n) i) rest
    after_send outlines.Ack i = later (send_ended telegram t) h (told outlines.Ack i) rest
    after_send (outlines.Data answers) i = later (send_ended telegram t) h (told (outlines.Data answers) i) rest
    after_send (outlines.Asks request) i =
        inr
        (record {
          before = [];
          telegram = telegram;
          request = request;
          at = t;
          later = h;
          history = refl;
          stayed = refl;
          asks = i;
          begins = told (outlines.Asks request) i;
        })

  -- It refuses every line and tick, by 40 or 41.
  pub ended_refuses : (line : List ℕ) (t : Clock)
      → (answer (Busy x) (heard line t) ≡ refusal (refused_by x t)) × (answer (Busy x) (tick t) ≡ refusal (refused_by x t))
  ended_refuses line t =
      let over = ended_waits x.state e in (uncalled x t (waits x.state) _ over, uncalled x t (waits x.state) _ over)

  -- It stays as it is, until a send of a request ends: that begins the next exchange.
  pub ended_stays : (h : List Step) → Stays h
  unfolding run
  ended_stays [] = inl refl
  ended_stays (heard line t ∷ h) = later (heard line t) h (ap (stands (Busy x)) (ended_refuses line t).0) (ended_stays h)
  ended_stays (tick t ∷ h) = later (tick t) h (ap (stands (Busy x)) (ended_refuses [] t).1) (ended_stays h)
  ended_stays (send_ended telegram t ∷ h) = after_send telegram t h (ended_stays h) (outlined (reads telegram)) refl

-- ---- any history

module _ (h : List Step) (x : Exchange) (e : after h ≡ Busy x) where
  all : Kept x (made h)
  all = subst (λ (b : Slot). KeptBy b (made h)) e (kept Idle [] tt h)

  -- The send count that it reports is exactly the sends made,
  pub sends_reported : x.sends ≡ length (made h)
  sends_reported = all.count

  -- never more than three,
  pub three_sends : length (made h) ≤ 3
  three_sends = subst (λ (n : ℕ). n ≤ 3) all.count all.few

  -- all of its request,
  pub one_request : Ask x.request (made h)
  one_request = all.asked

  -- and the time that it reports is the end of the last of them.
  pub last_reported : (send : Send) (others : List Send) → made h ≡ send ∷ others → x.began ≡ send.end
  last_reported send others m = all.began ∙ ap (λ (s : Send). s.end) same
    where
      same : all.send ≡ send
      same = cc all.last_send

  -- It asks for a resend only after less than three sends, and it fails only after three.
  pub asks_again : (cause : Cause) → x.state ≡ Resend cause → length (made h) < 3
  asks_again cause w = subst (λ (n : ℕ). n < 3) all.count (subst (λ (s : State). Agrees s x.sends) w all.agrees)

  pub fails_last : (cause : Cause) → x.state ≡ Failed cause → length (made h) ≡ 3
  fails_last cause w = subst (λ (n : ℕ). n ≡ 3) all.count (subst (λ (s : State). Agrees s x.sends) w all.agrees)

  -- It ends well only by a line that was heard while a send was outstanding, in that send's window, and that fits.
  pub ends_well_lem : x.state ≡ Well → EndedWell Idle [] h x
  ends_well_lem w = ⊎_elim (λ i. let z : ◌≡◌ {A = ℕ} 0 1 = cc in absurd (omega arith)) (λ r. r) (ended_well Idle [] tt x w h e)

  -- And by every such line it does, whichever send is outstanding.
  pub takes_reply : (send : Send) (others : List Send) (line : List ℕ) (t : Clock) (telegram : Telegram)
      → x.state ≡ Waiting
      → made h ≡ send ∷ others
      → x.last.0 ≤ t.0
      → t.0 ≤ send.end.0 + reply_time
      → read_line line ≡ reads telegram
      → fits x.request (outlined (reads telegram)) ≡ true
      → answer (Busy x) (heard line t) ≡ reads (moved x Well t)
  takes_reply send others line t telegram w m l i r f =
      rw (r, open_window x t (rw (last_reported send others m) i), f) (step_taken x t (waits x.state) (moved x Well t) l (rw w))

  -- A send that fails asks for a resend, or, as the third, ends the exchange with its cause.
  sends_fail : (cause : Cause) (t : Clock) (a : Answer Exchange) → a ≡ reads (moved x (failed x.sends cause) t) → SendFails h x cause t a
  sends_fail cause t a q = record {
    before_third = λ l. q ∙ ap (λ (s : State). reads (moved x s t)) (rw (all.count, lt-ltb (length (made h)) 3 l));
    third = λ n. q ∙ ap (λ (s : State). reads (moved x s t)) (rw (all.count, n));
  }

  module _ (send : Send) (others : List Send) (t : Clock) (w : x.state ≡ Waiting) (m : made h ≡ send ∷ others) (l : x.last.0 ≤ t.0) where
    -- It fails by a line in time that does not fit: damaged, or of the wrong kind;
    pub fails_by_line : (line : List ℕ) → t.0 ≤ send.end.0 + reply_time → fits x.request (outlined (read_line line)) ≡ false
        → SendFails h x (cause_of (outlined (read_line line))) t (answer (Busy x) (heard line t))
    fails_by_line line i f =
        sends_fail (cause_of (outlined (read_line line))) t _ (line_fails x (outlined (read_line line)) t w l (rw (last_reported send others m) i) f)

    -- and past the window by every line and every tick, as silence.
    pub fails_by_silence : (line : List ℕ) → send.end.0 + reply_time < t.0
        → SendFails h x Silent t (answer (Busy x) (heard line t)) × SendFails h x Silent t (answer (Busy x) (tick t))
    fails_by_silence line i = (
      sends_fail Silent t _ (late_fails x (outlined (read_line line)) t w l (rw (last_reported send others m) i)),
      sends_fail Silent t _ (tick_fails x t w l (rw (last_reported send others m) i)),
    )

  -- Where a resend is asked for, the end of a send of the request is the next send, and of anything else it is 43.
  module _ (cause : Cause) (w : x.state ≡ Resend cause) (telegram : Telegram) (t : Clock) (l : x.last.0 ≤ t.0) where
    called : asks_resend x.state x.sends ≡ true
    called = rw (w, all.count) (lt-ltb (length (made h)) 3 (asks_again cause w))

    pub resend_recorded : outlined (reads telegram) ≡ outlines.Asks x.request
        → answer (Busy x) (send_ended telegram t) ≡ reads (sending x.request (x.sends + 1) t)
    resend_recorded v = same_as_sent x telegram t (ap ended w) v ∙ step_taken x t (asks_resend x.state x.sends) _ l called

    pub another_refused : (outlined (reads telegram) ≡ outlines.Asks x.request → ⊥) → answer (Busy x) (send_ended telegram t) ≡ refusal 43
    another_refused v =
        in_hand x telegram t (ap ended w)
        ∙ resent_differs x (outlined (reads telegram)) t (asks_another x.request (outlined (reads telegram)) v) l called
