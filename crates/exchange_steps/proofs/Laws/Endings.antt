-- How an exchange ends well: only by a line in time that fits.
use Prim.Native.Nat.{ℕ, ◌+◌, ◌≤◌}
use native.Mathlib.Nat.{le_trans}
use native.Mathlib.Omega.{arith}
use mathlib.Core.Bool.{Bool, true, false, cond}
use mathlib.Core.List.{List, [], ◌∷◌}
use mathlib.Core.Logic.{◌⊎◌, inl, inr, ⊎_elim}
use mathlib.Core.Path.{◌≡◌, refl, sym, ap, subst, ◌∙◌}
use lib.Dec.{ltb}
use Rattle.bench_clock.specs.declared.Clock.{Clock}
use Rattle.bench_clock.specs.Times.{reply_time}
use Rattle.bench_clock.proofs.Laws.Times.{late_false}
use Rattle.mbus_rules.specs.declared.Request.{Request}
use Rattle.mbus_rules.specs.declared.Telegram.{Telegram}
use Rattle.mbus_rules.specs.declared.Outline.{Outline}
use Rattle.base_rules.specs.Answers.{Answer, reads, refusal}
use Rattle.mbus_rules.specs.Lines.{read_line}
use Rattle.mbus_rules.specs.Outlines.{outlined}
use Rattle.exchange_steps.specs.declared.Cause.{Cause}
use Rattle.exchange_steps.specs.declared.Cause.TheVariants.{Silent}
use Rattle.exchange_steps.specs.declared.State.{State}
use Rattle.exchange_steps.specs.declared.State.TheVariants.{Waiting, Resend, Well, Failed}
use Rattle.exchange_steps.specs.declared.Exchange.{Exchange}
use Rattle.exchange_steps.specs.declared.Slot.{Slot}
use Rattle.exchange_steps.specs.declared.Slot.TheVariants.{Idle, Busy}
use Rattle.exchange_replies.specs.Fits.{fits}
use Rattle.exchange_steps.specs.Steps.{most_sends, failed, cause_of, after_line, after_tick, waits, sending, begun, moved, past}
use Rattle.exchange_steps.proofs.Laws.Steps.{step_cases, send_cases}
use Rattle.exchange_steps.specs.Histories.{Step, send_ended, heard, tick, answer, stands, next, run, Send, noted, sends_made, EndedWell}
use Rattle.exchange_steps.proofs.Laws.Kept.{Kept, KeptBy, kept_step}

-- ---- which states come next

failed_not_well : {X : Type 0} (sends : ℕ) (cause : Cause) → failed sends cause ≡ Well → X
failed_not_well sends cause e = go (ltb sends most_sends) e
  where
    go : {X : Type 0} (test : Bool) → ◌≡◌ {A = State} (cond test (Resend cause) (Failed cause)) Well → X
    go true e = let z : ◌≡◌ {A = ℕ} 0 1 = cc in absurd (omega arith)
    go false e = let z : ◌≡◌ {A = ℕ} 0 1 = cc in absurd (omega arith)

tick_not_well : {X : Type 0} (sends : ℕ) (silent : Bool) → after_tick sends silent ≡ Well → X
tick_not_well sends true e = failed_not_well sends Silent e
tick_not_well sends false e = let z : ◌≡◌ {A = ℕ} 0 1 = cc in absurd (omega arith)

line_well : (request : Request) (sends : ℕ) (silent : Bool) (outline : Outline) → after_line request sends silent outline ≡ Well
    → (silent ≡ false) × (fits request outline ≡ true)
line_well request sends true outline e = failed_not_well sends Silent e
line_well request sends false outline e = go (fits request outline) refl e
  where
    go : (f : Bool) → fits request outline ≡ f → cond f Well (failed sends (cause_of outline)) ≡ Well → (false ≡ false) × (fits request outline ≡ true)
    go true p e = (refl, p)
    go false p e = failed_not_well sends (cause_of outline) e

only_waiting : (s : State) → waits s ≡ true → s ≡ Waiting
only_waiting Waiting e = refl
only_waiting (Resend cause) e = cc
only_waiting Well e = cc
only_waiting (Failed cause) e = cc

-- a line that fits anything is accepted
fitting_reads : (request : Request) (a : Answer Telegram) → fits request (outlined a) ≡ true
    → (telegram : Telegram) × (a ≡ reads telegram) × (fits request (outlined (reads telegram)) ≡ true)
fitting_reads request (refusal n) e = let z : ◌≡◌ {A = ℕ} 0 1 = cc in absurd (omega arith)
fitting_reads request (reads telegram) e = (telegram, refl, e)

-- an exchange that waits has not ended well
waiting_not_well : {X : Type 0} (y x : Exchange) → y.state ≡ Waiting → Busy y ≡ Busy x → x.state ≡ Well → X
waiting_not_well y x n e w =
    let same : y ≡ x = cc in
    let both : Waiting ≡ Well = sym n ∙ ap (λ (z : Exchange). z.state) same ∙ w in
    let z : ◌≡◌ {A = ℕ} 0 1 = cc in
    absurd (omega arith)

-- ---- ending well

-- what a step's answer tells of an exchange that then stands as ended well: it stood so, or the step ended it as it should
abbrev Told : Slot → List Send → Step → List Step → Exchange → Answer Exchange → Type 0
Told b sends s h x a = stands b a ≡ Busy x → x.state ≡ Well → (b ≡ Busy x) ⊎ EndedWell b sends (s ∷ h) x

-- a line ends an exchange well only as it should
module _ (y : Exchange) (sends : List Send) (k : Kept y sends) (line : List ℕ) (t : Clock) (h : List Step) (x : Exchange) where
  ended_by : y.last.0 ≤ t.0 → waits y.state ≡ true
      → Busy (moved y (after_line y.request y.sends (past y t) (outlined (read_line line))) t) ≡ Busy x
      → x.state ≡ Well → EndedWell (Busy y) sends (heard line t ∷ h) x
  unfolding run sends_made
  ended_by l c e w =
      let state : State = after_line y.request y.sends (past y t) (outlined (read_line line)) in
      let same : moved y state t ≡ x = cc in
      let ends : state ≡ Well = ap (λ (z : Exchange). z.state) same ∙ w in
      let asked : y.request ≡ x.request = ap (λ (z : Exchange). z.request) same in
      let well = line_well y.request y.sends (past y t) (outlined (read_line line)) ends in
      let reading = fitting_reads y.request (read_line line) well.1 in
      record {
        before = [];
        line = line;
        at = t;
        later = h;
        history = refl;
        stood = y;
        outstanding = (refl, only_waiting y.state c);
        send = k.send;
        others = k.others;
        last_send = k.last_send;
        not_before = subst (λ (z : Clock). z.0 ≤ t.0) k.began (le_trans k.in_order l);
        in_time = subst (λ (z : Clock). t.0 ≤ z.0 + reply_time) k.began (late_false y.began.0 t.0 well.0);
        telegram = reading.0;
        accepted = reading.1;
        fitting = subst (λ (q : Request). fits q (outlined (reads reading.0)) ≡ true) asked reading.2;
        ends = sym same ∙ ap (λ (z : State). moved y z t) ends;
      }

by_line : (b : Slot) (sends : List Send) → KeptBy b sends → (line : List ℕ) (t : Clock) (h : List Step) (x : Exchange)
    → Told b sends (heard line t) h x (answer b (heard line t))
by_line Idle sends k line t h x = λ e w. inl e
by_line (Busy y) sends k line t h x =
    step_cases y t (Told (Busy y) sends (heard line t) h x) (waits y.state) _ (λ n e w. inl e)
    (λ l c e w. inr (ended_by y sends k line t h x l c e w))

-- and no other step does
by_tick : (b : Slot) (sends : List Send) (t : Clock) (h : List Step) (x : Exchange) → Told b sends (tick t) h x (answer b (tick t))
by_tick Idle sends t h x = λ e w. inl e
by_tick (Busy y) sends t h x =
    step_cases y t (Told (Busy y) sends (tick t) h x) (waits y.state) (moved y (after_tick y.sends (past y t)) t) (λ n e w. inl e)
    (λ l c e w. let same : moved y (after_tick y.sends (past y t)) t ≡ x = cc in
    tick_not_well y.sends (past y t) (ap (λ (z : Exchange). z.state) same ∙ w))

by_step : (b : Slot) (sends : List Send) → KeptBy b sends → (s : Step) (h : List Step) (x : Exchange) → Told b sends s h x (answer b s)
by_step b sends k (heard line t) h x = by_line b sends k line t h x
by_step b sends k (tick t) h x = by_tick b sends t h x
by_step b sends k (send_ended telegram t) h x =
    send_cases b (outlined (reads telegram)) t (Told b sends (send_ended telegram t) h x) (λ n e w. inl e)
    (λ i request v e w. waiting_not_well (begun request t) x refl e w)
    (λ y i v l c e w. waiting_not_well (sending y.request (y.sends + 1) t) x refl e w)

-- one step more in front
earlier_step : (b : Slot) (sends : List Send) (s : Step) (h : List Step) (x : Exchange)
    → EndedWell (next b s) (noted b s (answer b s) sends) h x → EndedWell b sends (s ∷ h) x
unfolding run sends_made
earlier_step b sends s h x w = record {
  before = s ∷ w.before;
  line = w.line;
  at = w.at;
  later = w.later;
  history = ap (λ (l : List Step). s ∷ l) w.history;
  stood = w.stood;
  outstanding = w.outstanding;
  send = w.send;
  others = w.others;
  last_send = w.last_send;
  not_before = w.not_before;
  in_time = w.in_time;
  telegram = w.telegram;
  accepted = w.accepted;
  fitting = w.fitting;
  ends = w.ends;
}

pub ended_well : (b : Slot) (sends : List Send) → KeptBy b sends → (x : Exchange) → x.state ≡ Well → (h : List Step) → run b h ≡ Busy x
    → (b ≡ Busy x) ⊎ EndedWell b sends h x
unfolding run
ended_well b sends k x w [] e = inl e
ended_well b sends k x w (s ∷ h) e =
    ⊎_elim (λ i. by_step b sends k s h x i w) (λ r. inr (earlier_step b sends s h x r))
    (ended_well (next b s) (noted b s (answer b s) sends) (kept_step b sends k s) x w h e)
