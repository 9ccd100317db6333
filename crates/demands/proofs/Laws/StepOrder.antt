-- The order of refusals of the exchange and of the simulated meter, as C calls them.
use Prim.Native.Nat.{ℕ, ◌<◌}
use native.Mathlib.Omega.{arith}
use mathlib.Core.Bool.{Bool, true, false, cond, not, true≢false}
use mathlib.Core.List.{List, [], ◌∷◌}
use mathlib.Core.Path.{◌≡◌, refl, sym, ap, subst, ◌∙◌}
use lib.ListN.{drop}
use Rattle.mbus_rules.specs.declared.Telegram.{Telegram}
use Rattle.base_rules.specs.Answers.{Answer, reads, refusal, refuse, follow, within}
use Rattle.base_rules.proofs.Laws.AnswerLaws.{reads_same}
use Rattle.base_lent.specs.Lent.{needs}
use Rattle.base_lent.specs.Same.{same}
use Rattle.mbus_rules.specs.declared.Outline.{Outline}
use Rattle.mbus_rules.specs.Lines.{read_line}
use Rattle.mbus_rules.specs.Outlines.{outlined}
use Rattle.mbus_records.specs.Telegrams.{telegram_bytes, telegram_in}
use Rattle.exchange_steps.specs.declared.Exchange.{Exchange}
use Rattle.exchange_steps.specs.declared.Slot.{Slot}
use Rattle.exchange_steps.specs.declared.Slot.TheVariants.{Idle, Busy}
use Rattle.exchange_steps.specs.declared.State.{State}
use Rattle.exchange_steps.specs.declared.State.TheVariants.{Waiting, Resend, Well, Failed}
use Rattle.exchange_steps.specs.Steps.{waits, moved, after_line, after_tick, past, step, heard_on, tick_on}
use Rattle.exchange_record.specs.Exchanges.{none_bytes, exchange_bytes, exchange_in, reached, slot_from}
use Rattle.meter_steps.specs.declared.Meter.{Meter}
use Rattle.meter_steps.specs.Meters.{hears, returned, heard_at}
use Rattle.meter_record.specs.MeterRecords.{meter_bytes, meter_in, unreached, recalled, meter_from}
use Rattle.demands.specs.StepOrder.{TakenAs, NotTaken, EarlierThan, NotWaiting, step_table, TickForOrder, HeardForOrder, LineHeardForOrder}
use Rattle.demands.proofs.Laws.Orders.{Decides, nothing, is_less, so_if, Tried, end, hit, miss, try, then_try, order_of}
use Rattle.demands.proofs.Laws.RecordOrder.{needs_tried}

-- an answer that is refused by 101 alone
taken_tried : {A : Type 0} (a : Answer A) → ((k : ℕ) → a ≡ refusal k → k ≡ 101) → Tried a ((101, NotTaken a) ∷ [])
taken_tried {A} (refusal k) only =
    hit {P = (x : A) → refusal k ≡ reads x → ⊥} (λ x e. let z : ◌≡◌ {A = ℕ} 0 1 = cc in omega arith) (ap refusal (only k refl))
taken_tried {A} (reads x) only = miss {P = (y : A) → reads x ≡ reads y → ⊥} (λ none. none x refl) (end x refl)

-- what holds of the one thing that the bytes are taken as
is_taken : {A : Type 0} {t : Bool} (a : Answer A) (x : A) → a ≡ reads x → (P : A → Type 0) → Decides (P x) t → Decides (TakenAs a P) t
is_taken a x e P d = so_if (λ p. (x, e, p)) (λ h. subst P (reads_same (sym h.1 ∙ e)) h.2) d

-- ---- the exchange

only_slot : (b : List ℕ) (k : ℕ) → slot_from b ≡ refusal k → k ≡ 101
only_slot b k e = go (same b none_bytes) (same b (exchange_bytes (exchange_in b))) e
  where
    rest : (so : Bool) → ◌≡◌ {A = Answer Slot} (within Busy (refuse 101 (not so) (reads (exchange_in b)))) (refusal k) → k ≡ 101
    rest false e = cc
    rest true e = let z : ◌≡◌ {A = ℕ} 0 1 = cc in absurd (omega arith)

    go : (idle alike : Bool)
        → ◌≡◌ {A = Answer Slot} (cond idle (reads Idle)
        (within Busy (follow (refuse 101 (not alike) (reads (exchange_in b))) (λ (x : Exchange). refuse 101 (not (reached x)) (reads x))))) (refusal k)
        → k ≡ 101
    go true alike e = let z : ◌≡◌ {A = ℕ} 0 1 = cc in absurd (omega arith)
    go false false e = cc
    go false true e = rest (reached (exchange_in b)) e

is_waiting : (s : State) → Decides (¬ (s ≡ Waiting)) (not (waits s))
is_waiting Waiting = so_if (λ x. absurd x) (λ h. h refl) nothing
is_waiting (Resend cause) = record { holds = λ e h. let z : ◌≡◌ {A = ℕ} 0 1 = cc in omega arith; fails = λ e. absurd (true≢false e) }
is_waiting Well = record { holds = λ e h. let z : ◌≡◌ {A = ℕ} 0 1 = cc in omega arith; fails = λ e. absurd (true≢false e) }
is_waiting (Failed cause) = record { holds = λ e h. let z : ◌≡◌ {A = ℕ} 0 1 = cc in omega arith; fails = λ e. absurd (true≢false e) }

-- a step that is asked of none, or of an exchange
step_tried : (b : List ℕ) (t : ℕ) (x : Exchange) (next : Exchange) → slot_from b ≡ reads (Busy x)
    → Tried (step x (record { 0 = t }) (waits x.state) next) (step_table b t)
step_tried b t x next e =
    try 40 (is_taken (slot_from b) (Busy x) e (EarlierThan t) (is_less t x.last.0))
    (λ k. try 41 (is_taken (slot_from b) (Busy x) e NotWaiting (is_waiting x.state)) (λ k. end next refl))

none_tried : (b : List ℕ) (t : ℕ) → slot_from b ≡ reads Idle → Tried {A = Exchange} (refusal 41) (step_table b t)
none_tried b t e =
    miss {P = TakenAs (slot_from b) (EarlierThan t)} (λ h. subst (EarlierThan t) (reads_same (sym h.1 ∙ e)) h.2)
    (hit {P = TakenAs (slot_from b) NotWaiting} (Idle, e, tt) refl)

tick_tried : (b : List ℕ) (t : ℕ) (w : Slot) → slot_from b ≡ reads w → Tried (tick_on w (record { 0 = t })) (step_table b t)
tick_tried b t Idle e = none_tried b t e
tick_tried b t (Busy x) e = step_tried b t x (moved x (after_tick x.sends (past x (record { 0 = t }))) (record { 0 = t })) e

heard_tried : (b : List ℕ) (t : ℕ) (o : Outline) (w : Slot) → slot_from b ≡ reads w → Tried (heard_on w o (record { 0 = t })) (step_table b t)
heard_tried b t o Idle e = none_tried b t e
heard_tried b t o (Busy x) e = step_tried b t x (moved x (after_line x.request x.sends (past x (record { 0 = t })) o) (record { 0 = t })) e

pub tick_for_order : TickForOrder
tick_for_order b t =
    order_of (then_try (λ w. tick_on w (record { 0 = t })) (taken_tried (slot_from b) (only_slot b)) (λ w e. tick_tried b t w e))

pub heard_for_order : HeardForOrder
heard_for_order b line t reply =
    order_of
    (then_try (λ w. needs 136 reply (heard_on w (outlined (read_line line)) (record { 0 = t }))) (taken_tried (slot_from b) (only_slot b))
    (λ w e. needs_tried 136 reply (heard_tried b t (outlined (read_line line)) w e)))

-- ---- the simulated meter

only_meter : (b : List ℕ) (k : ℕ) → meter_from b ≡ refusal k → k ≡ 101
only_meter b k e = go (same (drop 56 b) (telegram_bytes (telegram_in (drop 56 b)))) e
  where
    rest : (whole none : Bool) (m : Meter) → ◌≡◌ {A = Answer Meter} (refuse 101 (not whole) (refuse 101 none (reads m))) (refusal k) → k ≡ 101
    rest false none m e = cc
    rest true true m e = cc
    rest true false m e = let z : ◌≡◌ {A = ℕ} 0 1 = cc in absurd (omega arith)

    go : (alike : Bool)
        → ◌≡◌ {A = Answer Meter} (follow (refuse 101 (not alike) (reads (telegram_in (drop 56 b)))) (λ (t : Telegram). recalled b (meter_in b t))) (refusal k)
        → k ≡ 101
    go false e = cc
    go true e =
        let m : Meter = meter_in b (telegram_in (drop 56 b)) in
        rest (same b (meter_bytes m)) (unreached m) m e

pub line_heard_for_order : LineHeardForOrder
line_heard_for_order b line t out =
    order_of
    (then_try (λ m. needs 136 out (heard_at m line t)) (taken_tried (meter_from b) (only_meter b))
    (λ m e. needs_tried 136 out
    (try 70 (is_taken (meter_from b) m e (λ (m : Meter). t.0 < m.last.0) (is_less t.0 m.last.0))
    (λ k. end (hears t (returned t m.core) (outlined (read_line line))) refl))))
