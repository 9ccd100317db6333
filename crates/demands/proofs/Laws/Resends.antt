-- Which sent request is a resend: the exchange of its position behind the last row sent there and the rows heard since.
use Prim.Native.Nat.{ℕ, ◌+◌, ◌≤◌, ◌<◌}
use native.Mathlib.Numerals.{add-one}
use mathlib.Core.Bool.{true, false, not}
use mathlib.Core.List.{List, [], ◌∷◌, ◌++◌, append_assoc}
use mathlib.Core.Logic.{◌⊎◌, inl, inr, ⊎_elim}
use mathlib.Core.Path.{◌≡◌, refl, sym, ap, ◌∙◌}
use native.Mathlib.Omega.{arith}
use borrow.Author.Tests.{lt-ltb, leb-false, not-true}
use lib.Dec.{eqb}
use Rattle.base_rules.specs.Answers.{Answer, reads}
use Rattle.base_rules.specs.Lists.{any}
use Rattle.base_rules.proofs.Laws.Tests.{by_test, neither}
use Rattle.base_rules.proofs.Laws.TestLaws.{and_true_parts}
use Rattle.base_characters.specs.Characters.{chars}
use Rattle.mbus_rules.specs.declared.Request.{Request}
use Rattle.mbus_rules.specs.declared.Outline.{Outline}
use Rattle.mbus_rules.specs.declared.Outline.TheVariants.{Asks}
use Rattle.bench_clock.specs.Times.{late}
use Rattle.bench_clock.specs.Wakes.{is_wake}
use Rattle.bench_clock.proofs.Laws.Times.{lt_late, le_late}
use Rattle.exchange_replies.specs.Fits.{fits}
use Rattle.exchange_steps.specs.declared.Cause.{Cause}
use Rattle.exchange_steps.specs.declared.Cause.TheVariants.{Silent}
use Rattle.exchange_steps.specs.declared.Exchange.{Exchange}
use Rattle.exchange_steps.specs.declared.Slot.{Slot}
use Rattle.exchange_steps.specs.declared.Slot.TheVariants.{Busy}
use Rattle.exchange_steps.specs.declared.State.{State}
use Rattle.exchange_steps.specs.declared.State.TheVariants as states
use Rattle.exchange_steps.specs.Steps.{most_sends, failed, cause_of, after_line, after_tick, waits, sending, moved, past, tick_in, tick_on}
use Rattle.exchange_steps.specs.Histories.{stands}
use Rattle.exchange_steps.proofs.Laws.Steps.{step_cases, step_taken, uncalled}
use Rattle.bundle_check.specs.Records.{Recorded}
use Rattle.bundle_check.specs.Walks.{end_of}
use Rattle.run_counting.specs.Counting.{is_sent, row_outline, looked, send_end, begins_from, looked_at}
use Rattle.run_counting.specs.Exchanges.{row_clock}
use Rattle.run_verdicts.specs.declared.Verdict.TheVariants.{First, Resend}
use Rattle.run_verdicts.specs.Verdicts.{after_heard, slot_after, told_to, slot_of}
use Rattle.run_verdicts.specs.Words.{verdict_behind}
use Rattle.run_verdicts.proofs.Laws.Meaning.{told_not}
use Rattle.run_verdicts.proofs.Laws.Telling.{end_append}
use Rattle.demands.specs.Judged.{Sent, waited_for, AsksAgain}
use Rattle.demands.specs.Resends.{LastSent, Nth, first, again, HasFailed, silent, decided, ResendOfTheLast, FirstBehindTheThird}
use Rattle.demands.specs.Resends.{FirstWhileItWaits, FirstBehindAnAnswer}
use Rattle.demands.proofs.Laws.Judged.{one_of_two, asked_again, begun_first, resend_goes_on}

-- ---- rows heard

abbrev hears : Slot → Recorded → Slot
hears b k = after_heard b (row_outline k) (row_clock k.time)

-- a heard row that is looked at is told to the exchange
told_heard : (position : ℕ) (b : Slot) (k : Recorded) → looked position k ≡ true → is_sent k ≡ false → told_to position b k ≡ hears b k
unfolding looked slot_after
told_heard position b k e h =
    let p = and_true_parts (eqb k.position position) (not (is_wake (chars k.body))) e in
    rw (p.0, not-true (is_wake (chars k.body)) p.1, h)

-- rows of which none is sent are told to the exchange of their position
only_heard : (position : ℕ) (b : Slot) (later : List Recorded) → any is_sent (looked_at position later) ≡ false
    → end_of (told_to position) b later ≡ end_of hears b (looked_at position later)
unfolding end_of looked_at any
only_heard position b [] e = refl
only_heard position b (k ∷ later) e =
    by_test (looked position k)
    (λ t. let p = neither (is_sent k) (any is_sent (looked_at position later)) (rw t at e) in
    rw t (ap (λ (c : Slot). end_of (told_to position) c later) (told_heard position b k t p.0) ∙ only_heard position (hears b k) later p.1))
    (λ t. rw t (ap (λ (c : Slot). end_of (told_to position) c later) (told_not position k b t) ∙ only_heard position b later (rw t at e)))

-- those that begin before the end of the send leave it as it is
early_same : (x : Exchange) (since : List Recorded) → any (begins_from x.last.0) since ≡ false → end_of hears (Busy x) since ≡ Busy x
unfolding end_of any
early_same x [] e = refl
early_same x (k ∷ since) e =
    let p = neither (begins_from x.last.0 k) (any (begins_from x.last.0) since) e in
    rw (lt-ltb k.time x.last.0 (leb-false x.last.0 k.time p.0)) (early_same x since p.1)

-- and so does every row once it waits no more
rest_same : (x : Exchange) (since : List Recorded) → waits x.state ≡ false → end_of hears (Busy x) since ≡ Busy x
unfolding end_of
rest_same x [] w = refl
rest_same x (k ∷ since) w =
    let stays : hears (Busy x) k ≡ Busy x =
    ap (stands (Busy x)) (uncalled x (row_clock k.time) (waits x.state)
    (moved x (after_line x.request x.sends (past x (row_clock k.time)) (row_outline k)) (row_clock k.time)) w) in
    ap (λ (b : Slot). end_of hears b since) stays ∙ rest_same x since w

-- ---- the exchange behind the last row sent

-- none of them makes a send, or another request
sends_same : (x : Exchange) (since : List Recorded)
    → (y : Exchange) × (end_of hears (Busy x) since ≡ Busy y) × (y.sends ≡ x.sends) × (y.request ≡ x.request)
unfolding end_of
sends_same x [] = (x, refl, refl, refl)
sends_same x (k ∷ since) =
    let next : Exchange = moved x (after_line x.request x.sends (past x (row_clock k.time)) (row_outline k)) (row_clock k.time) in
    step_cases x (row_clock k.time)
    (λ (a : Answer Exchange). (y : Exchange) × (end_of hears (stands (Busy x) a) since ≡ Busy y) × (y.sends ≡ x.sends) × (y.request ≡ x.request))
    (waits x.state) next (λ n. sends_same x since) (λ l c. sends_same next since)

module _ (before front later : List Recorded) (send k : Recorded) (request : Request) (n : ℕ) (l : LastSent before k front send later request)
    (stood : slot_of send.position (front ++ (send ∷ [])) ≡ Busy (sending request n (row_clock (send_end send)))) where
  since_told : slot_of k.position before ≡ end_of hears (Busy (sending request n (row_clock (send_end send)))) (looked_at k.position later)
  since_told =
      ap (slot_of k.position) (l.rows ∙ sym (append_assoc front (send ∷ []) later))
      ∙ end_append (told_to k.position) _ (front ++ (send ∷ [])) later
      ∙ ap (λ (b : Slot). end_of (told_to k.position) b later) (ap (λ (p : ℕ). slot_of p (front ++ (send ∷ []))) (sym l.own) ∙ stood)
      ∙ only_heard k.position (Busy (sending request n (row_clock (send_end send)))) later l.none

  -- what waits for a row has made as many sends, of that request
  same_sends : (x : Exchange) → waited_for before k ≡ Busy x → (x.sends ≡ n) × (x.request ≡ request)
  same_sends x e =
      let s = sends_same (sending request n (row_clock (send_end send))) (looked_at k.position later) in
      let y : Exchange = s.0 in
      let next : Exchange = moved y (after_tick y.sends (past y (row_clock k.time))) (row_clock k.time) in
      let there : stands (Busy y) (tick_in y (row_clock k.time)) ≡ Busy x =
      ap (λ (b : Slot). stands b (tick_on b (row_clock k.time))) (sym (since_told ∙ s.1)) ∙ e in
      step_cases y (row_clock k.time) (λ (a : Answer Exchange). stands (Busy y) a ≡ Busy x → (x.sends ≡ n) × (x.request ≡ request)) (waits y.state) next
      (λ m f. let same : y ≡ x = cc in (ap (λ (z : Exchange). z.sends) (sym same) ∙ s.2, ap (λ (z : Exchange). z.request) (sym same) ∙ s.3))
      (λ o c f. let same : next ≡ x = cc in (ap (λ (z : Exchange). z.sends) (sym same) ∙ s.2, ap (λ (z : Exchange). z.request) (sym same) ∙ s.3))
      there

-- behind send n of its exchange
nth_stands : (n : ℕ) (before : List Recorded) (k : Recorded) (request : Request) → Nth n before k → Sent k → row_outline k ≡ Asks request
    → slot_of k.position (before ++ (k ∷ [])) ≡ Busy (sending request n (row_clock (send_end k)))
nth_stands n before k request (first v) s o = begun_first before k request s o v
nth_stands n before k request (again {n = m} {front = front} {later = later} {send = send} {request = asked} l nth v) s o =
    let a = (asked_again before k request s o).0 v in
    let stood = nth_stands m front send asked nth l.sent l.asks in
    let many : a.x.sends ≡ m = (same_sends before front later send k asked m l stood a.x a.there).0 in
    resend_goes_on before k request s o a ∙ ap (λ (i : ℕ). Busy (sending request i (row_clock (send_end k)))) (ap (λ (i : ℕ). i + 1) many ∙ add-one m)

pub first_behind_the_third : FirstBehindTheThird
first_behind_the_third before front later send k request other n l nth s o why =
    ⊎_elim (λ v. v) (λ v. absurd (never ((asked_again before k other s o).0 v))) (one_of_two before k other s o)
  where
    never : AsksAgain before k other → ⊥
    never a =
        let same = same_sends before front later send k request n l (nth_stands n front send request nth l.sent l.asks) a.x a.there in
        ⊎_elim (λ h. omega (arith, same.0, a.fewer)) (λ f. f (sym same.1 ∙ a.same)) why

-- ---- a send that has failed

module _ (request : Request) (n end : ℕ) (few : n < 3) where
  -- by a line that was late or does not fit
  line_fails : (t : ℕ) (outline : Outline) → (end + 450 < t) ⊎ (fits request outline ≡ false)
      → (cause : Cause) × (after_line request n (late end t) outline ≡ states.Resend cause)
  line_fails t outline (inl h) = (Silent, rw (lt_late end t h, lt-ltb n most_sends few))
  line_fails t outline (inr f) =
      by_test (late end t) (λ e. (Silent, rw (e, lt-ltb n most_sends few))) (λ e. (cause_of outline, rw (e, f, lt-ltb n most_sends few)))

-- ---- what waits for a row behind the last row sent and the rows heard since

module _ (before front later : List Recorded) (send k : Recorded) (request : Request) (n : ℕ) (l : LastSent before k front send later request)
    (nth : Nth n front send) where
  told : slot_of k.position before ≡ end_of hears (Busy (sending request n (row_clock (send_end send)))) (looked_at k.position later)
  told = since_told before front later send k request n l (nth_stands n front send request nth l.sent l.asks)

  -- none of which began at the end of the send or later
  undecided : any (begins_from (send_end send)) (looked_at k.position later) ≡ false
      → waited_for before k
      ≡ stands (Busy (sending request n (row_clock (send_end send)))) (tick_in (sending request n (row_clock (send_end send))) (row_clock k.time))
  undecided none =
      ap (λ (b : Slot). stands b (tick_on b (row_clock k.time)))
      (told ∙ early_same (sending request n (row_clock (send_end send))) (looked_at k.position later) none)

  -- or of which this is the first that did
  decided_by : (early : List Recorded) (line : Recorded) (rest : List Recorded) (st : State) → looked_at k.position later ≡ early ++ (line ∷ rest)
      → any (begins_from (send_end send)) early ≡ false → send_end send ≤ line.time
      → after_line request n (late (send_end send) line.time) (row_outline line) ≡ st → waits st ≡ false
      → waited_for before k ≡ Busy (moved (sending request n (row_clock (send_end send))) st (row_clock line.time))
  unfolding end_of
  decided_by early line rest st is none from e w =
      let x : Exchange = sending request n (row_clock (send_end send)) in
      let y : Exchange = moved x st (row_clock line.time) in
      let heard : hears (Busy x) line ≡ Busy y =
      ap (stands (Busy x)) (step_taken x (row_clock line.time) true
      (moved x (after_line request n (late (send_end send) line.time) (row_outline line)) (row_clock line.time)) from refl
      ∙ ap (λ (after : State). reads (moved x after (row_clock line.time))) e) in
      let behind : slot_of k.position before ≡ Busy y =
      told ∙ ap (end_of hears (Busy x)) is ∙ end_append hears (Busy x) early (line ∷ rest)
      ∙ ap (λ (b : Slot). end_of hears (hears b line) rest) (early_same x early none) ∙ ap (λ (b : Slot). end_of hears b rest) heard ∙ rest_same y rest w in
      ap (λ (b : Slot). stands b (tick_on b (row_clock k.time))) behind
      ∙ ap (stands (Busy y)) (uncalled y (row_clock k.time) (waits st) (moved y (after_tick n (past y (row_clock k.time))) (row_clock k.time)) w)

pub resend_of_the_last : ResendOfTheLast
resend_of_the_last before front later send k request n l nth few failing s o = (asked_again before k request s o).1 (go failing)
  where
    go : HasFailed send request (looked_at k.position later) k.time → AsksAgain before k request
    go (silent none h) =
        let x : Exchange = sending request n (row_clock (send_end send)) in
        let quiet : after_tick n (late (send_end send) k.time) ≡ states.Resend Silent = rw (lt_late (send_end send) k.time h, lt-ltb n most_sends few) in
        let ticked : tick_in x (row_clock k.time) ≡ reads (moved x (states.Resend Silent) (row_clock k.time)) =
        step_taken x (row_clock k.time) true (moved x (after_tick n (late (send_end send) k.time)) (row_clock k.time)) (omega arith) refl
        ∙ ap (λ (st : State). reads (moved x st (row_clock k.time))) quiet in
        record {
          x = moved x (states.Resend Silent) (row_clock k.time);
          there = undecided before front later send k request n l nth none ∙ ap (stands (Busy x)) ticked;
          cause = Silent;
          failed = refl;
          fewer = few;
          same = refl;
          onward = omega arith;
        }
    go (decided early line rest is none from to why) =
        let c = line_fails request n (send_end send) few line.time (row_outline line) why in
        record {
          x = moved (sending request n (row_clock (send_end send))) (states.Resend c.0) (row_clock line.time);
          there = decided_by before front later send k request n l nth early line rest (states.Resend c.0) is none from c.1 refl;
          cause = c.0;
          failed = refl;
          fewer = few;
          same = refl;
          onward = omega arith;
        }

-- ---- a send that has not

-- an exchange that does not ask for a resend takes none
takes_none : (before : List Recorded) (k : Recorded) (other : Request) (z : Exchange) → Sent k → row_outline k ≡ Asks other → waited_for before k ≡ Busy z
    → ((cause : Cause) → z.state ≡ states.Resend cause → ⊥) → verdict_behind before k ≡ First
takes_none before k other z s o e f =
    ⊎_elim (λ v. v) (λ v. absurd (never ((asked_again before k other s o).0 v))) (one_of_two before k other s o)
  where
    never : AsksAgain before k other → ⊥
    never a =
        let same : z ≡ a.x = cc (sym e ∙ a.there) in
        f a.cause (ap (λ (y : Exchange). y.state) same ∙ a.failed)

waiting_not : (cause : Cause) → states.Waiting ≡ states.Resend cause → ⊥
waiting_not cause e = let z : ◌≡◌ {A = ℕ} 0 1 = cc in omega arith

well_not : (cause : Cause) → states.Well ≡ states.Resend cause → ⊥
well_not cause e = let z : ◌≡◌ {A = ℕ} 0 1 = cc in omega arith

pub first_while_it_waits : FirstWhileItWaits
first_while_it_waits before front later send k request other n l nth s o none h =
    step_cases x (row_clock k.time) (λ (a : Answer Exchange). waited_for before k ≡ stands (Busy x) a → verdict_behind before k ≡ First) true next
    (λ m e. takes_none before k other x s o e waiting_not)
    (λ from c e. takes_none before k other next s o e (λ cause f. waiting_not cause (sym still ∙ f)))
    (undecided before front later send k request n l nth none)
  where
    x : Exchange
    x = sending request n (row_clock (send_end send))

    next : Exchange
    next = moved x (after_tick n (late (send_end send) k.time)) (row_clock k.time)

    still : next.state ≡ states.Waiting
    still = rw (le_late (send_end send) k.time h)

pub first_behind_an_answer : FirstBehindAnAnswer
first_behind_an_answer before front later early rest send k line request other n l nth s o is none from h fit =
    let well : after_line request n (late (send_end send) line.time) (row_outline line) ≡ states.Well =
    rw (le_late (send_end send) line.time h, fit) in
    takes_none before k other (moved (sending request n (row_clock (send_end send))) states.Well (row_clock line.time)) s o
    (decided_by before front later send k request n l nth early line rest states.Well is none from well refl) well_not
