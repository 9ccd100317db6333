-- What a verdict means in terms of the rows: the exchange of a position behind some rows, against its last sent row and the rows heard since.
use Prim.Native.Nat.{ℕ, suc, ◌+◌}
use mathlib.Core.Bool.{Bool, true, false, cond, not, ◌&&◌, ◌||◌}
use mathlib.Core.List.{List, [], ◌∷◌, ◌++◌, append-nil, append_assoc}
use mathlib.Core.Path.{◌≡◌, refl, sym, ap, ◌∙◌}
use native.Mathlib.Nat.{add-zero, zero-add}
use native.Mathlib.Omega.{arith}
use borrow.Author.Tests.{leb-true, leb-false, le-ltb, lt-ltb, eqb-true, eq-eqb, not-true}
use lib.Dec.{leb, ltb, eqb}
use lib.ListN.{length, get_or}
use Rattle.base_rules.specs.Answers.{Answer, reads, refusal, refuse, follow}
use Rattle.base_characters.specs.Characters.{chars}
use Rattle.base_rules.specs.Lists.{any}
use Rattle.mbus_rules.specs.declared.Request.{Request}
use Rattle.mbus_rules.specs.declared.Request.TheVariants.{Read, Enter, Leave}
use Rattle.mbus_rules.specs.declared.Outline.{Outline}
use Rattle.mbus_rules.specs.declared.Outline.TheVariants as outlines
use Rattle.base_rules.proofs.Laws.ListLaws.{any_append}
use Rattle.base_rules.proofs.Laws.Tests.{by_test}
use Rattle.bench_clock.specs.declared.Clock.{Clock}
use Rattle.bench_clock.specs.Times.{late}
use Rattle.bench_clock.specs.Wakes.{is_wake}
use Rattle.exchange_replies.specs.Fits.{fits}
use Rattle.exchange_steps.specs.declared.Slot.{Slot}
use Rattle.exchange_steps.specs.declared.Slot.TheVariants.{Idle, Busy}
use Rattle.exchange_steps.specs.declared.Cause.{Cause}
use Rattle.exchange_steps.specs.declared.Cause.TheVariants.{Silent}
use Rattle.exchange_steps.specs.declared.Exchange.{Exchange}
use Rattle.exchange_steps.specs.declared.State.TheVariants.{Resend, Well, Failed}
use Rattle.exchange_steps.specs.Steps.{most_sends, failed, cause_of, after_line, waits, asks_resend, asks_for, begun, sending, moved, past}
use Rattle.base_rules.specs.Shown as answers
use Rattle.exchange_steps.specs.Steps.{heard_in, sent_in, resent_in, heard_on, is_well, ends_well}
use Rattle.exchange_steps.specs.Histories.{exchange_after, stands}
use Rattle.exchange_steps.proofs.Laws.Steps.{by_cond, step_cases, step_taken, uncalled, asks_only, resent_same}
use Rattle.bundle_check.specs.Records.{Recorded}
use Rattle.bundle_check.specs.Walks.{end_of}
use Rattle.run_counting.specs.Counting.{is_sent, row_outline, looked, send_end, begins_from, counts_after, counts, onward, kept_if, looked_at, numbers_from, numbers_of}
use Rattle.run_counting.specs.Exchanges.{row_clock}
use Rattle.run_verdicts.specs.declared.Verdict.{Verdict}
use Rattle.run_verdicts.specs.declared.Verdict.TheVariants.{Counts, LeftOver, Second, Unasked}
use Rattle.run_verdicts.specs.Verdicts.{unfitting, decided_by, heard_verdict, after_heard, waited, resent_on, sent_as, sent_verdict, after_sent}
use Rattle.run_verdicts.specs.Verdicts.{verdict_after, slot_after, told_to, slot_of, verdicts_from, verdicts_of}
use Rattle.run_verdicts.specs.Words.{verdict_behind, stretch_of, heard_since, heard_behind, is_counts, read_sent, asks_read}
use Rattle.run_verdicts.proofs.Laws.Telling.{end_append}
use Rattle.base_rules.proofs.Laws.TestLaws.{and_true_parts}
use Rattle.run_counting.proofs.Laws.Hearing.{sent_counts_not}

-- ---- the exchange behind a send of a request, and whether a row heard since began at or after its end

record Outstanding (request : Request) (end : ℕ) (heard : Bool) (b : Slot) : Type 0 where
  x : Exchange
  is : b ≡ Busy x
  same : x.request ≡ request
  ended : x.began.0 ≡ end
  waiting : waits x.state ≡ not heard
  last : heard ≡ false → x.last.0 ≡ end

-- no line leaves an exchange waiting
failed_waits_not : (sends : ℕ) (cause : Cause) → waits (failed sends cause) ≡ false
failed_waits_not sends cause = go (ltb sends most_sends)
  where
    go : (more : Bool) → waits (cond more (Resend cause) (Failed cause)) ≡ false
    go true = refl
    go false = refl

line_decides : (request : Request) (sends : ℕ) (silent : Bool) (outline : Outline) → waits (after_line request sends silent outline) ≡ false
line_decides request sends silent outline = go silent (fits request outline)
  where
    go : (silent fit : Bool) → waits (cond silent (failed sends Silent) (cond fit Well (failed sends (cause_of outline)))) ≡ false
    go true fit = failed_waits_not sends Silent
    go false true = refl
    go false false = failed_waits_not sends (cause_of outline)

heard_on_lem : (request : Request) (end t : ℕ) (now : Outline) (heard : Bool) (b : Slot) → Outstanding request end heard b
    → Outstanding request end (heard || (leb end t || false)) (after_heard b now (row_clock t))
heard_on_lem request end t now true b o =
    let x = o.x in
    let stays : stands (Busy x) (heard_in x now (row_clock t)) ≡ Busy x =
    ap (stands (Busy x))
    (uncalled x (row_clock t) (waits x.state) (moved x (after_line x.request x.sends (past x (row_clock t)) now) (row_clock t)) o.waiting) in
    record { x = x; is = rw o.is stays; same = o.same; ended = o.ended; waiting = o.waiting; last = o.last }
heard_on_lem request end t now false b o =
    let x = o.x in
    let next = moved x (after_line x.request x.sends (past x (row_clock t)) now) (row_clock t) in
    let e = o.last refl in
    by_test (leb end t)
    (λ f. let taken : heard_in x now (row_clock t) ≡ reads next =
    step_taken x (row_clock t) (waits x.state) next (omega (arith, leb-true end t f)) o.waiting in
    rw f (record {
      x = next;
      is = rw o.is (ap (stands (Busy x)) taken);
      same = o.same;
      ended = o.ended;
      waiting = line_decides x.request x.sends (past x (row_clock t)) now;
      last = λ d. let z : ◌≡◌ {A = ℕ} 0 1 = cc in absurd (omega arith);
    }))
    (λ f. let early : stands (Busy x) (heard_in x now (row_clock t)) ≡ Busy x = rw (lt-ltb t x.last.0 (omega (arith, leb-false end t f))) in
    rw f (record { x = x; is = rw o.is early; same = o.same; ended = o.ended; waiting = o.waiting; last = o.last }))

-- a send of a request: the exchange takes it as a resend, or begins another
sent_on : (b : Slot) (request : Request) (end : ℕ) → Outstanding request end false (after_sent b (outlines.Asks request) (row_clock end))
sent_on Idle request end = record { x = begun request (row_clock end); is = refl; same = refl; ended = refl; waiting = refl; last = λ d. refl }
sent_on (Busy x) request end = go (asks_for x.request (outlines.Asks request)) refl
  where
    t : Clock
    t = row_clock end

    P : Answer Exchange → Type 0
    P a = Outstanding request end false (Busy (exchange_after (begun request t) a))

    fresh : (n : ℕ) → P (refusal n)
    fresh n = record { x = begun request t; is = refl; same = refl; ended = refl; waiting = refl; last = λ d. refl }

    asked : (a : Answer Exchange) → P (follow a (λ y. refuse 43 true (reads y)))
    asked (refusal n) = fresh n
    asked (reads y) = fresh 43

    go : (same : Bool) → asks_for x.request (outlines.Asks request) ≡ same → P (resent_in x (outlines.Asks request) t)
    go true e =
        let own : request ≡ x.request = cc (asks_only x.request (outlines.Asks request) e) in
        rw (resent_same x (outlines.Asks request) t e)
        (step_cases x t P (asks_resend x.state x.sends) (sending x.request (x.sends + 1) t) fresh
        (λ l c. record { x = sending x.request (x.sends + 1) t; is = refl; same = sym own; ended = refl; waiting = refl; last = λ d. refl }))
    go false e = rw e (asked (sent_in x t))

-- ---- the exchange of a position against its last sent row and the rows heard since

abbrev After : Outline → ℕ → Bool → Slot → Type 0
After (outlines.Asks request) end heard b = Outstanding request end heard b
After (outlines.Refused n) end heard b = b ≡ Idle
After outlines.Ack end heard b = b ≡ Idle
After (outlines.Data answers) end heard b = b ≡ Idle

abbrev Behind : Bool → Outline → ℕ → Bool → Slot → Type 0
Behind true outline end heard b = After outline end heard b
Behind false outline end heard b = b ≡ Idle

abbrev Stands : List Recorded → Slot → Type 0
Stands [] b = b ≡ Idle
Stands (send ∷ since) b = Behind (is_sent send) (row_outline send) (send_end send) (any (begins_from (send_end send)) since) b

idle_hears : (b : Slot) (now : Outline) (t : Clock) → b ≡ Idle → after_heard b now t ≡ Idle
idle_hears b now t e = rw e

stands_heard : (stretch : List Recorded) (k : Recorded) (b : Slot) → is_sent k ≡ false → Stands stretch b
    → Stands (onward stretch k) (after_heard b (row_outline k) (row_clock k.time))
unfolding any
stands_heard [] k b h s = rw (h, h) (idle_hears b (row_outline k) (row_clock k.time) s)
stands_heard (send ∷ since) k b h s =
    rw (h, any_append (begins_from (send_end send)) since (k ∷ []))
    (go (is_sent send) (row_outline send) (any (begins_from (send_end send)) since) s)
  where
    t : Clock
    t = row_clock k.time

    go : (sent : Bool) (outline : Outline) (heard : Bool) → Behind sent outline (send_end send) heard b
        → Behind sent outline (send_end send) (heard || (begins_from (send_end send) k || false)) (after_heard b (row_outline k) t)
    go false outline heard s = idle_hears b (row_outline k) t s
    go true (outlines.Asks request) heard s = heard_on_lem request (send_end send) k.time (row_outline k) heard b s
    go true (outlines.Refused n) heard s = idle_hears b (row_outline k) t s
    go true outlines.Ack heard s = idle_hears b (row_outline k) t s
    go true (outlines.Data answers) heard s = idle_hears b (row_outline k) t s

stands_sent : (stretch : List Recorded) (k : Recorded) (b : Slot) → is_sent k ≡ true
    → Stands (onward stretch k) (after_sent b (row_outline k) (row_clock (send_end k)))
unfolding any
stands_sent stretch k b h = rw (h, h) (go (row_outline k))
  where
    go : (outline : Outline) → After outline (send_end k) false (after_sent b outline (row_clock (send_end k)))
    go (outlines.Asks request) = sent_on b request (send_end k)
    go (outlines.Refused n) = refl
    go outlines.Ack = refl
    go (outlines.Data answers) = refl

looked_row : (position : ℕ) (k : Recorded) → looked position k ≡ true → (k.position ≡ position) × (is_wake (chars k.body) ≡ false)
unfolding looked
looked_row position k e =
    let p = and_true_parts (eqb k.position position) (not (is_wake (chars k.body))) e in
    (eqb-true k.position position p.0, not-true (is_wake (chars k.body)) p.1)

pub told_not : (position : ℕ) (k : Recorded) (b : Slot) → looked position k ≡ false → told_to position b k ≡ b
unfolding looked slot_after
told_not position k b e = go (eqb k.position position) (is_wake (chars k.body)) refl refl e
  where
    go : (own wake : Bool) → eqb k.position position ≡ own → is_wake (chars k.body) ≡ wake → (own && not wake) ≡ false → told_to position b k ≡ b
    go false wake p w f = rw p
    go true true p w f = rw (p, w)
    go true false p w f = let z : ◌≡◌ {A = ℕ} 0 1 = cc in absurd (omega arith)

stands_on : (position : ℕ) (stretch : List Recorded) (k : Recorded) (b : Slot) → looked position k ≡ true → Stands stretch b
    → Stands (onward stretch k) (told_to position b k)
unfolding slot_after
stands_on position stretch k b e s =
    let p = looked_row position k e in
    rw (eq-eqb k.position position p.0, p.1)
    (by_cond (Stands (onward stretch k)) (is_sent k) (after_sent (waited b (row_clock k.time)) (row_outline k) (row_clock (send_end k)))
    (after_heard b (row_outline k) (row_clock k.time)) (λ h. stands_sent stretch k (waited b (row_clock k.time)) h) (λ h. stands_heard stretch k b h s))

stands_all : (position : ℕ) (stretch : List Recorded) (b : Slot) (ks : List Recorded) → Stands stretch b
    → Stands (end_of onward stretch (looked_at position ks)) (end_of (told_to position) b ks)
unfolding end_of looked_at
stands_all position stretch b [] s = s
stands_all position stretch b (k ∷ ks) s =
    by_test (looked position k)
    (λ e. rw e (stands_all position (onward stretch k) (told_to position b k) ks (stands_on position stretch k b e s)))
    (λ e. rw (e, told_not position k b e) (stands_all position stretch b ks s))

stands_so : (position : ℕ) (before : List Recorded) → Stands (stretch_of position before) (slot_of position before)
stands_so position before = stands_all position [] Idle before refl

-- ---- so a heard row has the verdict that the rows say

heard_verdict_lem : (stretch : List Recorded) (k : Recorded) (b : Slot) → Stands stretch b
    → heard_verdict b (row_outline k) (row_clock k.time) ≡ heard_behind stretch k
heard_verdict_lem [] k b s = rw s
heard_verdict_lem (send ∷ since) k b s = go (is_sent send) (row_outline send) s
  where
    idle : b ≡ Idle → heard_verdict b (row_outline k) (row_clock k.time) ≡ Unasked
    idle e = rw e

    go : (sent : Bool) (outline : Outline) → Behind sent outline (send_end send) (any (begins_from (send_end send)) since) b
        → heard_verdict b (row_outline k) (row_clock k.time) ≡ cond sent (heard_since outline (send_end send) since k) Unasked
    go false outline s = idle s
    go true (outlines.Asks request) s = rw (s.is, s.ended, s.same, s.waiting) (flip (any (begins_from (send_end send)) since))
      where
        flip : (heard : Bool)
            → cond (ltb k.time (send_end send)) LeftOver (cond (not heard) (decided_by request (late (send_end send) k.time) (row_outline k)) Second)
            ≡ cond (ltb k.time (send_end send)) LeftOver (cond heard Second (decided_by request (late (send_end send) k.time) (row_outline k)))
        flip true = refl
        flip false = refl
    go true (outlines.Refused n) s = idle s
    go true outlines.Ack s = idle s
    go true (outlines.Data answers) s = idle s

pub heard_means : (before : List Recorded) (k : Recorded) → is_wake (chars k.body) ≡ false → is_sent k ≡ false
    → verdict_behind before k ≡ heard_behind (stretch_of k.position before) k
unfolding verdict_after
heard_means before k w h = rw (w, h) (heard_verdict_lem (stretch_of k.position before) k (slot_of k.position before) (stands_so k.position before))

-- ---- what has no part in it

pub others_told_not : (position : ℕ) (front : List Recorded) (k : Recorded) (later : List Recorded) → looked position k ≡ false
    → slot_of position (front ++ (k ∷ later)) ≡ slot_of position (front ++ later)
unfolding end_of
others_told_not position front k later e =
    end_append (told_to position) Idle front (k ∷ later)
    ∙ ap (λ (b : Slot). end_of (told_to position) b later) (told_not position k (end_of (told_to position) Idle front) e)
    ∙ sym (end_append (told_to position) Idle front later)

-- ---- the verdict at a place

pub verdict_there : (before : List Recorded) (k : Recorded) (later : List Recorded)
    → get_or (verdicts_of (before ++ (k ∷ later))) (length before) Unasked ≡ verdict_behind before k
unfolding verdicts_from
verdict_there before k later = go [] before
  where
    go : (done before : List Recorded)
        → get_or (verdicts_from done (before ++ (k ∷ later))) (length before) Unasked ≡ verdict_after (slot_of k.position (done ++ before)) k
    go done [] = ap (λ (l : List Recorded). verdict_after (slot_of k.position l) k) (sym (append-nil done))
    go done (j ∷ before) =
        go (done ++ (j ∷ [])) before ∙ ap (λ (l : List Recorded). verdict_after (slot_of k.position l) k) (append_assoc done (j ∷ []) before)

-- ---- counts for reads is 2026-04's

decides_counts : (request : Request) (silent : Bool) (now : Outline) → is_counts (decided_by request silent now) ≡ (not silent && fits request now)
decides_counts request true now = refl
decides_counts request false now = go (fits request now) now
  where
    go : (fit : Bool) (now : Outline) → is_counts (cond fit Counts (unfitting now)) ≡ (true && fit)
    go true now = refl
    go false (outlines.Refused n) = refl
    go false outlines.Ack = refl
    go false (outlines.Asks other) = refl
    go false (outlines.Data answers) = refl

counted_heard : (stretch : List Recorded) (k : Recorded) → is_sent k ≡ false → counts stretch k ≡ (asks_read stretch && is_counts (heard_behind stretch k))
counted_heard [] k h = refl
counted_heard (send ∷ since) k h = rw h (go (is_sent send) (row_outline send))
  where
    end : ℕ
    end = send_end send

    none : (a : Bool) → (a && false) ≡ false
    none true = refl
    none false = refl

    read : (address : ℕ) (heard later : Bool) → leb end k.time ≡ later
        → (not heard && later && not (late end k.time) && fits (Read address) (row_outline k))
        ≡ is_counts (cond (ltb k.time end) LeftOver (cond heard Second (decided_by (Read address) (late end k.time) (row_outline k))))
    read address true true e = rw (le-ltb k.time end (leb-true end k.time e))
    read address true false e = rw (lt-ltb k.time end (leb-false end k.time e))
    read address false true e = rw (le-ltb k.time end (leb-true end k.time e)) (sym (decides_counts (Read address) (late end k.time) (row_outline k)))
    read address false false e = rw (lt-ltb k.time end (leb-false end k.time e))

    go : (sent : Bool) (outline : Outline)
        → (sent && true && counts_after outline end since k) ≡ ((sent && read_sent outline) && is_counts (cond sent (heard_since outline end since k) Unasked))
    go false outline = refl
    go true (outlines.Asks (Read address)) = read address (any (begins_from end) since) (leb end k.time) refl
    go true (outlines.Asks (Enter address method)) = refl
    go true (outlines.Asks (Leave address)) = refl
    go true (outlines.Refused n) = refl
    go true outlines.Ack = refl
    go true (outlines.Data answers) = refl

-- a sent row does not count, by either
sent_never : (b : Slot) (outline : Outline) (end : Clock) → is_counts (sent_verdict b outline end) ≡ false
sent_never b (outlines.Refused n) end = refl
sent_never b outlines.Ack end = refl
sent_never b (outlines.Asks request) end = go (resent_on b (outlines.Asks request) end)
  where
    go : (a : Answer Exchange) → is_counts (sent_as a) ≡ false
    go (refusal n) = refl
    go (reads x) = refl
sent_never b (outlines.Data answers) end = refl

pub counts_as_judged : (position : ℕ) (before : List Recorded) (k : Recorded) → looked position k ≡ true
    → counts (stretch_of position before) k ≡ (asks_read (stretch_of position before) && is_counts (verdict_behind before k))
unfolding verdict_after
counts_as_judged position before k e =
    let p = looked_row position k e in
    by_test (is_sent k)
    (λ h. sent_counts_not (stretch_of position before) k h
    ∙ rw (p.1, h, sent_never (waited (slot_of k.position before) (row_clock k.time)) (row_outline k) (row_clock (send_end k)))
    (sym (none (asks_read (stretch_of position before)))))
    (λ h. counted_heard (stretch_of position before) k h
    ∙ ap (λ (v : Verdict). asks_read (stretch_of position before) && is_counts v)
    (sym (heard_means before k p.1 h ∙ ap (λ (q : ℕ). heard_behind (stretch_of q before) k) p.0)))
  where
    none : (a : Bool) → (a && false) ≡ false
    none true = refl
    none false = refl

-- each row adds its number to those of 2026-04 exactly then
numbers_append : (position i : ℕ) (stretch ks : List Recorded) (k : Recorded)
    → numbers_from position i stretch (ks ++ (k ∷ []))
    ≡ numbers_from position i stretch ks ++ kept_if (looked position k && counts (end_of onward stretch (looked_at position ks)) k) (i + length ks) []
unfolding numbers_from end_of looked_at
numbers_append position i stretch [] k = go (looked position k) (counts stretch k) (sym (add-zero i))
  where
    go : (look count : Bool) {j : ℕ} → i ≡ j → cond look (kept_if count i []) [] ≡ kept_if (look && count) j []
    go true true e = ap (λ (n : ℕ). n ∷ []) e
    go true false e = refl
    go false count e = refl
numbers_append position i stretch (j ∷ ks) k = go (λ s. numbers_append position (suc i) s ks k) (looked position j) (counts stretch j)
  where
    place : suc i + length ks ≡ i + suc (length ks)
    place = omega arith

    rest : List Recorded → List ℕ
    rest s = numbers_from position (suc i) s ks

    last : List Recorded → ℕ → List ℕ
    last s n = kept_if (looked position k && counts (end_of onward s (looked_at position ks)) k) n []

    go : ((s : List Recorded) → numbers_from position (suc i) s (ks ++ (k ∷ [])) ≡ rest s ++ last s (suc i + length ks)) → (look count : Bool)
        → cond look (kept_if count i (numbers_from position (suc i) (onward stretch j) (ks ++ (k ∷ [])))) (numbers_from position (suc i) stretch (ks ++ (k ∷ [])))
        ≡ cond look (kept_if count i (rest (onward stretch j))) (rest stretch)
        ++ kept_if (looked position k && counts (end_of onward stretch (kept_if look j (looked_at position ks))) k) (i + suc (length ks)) []
    go on true true =
        let s = onward stretch j in
        ap (λ (l : List ℕ). i ∷ l) (on s ∙ ap (λ (n : ℕ). rest s ++ last s n) place)
    go on true false =
        let s = onward stretch j in
        on s ∙ ap (λ (n : ℕ). rest s ++ last s n) place
    go on false count = on stretch ∙ ap (λ (n : ℕ). rest stretch ++ last stretch n) place

pub numbers_as_judged : (position : ℕ) (before : List Recorded) (k : Recorded)
    → numbers_of position (before ++ (k ∷ []))
    ≡ numbers_of position before
    ++ kept_if (looked position k && (asks_read (stretch_of position before) && is_counts (verdict_behind before k))) (length before) []
numbers_as_judged position before k =
    numbers_append position 0 [] before k
    ∙ by_test (looked position k)
    (λ e. rw (e, counts_as_judged position before k e, zero-add (length before)))
    (λ e. rw e)

-- ---- a row counts exactly where the exchange ends well by it

line_well : (request : Request) (sends : ℕ) (silent : Bool) (outline : Outline) → is_well (after_line request sends silent outline)
    ≡ (not silent && fits request outline)
line_well request sends silent outline = go silent (fits request outline) (ltb sends most_sends)
  where
    go : (silent fit more : Bool)
        → is_well (cond silent (cond more (Resend Silent) (Failed Silent)) (cond fit Well (cond more (Resend (cause_of outline)) (Failed (cause_of outline)))))
        ≡ (not silent && fit)
    go true fit true = refl
    go true fit false = refl
    go false true more = refl
    go false false true = refl
    go false false false = refl

well_so : (request : Request) (end t : ℕ) (now : Outline) (heard : Bool) (b : Slot) → Outstanding request end heard b
    → is_counts (heard_verdict b now (row_clock t)) ≡ ends_well (answers.shown (heard_on b now (row_clock t)))
well_so request end t now true b o =
    let x = o.x in
    let next = moved x (after_line x.request x.sends (past x (row_clock t)) now) (row_clock t) in
    rw (o.is, o.waiting) (go (ltb t x.began.0)
    ∙ ap (λ (a : Answer Exchange). ends_well (answers.shown a)) (sym (uncalled x (row_clock t) false next refl)))
  where
    go : (early : Bool) → is_counts (cond early LeftOver Second) ≡ false
    go true = refl
    go false = refl
well_so request end t now false b o =
    let x = o.x in
    let next = moved x (after_line x.request x.sends (past x (row_clock t)) now) (row_clock t) in
    let e = o.last refl in
    let began = o.ended in
    by_test (leb end t)
    (λ f. let from = leb-true end t f in
    rw (o.is, o.waiting, le-ltb t x.began.0 (omega arith), le-ltb t x.last.0 (omega arith))
    (decides_counts x.request (past x (row_clock t)) now ∙ sym (line_well x.request x.sends (past x (row_clock t)) now)))
    (λ f. let before = leb-false end t f in rw (o.is, lt-ltb t x.began.0 (omega arith), lt-ltb t x.last.0 (omega arith)))

pub ends_well_lem : (before : List Recorded) (k : Recorded) → is_wake (chars k.body) ≡ false → is_sent k ≡ false
    → is_counts (verdict_behind before k) ≡ ends_well (answers.shown (heard_on (slot_of k.position before) (row_outline k) (row_clock k.time)))
unfolding verdict_after
ends_well_lem before k w h = rw (w, h) (go (stretch_of k.position before) (stands_so k.position before))
  where
    b : Slot
    b = slot_of k.position before

    Well-so : Type 0
    Well-so = is_counts (heard_verdict b (row_outline k) (row_clock k.time)) ≡ ends_well (answers.shown (heard_on b (row_outline k) (row_clock k.time)))

    idle : b ≡ Idle → Well-so
    idle e = ap (λ (c : Slot). is_counts (heard_verdict c (row_outline k) (row_clock k.time))) e
        ∙ sym (ap (λ (c : Slot). ends_well (answers.shown (heard_on c (row_outline k) (row_clock k.time)))) e)

    by : (sent : Bool) (outline : Outline) (end : ℕ) (heard : Bool) → Behind sent outline end heard b → Well-so
    by false outline end heard s = idle s
    by true (outlines.Asks request) end heard s = well_so request end k.time (row_outline k) heard b s
    by true (outlines.Refused n) end heard s = idle s
    by true outlines.Ack end heard s = idle s
    by true (outlines.Data answers) end heard s = idle s

    go : (stretch : List Recorded) → Stands stretch b → Well-so
    go [] s = idle s
    go (send ∷ since) s = by (is_sent send) (row_outline send) (send_end send) (any (begins_from (send_end send)) since) s
