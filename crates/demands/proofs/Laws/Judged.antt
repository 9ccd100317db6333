-- The verdicts of sent rows and of heard rows by what was sent and heard before, and the run that has every verdict.
use Prim.Native.Nat.{ℕ, ◌+◌, ◌<◌}
use mathlib.Core.Bool.{true, false, true≢false}
use mathlib.Core.List.{List, [], ◌∷◌, ◌++◌, append-nil, append_assoc}
use mathlib.Core.Logic.{◌⊎◌, inl, inr, ⊎_elim, ◌↔◌}
use mathlib.Core.Path.{◌≡◌, refl, sym, ap, ◌∙◌}
use native.Mathlib.Omega.{arith}
use borrow.Author.Tests.{eq-eqb, lt-ltb, le-ltb, ltb-true}
use lib.Count.{ones_in}
use lib.Dec.{eqb}
use Rattle.base_numbers.specs.Numbers.{number, bytes_of}
use Rattle.base_rules.specs.Answers.{Answer, reads, refusal, refuse, follow}
use Rattle.base_rules.specs.Lists.{any, total}
use Rattle.base_rules.proofs.Laws.Tests.{by_test, neither}
use Rattle.base_characters.specs.Characters.{chars, odd, carrier}
use Rattle.base_characters.proofs.Laws.PairLaws.{length_characters}
use Rattle.mbus_rules.specs.declared.Kind.{Kind}
use Rattle.mbus_rules.specs.declared.Kind.TheVariants as kinds
use Rattle.mbus_rules.specs.declared.Request.{Request}
use Rattle.mbus_rules.specs.declared.Outline.{Outline}
use Rattle.mbus_rules.specs.declared.Outline.TheVariants as outlines
use Rattle.mbus_rules.specs.Lines.{read_body, read_line}
use Rattle.mbus_rules.specs.Outlines.{outline_of}
use Rattle.mbus_rules.specs.Writing.{line_of}
use Rattle.bench_clock.specs.declared.Clock.{Clock}
use Rattle.bench_clock.specs.Times.{late}
use Rattle.bench_clock.specs.Wakes.{is_wake}
use Rattle.bench_clock.proofs.Laws.Times.{lt_late, le_late}
use Rattle.exchange_steps.specs.declared.Cause.{Cause}
use Rattle.exchange_steps.specs.declared.Exchange.{Exchange}
use Rattle.exchange_steps.specs.declared.Slot.{Slot}
use Rattle.exchange_steps.specs.declared.Slot.TheVariants.{Idle, Busy}
use Rattle.exchange_steps.specs.declared.State.{State}
use Rattle.exchange_steps.specs.declared.State.TheVariants as states
use Rattle.exchange_steps.specs.Steps.{most_sends, asks_resend, asks_for, begun, sending, sent_in}
use Rattle.exchange_steps.specs.Histories.{exchange_after}
use Rattle.exchange_steps.proofs.Laws.Steps.{step_cases, step_taken, asks_only, asks_request, resent_same}
use Rattle.bundle_rows.specs.Rows.{rows_of, bytes_of_rows}
use Rattle.bundle_check.specs.Bundles.{check_of}
use Rattle.bundle_check.specs.Records.{Recorded, records_in, rows_for, bodies_for}
use Rattle.bundle_check.specs.Walks.{some_wrong, end_of}
use Rattle.run_counting.specs.Counting.{is_sent, row_outline, looked, send_end, onward, looked_at}
use Rattle.run_counting.specs.Exchanges.{row_clock}
use Rattle.run_counting.proofs.Laws.Meaning.{not_looked}
use Rattle.run_verdicts.specs.declared.Verdict.TheVariants.{First, Resend, Refused, WrongKind, Unasked}
use Rattle.run_verdicts.specs.Verdicts.{unfitting, decided_by, resent_on, sent_as, sent_verdict, after_sent, verdict_after, slot_after, slot_of}
use Rattle.run_verdicts.specs.Verdicts.{verdicts_from}
use Rattle.run_verdicts.specs.Answering.{verdicts_in}
use Rattle.run_verdicts.specs.Words.{verdict_behind, stretch_of, heard_since, heard_behind}
use Rattle.run_verdicts.proofs.Laws.Meaning.{heard_means, told_not}
use Rattle.run_verdicts.proofs.Laws.Telling.{slot_next}
use Rattle.demands.specs.Judged.{Sent, Heard, RefusedByItsNumber, AckOrDataBy42, waited_for, AsksAgain, ResendWhereAsked, FirstOrResend, SendEnds}
use Rattle.demands.specs.Judged.{NoneAtFirst, OthersLeaveIt, HeardGoesOn, FirstBegins, ResendGoesOn, RefusedEnds, LastSentAndSince, BehindAsk}
use Rattle.demands.specs.Judged.{UnaskedWhereNoneSent, UnaskedBehindNoRequest, LeftOverBeforeTheEnd, SecondBehindAnother, Decides, LateAfter450}
use Rattle.demands.specs.Judged.{CountsIfItFits, DamagedByItsNumber, WrongKindIfNot, EveryVerdictOccurs}

-- ---- a sent row

sent_is : (before : List Recorded) (k : Recorded) → Sent k
    → verdict_behind before k ≡ sent_verdict (waited_for before k) (row_outline k) (row_clock (send_end k))
unfolding verdict_after
sent_is before k s = rw (s.0, s.1)

pub refused_by_its_number : RefusedByItsNumber
refused_by_its_number before k n s e = sent_is before k s ∙ rw e

pub ack_or_data_by_42 : AckOrDataBy42
ack_or_data_by_42 before k t s e f = sent_is before k s ∙ rw e (⊎_elim (λ a. rw a) (λ a. rw a) f)

-- a request, by what the exchange answers to it as a resend
request_is : (before : List Recorded) (k : Recorded) (request : Request) → Sent k → row_outline k ≡ outlines.Asks request
    → verdict_behind before k ≡ sent_as (resent_on (waited_for before k) (outlines.Asks request) (row_clock (send_end k)))
request_is before k request s e = sent_is before k s ∙ rw e

-- one of two
pub one_of_two : (before : List Recorded) (k : Recorded) (request : Request) → Sent k → row_outline k ≡ outlines.Asks request
    → (verdict_behind before k ≡ First) ⊎ (verdict_behind before k ≡ Resend)
one_of_two before k request s e =
    go (resent_on (waited_for before k) (outlines.Asks request) (row_clock (send_end k))) (request_is before k request s e)
  where
    go : (a : Answer Exchange) → verdict_behind before k ≡ sent_as a → (verdict_behind before k ≡ First) ⊎ (verdict_behind before k ≡ Resend)
    go (refusal n) f = inl f
    go (reads x) f = inr f

pub first_or_resend : FirstOrResend
first_or_resend = one_of_two

first_not : {X : Type 0} → First ≡ Resend → X
first_not e = let z : ◌≡◌ {A = ℕ} 0 1 = cc in let no : ⊥ = omega arith in absurd no

-- the state asks for a resend
record Failing (x : Exchange) : Type 0 where
  cause : Cause
  failed : x.state ≡ states.Resend cause
  fewer : x.sends < 3

failing : (x : Exchange) → asks_resend x.state x.sends ≡ true → Failing x
failing x c = go x.state refl c
  where
    no : false ≡ true → Failing x
    no e = absurd (true≢false (sym e))

    go : (s : State) → x.state ≡ s → asks_resend s x.sends ≡ true → Failing x
    go states.Waiting f e = no e
    go (states.Resend cause) f e = record { cause = cause; failed = f; fewer = ltb-true x.sends most_sends e }
    go states.Well f e = no e
    go (states.Failed cause) f e = no e

module _ (before : List Recorded) (k : Recorded) (request : Request) where
  abbrev end : Clock
  end = row_clock (send_end k)

  only_asked : (b : Slot) → waited_for before k ≡ b → sent_as (resent_on b (outlines.Asks request) end) ≡ Resend → AsksAgain before k request
  only_asked Idle f e = first_not e
  only_asked (Busy x) f e = by_test (asks_for x.request (outlines.Asks request)) same another
    where
      same : asks_for x.request (outlines.Asks request) ≡ true → AsksAgain before k request
      same a =
          let own : request ≡ x.request = cc (asks_only x.request (outlines.Asks request) a) in
          step_cases x (row_clock (send_end k)) (λ (r : Answer Exchange). sent_as r ≡ Resend → AsksAgain before k request) (asks_resend x.state x.sends)
          (sending x.request (x.sends + 1) (row_clock (send_end k))) (λ n g. first_not g)
          (λ l c g. let p = failing x c in
          record { x = x; there = f; cause = p.cause; failed = p.failed; fewer = p.fewer; same = sym own; onward = l })
          (ap sent_as (sym (resent_same x (outlines.Asks request) (row_clock (send_end k)) a)) ∙ e)

      refusing : (a : Answer Exchange) → sent_as (follow a (λ y. refuse 43 true (reads y))) ≡ First
      refusing (refusal n) = refl
      refusing (reads y) = refl

      another : asks_for x.request (outlines.Asks request) ≡ false → AsksAgain before k request
      another a = first_not (sym (refusing (sent_in x (row_clock (send_end k)))) ∙ (rw a at e))

  -- and where it is asked for, the exchange takes it
  taken : (a : AsksAgain before k request)
      → resent_on (waited_for before k) (outlines.Asks request) (row_clock (send_end k)) ≡ reads (sending request (a.x.sends + 1) (row_clock (send_end k)))
  taken a =
      let x = a.x in
      let asks : asks_resend x.state x.sends ≡ true = rw a.failed (lt-ltb x.sends most_sends a.fewer) in
      ap (λ (b : Slot). resent_on b (outlines.Asks request) (row_clock (send_end k))) a.there
      ∙ resent_same x (outlines.Asks request) (row_clock (send_end k)) (asks_request x.request (outlines.Asks request) (ap outlines.Asks (sym a.same)))
      ∙ step_taken x (row_clock (send_end k)) (asks_resend x.state x.sends) (sending x.request (x.sends + 1) (row_clock (send_end k))) a.onward asks
      ∙ ap (λ (q : Request). reads (sending q (x.sends + 1) (row_clock (send_end k)))) a.same

pub asked_again : (before : List Recorded) (k : Recorded) (request : Request) → Sent k → row_outline k ≡ outlines.Asks request
    → (verdict_behind before k ≡ Resend) ↔ AsksAgain before k request
asked_again before k request s e =
    let is = request_is before k request s e in
    (λ v. only_asked before k request (waited_for before k) refl (sym is ∙ v), λ a. is ∙ ap sent_as (taken before k request a))

pub send_ends : SendEnds
send_ends k n e = omega (arith, length_characters k.body)

pub resend_where_asked : ResendWhereAsked
resend_where_asked = asked_again

-- ---- the exchange of a position

pub none_at_first : NoneAtFirst
unfolding end_of
none_at_first position = refl

pub others_leave_it : OthersLeaveIt
others_leave_it position before k e =
    slot_next position before k
    ∙ told_not position k (slot_of position before) (⊎_elim (λ w. (not_looked position k).1 w) (λ p. (not_looked position k).0 p) e)

pub heard_goes_on : HeardGoesOn
unfolding slot_after
heard_goes_on before k h = slot_next k.position before k ∙ rw (eq-eqb k.position k.position refl, h.0, h.1)

sent_goes_on : (before : List Recorded) (k : Recorded) → Sent k
    → slot_of k.position (before ++ (k ∷ [])) ≡ after_sent (waited_for before k) (row_outline k) (row_clock (send_end k))
unfolding slot_after
sent_goes_on before k s = slot_next k.position before k ∙ rw (eq-eqb k.position k.position refl, s.0, s.1)

request_goes_on : (before : List Recorded) (k : Recorded) (request : Request) → Sent k → row_outline k ≡ outlines.Asks request
    → slot_of k.position (before ++ (k ∷ []))
    ≡ Busy (exchange_after (begun request (row_clock (send_end k))) (resent_on (waited_for before k) (outlines.Asks request) (row_clock (send_end k))))
request_goes_on before k request s e = sent_goes_on before k s ∙ rw e

pub begun_first : (before : List Recorded) (k : Recorded) (request : Request) → Sent k → row_outline k ≡ outlines.Asks request
    → verdict_behind before k ≡ First → slot_of k.position (before ++ (k ∷ [])) ≡ Busy (begun request (row_clock (send_end k)))
begun_first before k request s e v =
    request_goes_on before k request s e
    ∙ ap Busy (go (resent_on (waited_for before k) (outlines.Asks request) (row_clock (send_end k))) (sym (request_is before k request s e) ∙ v))
  where
    go : (a : Answer Exchange) → sent_as a ≡ First → exchange_after (begun request (row_clock (send_end k))) a ≡ begun request (row_clock (send_end k))
    go (refusal n) f = refl
    go (reads x) f = first_not (sym f)

pub first_begins : FirstBegins
first_begins = begun_first

pub resend_goes_on : ResendGoesOn
resend_goes_on before k request s e a =
    request_goes_on before k request s e
    ∙ ap (λ (r : Answer Exchange). Busy (exchange_after (begun request (row_clock (send_end k))) r)) (taken before k request a)

pub refused_ends : RefusedEnds
refused_ends before k n s v =
    sent_goes_on before k s ∙ go (waited_for before k) (row_outline k) (sym (sent_is before k s) ∙ v)
  where
    never : (a : Answer Exchange) → sent_as a ≡ Refused n → ⊥
    never (refusal m) f = let z : ◌≡◌ {A = ℕ} 0 1 = cc in omega arith
    never (reads x) f = let z : ◌≡◌ {A = ℕ} 0 1 = cc in omega arith

    go : (b : Slot) (outline : Outline) → sent_verdict b outline (row_clock (send_end k)) ≡ Refused n → after_sent b outline (row_clock (send_end k)) ≡ Idle
    go b (outlines.Refused m) f = refl
    go b outlines.Ack f = refl
    go b (outlines.Asks request) f = absurd (never (resent_on b (outlines.Asks request) (row_clock (send_end k))) f)
    go b (outlines.Data answers) f = refl

-- ---- a heard row

-- rows of which none is sent are gathered behind the one that was
gathered : (stretch ks : List Recorded) → any is_sent ks ≡ false → end_of onward stretch ks ≡ stretch ++ ks
unfolding end_of any
gathered stretch [] e = sym (append-nil stretch)
gathered stretch (k ∷ ks) e =
    let p = neither (is_sent k) (any is_sent ks) e in
    rw p.0 (gathered (stretch ++ (k ∷ [])) ks p.1 ∙ append_assoc stretch (k ∷ []) ks)

pub last_sent_and_since : LastSentAndSince
unfolding end_of looked_at
last_sent_and_since position front send later l s n = go [] front
  where
    go : (stretch front : List Recorded) → end_of onward stretch (looked_at position (front ++ (send ∷ later))) ≡ send ∷ looked_at position later
    go stretch [] =
        let alone : onward stretch send ≡ send ∷ [] = rw s in
        rw l (ap (λ (x : List Recorded). end_of onward x (looked_at position later)) alone ∙ gathered (send ∷ []) (looked_at position later) n)
    go stretch (k ∷ front) = by_test (looked position k) (λ e. rw e (go (onward stretch k) front)) (λ e. rw e (go stretch front))

heard_is : (before : List Recorded) (k : Recorded) → Heard k → verdict_behind before k ≡ heard_behind (stretch_of k.position before) k
heard_is before k h = heard_means before k h.0 (ap (λ (d : ℕ). eqb d 0) h.1)

pub unasked_where_none_sent : UnaskedWhereNoneSent
unasked_where_none_sent before k h e = heard_is before k h ∙ ap (λ (l : List Recorded). heard_behind l k) e

pub unasked_behind_no_request : UnaskedBehindNoRequest
unasked_behind_no_request before k send since h e f =
    heard_is before k h ∙ ap (λ (l : List Recorded). heard_behind l k) e
    ∙ by_test (is_sent send) (λ t. rw t (go (row_outline send) refl)) (λ t. rw t)
  where
    go : (outline : Outline) → row_outline send ≡ outline → heard_since outline (send_end send) since k ≡ Unasked
    go (outlines.Asks request) o = absurd (f request o)
    go (outlines.Refused n) o = refl
    go outlines.Ack o = refl
    go (outlines.Data answers) o = refl

module _ (before : List Recorded) (k send : Recorded) (since : List Recorded) (request : Request) where
  behind_is : BehindAsk before k send since request → verdict_behind before k ≡ heard_since (outlines.Asks request) (send_end send) since k
  behind_is p =
      heard_is before k p.heard ∙ ap (λ (l : List Recorded). heard_behind l k) p.last ∙ rw (p.sent, p.asks)

  decides_is : Decides before k send since request → verdict_behind before k ≡ decided_by request (late (send_end send) k.time) (row_outline k)
  decides_is p = behind_is p.behind ∙ rw (le-ltb k.time (send_end send) p.ended, p.first)

pub left_over_before_the_end : LeftOverBeforeTheEnd
left_over_before_the_end before k send since request p h =
    behind_is before k send since request p ∙ rw (lt-ltb k.time (send_end send) h)

pub second_behind_another : SecondBehindAnother
second_behind_another before k send since request p h e =
    behind_is before k send since request p ∙ rw (le-ltb k.time (send_end send) h, e)

pub late_after_450 : LateAfter450
late_after_450 before k send since request p h = decides_is before k send since request p ∙ rw (lt_late (send_end send) k.time h)

pub counts_if_it_fits : CountsIfItFits
counts_if_it_fits before k send since request p h e =
    decides_is before k send since request p ∙ rw (le_late (send_end send) k.time h, e)

pub damaged_by_its_number : DamagedByItsNumber
damaged_by_its_number before k send since request n p h e =
    decides_is before k send since request p ∙ rw (le_late (send_end send) k.time h, e)

pub wrong_kind_if_not : WrongKindIfNot
wrong_kind_if_not before k send since request t p h e f =
    decides_is before k send since request p ∙ rw (le_late (send_end send) k.time h, f) (rw e (go t.kind))
  where
    go : (kind : Kind) → unfitting (outline_of kind t.address t.method) ≡ WrongKind
    go kinds.Ack = refl
    go kinds.Read = refl
    go kinds.Enter = refl
    go kinds.Leave = refl
    go kinds.Data = refl

-- ---- the run

pub every_verdict_occurs : EveryVerdictOccurs
unfolding verdicts_in check_of number rows_of some_wrong end_of records_in rows_for bytes_of_rows bodies_for verdict_after slot_after verdicts_from is_wake any read_line
    read_body chars bytes_of odd carrier ones_in total line_of
every_verdict_occurs = (refl, refl)
