-- The number that a verdict has, where it has one, has two digits.
use Prim.Native.Nat.{ℕ, zero, suc, ◌<◌}
use mathlib.Core.Bool.{Bool, true, false, cond}
use mathlib.Core.List.{List, [], ◌∷◌, ◌++◌}
use native.Mathlib.Omega.{arith}
use lib.ListN.{get_or}
use Rattle.base_rules.specs.Answers.{Answer, reads, refusal}
use Rattle.base_characters.specs.Characters.{chars}
use Rattle.mbus_rules.specs.declared.Kind.{Kind}
use Rattle.mbus_rules.specs.declared.Kind.TheVariants as kinds
use Rattle.mbus_rules.specs.declared.Telegram.{Telegram}
use Rattle.mbus_rules.specs.declared.Outline.{Outline}
use Rattle.mbus_rules.specs.declared.Outline.TheVariants as outlines
use Rattle.mbus_rules.specs.Outlines.{outline_of, outlined}
use Rattle.bench_clock.specs.declared.Clock.{Clock}
use Rattle.bench_clock.specs.Times.{earlier}
use Rattle.bench_clock.specs.Wakes.{is_wake}
use Rattle.exchange_replies.specs.Fits.{fits}
use Rattle.exchange_steps.specs.declared.Exchange.{Exchange}
use Rattle.exchange_steps.specs.declared.Slot.{Slot}
use Rattle.exchange_steps.specs.declared.Slot.TheVariants.{Idle, Busy}
use Rattle.exchange_steps.specs.Steps.{waits, past}
use Rattle.bundle_check.specs.Records.{Recorded}
use Rattle.run_counting.specs.Counting.{is_sent, row_outline, send_end}
use Rattle.run_counting.specs.Exchanges.{row_clock}
use Rattle.run_listing.proofs.Laws.Longest.{Small, low, value, line_small}
use Rattle.run_verdicts.specs.declared.Verdict.{Verdict}
use Rattle.run_verdicts.specs.declared.Verdict.TheVariants.{Wake, First, Resend, Refused, Counts, LeftOver, Late, Second, Damaged, WrongKind, Unasked}
use Rattle.run_verdicts.specs.Verdicts.{unfitting, decided_by, heard_verdict, sent_as, resent_on, sent_verdict}
use Rattle.run_verdicts.specs.Verdicts.{verdict_after, slot_of, waited, verdicts_from, verdicts_of}

-- 0 where it has none
abbrev pub number_in : Verdict → ℕ
number_in Wake = 0
number_in First = 0
number_in Resend = 0
number_in (Refused n) = n
number_in Counts = 0
number_in LeftOver = 0
number_in Late = 0
number_in Second = 0
number_in (Damaged n) = n
number_in WrongKind = 0
number_in Unasked = 0

abbrev refused_by : Outline → ℕ
refused_by (outlines.Refused n) = n
refused_by outlines.Ack = 0
refused_by (outlines.Asks request) = 0
refused_by (outlines.Data address) = 0

kind_small : (k : Kind) (a s : ℕ) → refused_by (outline_of k a s) < 100
kind_small kinds.Ack a s = omega arith
kind_small kinds.Read a s = omega arith
kind_small kinds.Enter a s = omega arith
kind_small kinds.Leave a s = omega arith
kind_small kinds.Data a s = omega arith

outline_small : {a : Answer Telegram} → Small a → refused_by (outlined a) < 100
outline_small (low n h) = h
outline_small (value t) = kind_small t.kind t.address t.method

either_small : (t : Bool) (v w : Verdict) → number_in v < 100 → number_in w < 100 → number_in (cond t v w) < 100
either_small true v w h g = h
either_small false v w h g = g

unfitting_small : (o : Outline) → refused_by o < 100 → number_in (unfitting o) < 100
unfitting_small (outlines.Refused n) h = h
unfitting_small outlines.Ack h = h
unfitting_small (outlines.Asks request) h = h
unfitting_small (outlines.Data address) h = h

heard_small : (b : Slot) (o : Outline) (t : Clock) → refused_by o < 100 → number_in (heard_verdict b o t) < 100
heard_small Idle o t h = omega arith
heard_small (Busy x) o t h =
    let none : 0 < 100 = omega arith in
    let decided : Verdict = decided_by x.request (past x t) o in
    either_small (earlier x.began.0 t.0) LeftOver (cond (waits x.state) decided Second) none
    (either_small (waits x.state) decided Second
    (either_small (past x t) Late (cond (fits x.request o) Counts (unfitting o)) none
    (either_small (fits x.request o) Counts (unfitting o) none (unfitting_small o h))) none)

asked_small : (a : Answer Exchange) → number_in (sent_as a) < 100
asked_small (refusal n) = omega arith
asked_small (reads x) = omega arith

sent_small : (b : Slot) (o : Outline) (end : Clock) → refused_by o < 100 → number_in (sent_verdict b o end) < 100
sent_small b (outlines.Refused n) end h = h
sent_small b outlines.Ack end h = omega arith
sent_small b (outlines.Asks request) end h = asked_small (resent_on b (outlines.Asks request) end)
sent_small b (outlines.Data address) end h = omega arith

after_small : (b : Slot) (k : Recorded) → number_in (verdict_after b k) < 100
unfolding verdict_after
after_small b k =
    let t : Clock = row_clock k.time in
    let line : refused_by (row_outline k) < 100 = outline_small (line_small (chars k.body)) in
    let sent : Verdict = sent_verdict (waited b t) (row_outline k) (row_clock (send_end k)) in
    let heard : Verdict = heard_verdict b (row_outline k) t in
    either_small (is_wake (chars k.body)) Wake (cond (is_sent k) sent heard) (omega arith)
    (either_small (is_sent k) sent heard (sent_small (waited b t) (row_outline k) (row_clock (send_end k)) line) (heard_small b (row_outline k) t line))

from_small : (before ks : List Recorded) (i : ℕ) → number_in (get_or (verdicts_from before ks) i Unasked) < 100
unfolding verdicts_from
from_small before [] i = omega arith
from_small before (k ∷ ks) zero = after_small (slot_of k.position before) k
from_small before (k ∷ ks) (suc i) = from_small (before ++ (k ∷ [])) ks i

pub verdict_small : (ks : List Recorded) (i : ℕ) → number_in (get_or (verdicts_of ks) i Unasked) < 100
verdict_small ks i = from_small [] ks i
