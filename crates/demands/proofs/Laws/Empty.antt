-- Proofs of the statements of specs/Empty.
use Prim.Native.Nat.{ℕ, ◌+◌, ◌*◌, ◌%◌, ◌<◌}
use mathlib.Core.Bool.{true, false, true≢false}
use mathlib.Core.List.{List, [], ◌∷◌, map}
use mathlib.Core.Path.{◌≡◌, refl, sym, ap, ◌∙◌}
use native.Mathlib.Nat.{mod-lt}
use native.Mathlib.Omega.{arith}
use lib.Count.{ones_in}
use lib.Dec.{lit<, lit≤}
use lib.ListN.{length, replicate}
use Rattle.bench_clock.specs.declared.Clock.{Clock}
use Rattle.mbus_rules.specs.declared.Kind.TheVariants.{Ack, Read}
use Rattle.mbus_rules.specs.declared.Request.TheVariants.{Enter}
use Rattle.mbus_rules.specs.declared.Request.TheVariants as requests
use Rattle.mbus_rules.specs.declared.Telegram.{Telegram}
use Rattle.mbus_rules.specs.declared.Outline.TheVariants.{Asks}
use Rattle.base_rules.specs.Lists.{at, any, total}
use Rattle.base_characters.specs.Characters.{byte_of, odd, carrier}
use Rattle.base_rules.specs.Answers.{Answer, reads}
use Rattle.mbus_rules.specs.Telegrams.{ack, read_of, enter_of, blank}
use Rattle.mbus_rules.specs.Host.{line_number}
use Rattle.mbus_rules.specs.Lines.{read_body, read_line}
use Rattle.mbus_rules.specs.Outlines.{outlined}
use Rattle.mbus_rules.specs.Writing.{line_of, unwritable}
use Rattle.base_characters.specs.Flips.{repeated}
use Rattle.mbus_rules.proofs.Laws.LineLaws.{bare_sized}
use Rattle.base_lent.specs.Lent.{told}
use Rattle.base_lent.specs.Pieces.{pieces}
use Rattle.mbus_search.specs.declared.Spot.{Spot}
use Rattle.mbus_search.specs.Searching.{accepts, Begins}
use Rattle.mbus_after.specs.declared.TimedSpot.{TimedSpot}
use Rattle.mbus_either.specs.declared.LiveLine.{LiveLine}
use Rattle.host_either.specs.Finding.{line_interface}
use Rattle.serial_marks.specs.Marks.{port_marked}
use Rattle.serial_marks.specs.Unmarking.{Unmarking}
use Rattle.exchange_steps.specs.declared.Cause.TheVariants.{Silent}
use Rattle.exchange_steps.specs.declared.State.TheVariants.{Resend, Well}
use Rattle.exchange_steps.specs.declared.Exchange.{Exchange}
use Rattle.exchange_steps.specs.declared.Slot.{Slot}
use Rattle.exchange_steps.specs.declared.Slot.TheVariants.{Idle, Busy}
use Rattle.exchange_steps.specs.Steps.{sending, begun, moved, step, send_ended_on, tick_on}
use Rattle.exchange_steps.specs.Histories.{Step, send_ended, tick, answer, stands, Send, noted, run, sends_made, Ask}
use Rattle.exchange_steps.specs.Values.{clock_at}
use Rattle.meter_steps.specs.declared.Meter.{Meter}
use Rattle.meter_steps.specs.Meters as meters
use Rattle.meter_steps.specs.Histories.{hear, is_enter, instructs, obeys}
use Rattle.demands.proofs.Laws.Lines as lines
use Rattle.demands.proofs.Laws.Writer as writer
use Rattle.demands.proofs.Laws.Search as search
use Rattle.demands.proofs.Laws.Interfaces as interfaces
use Rattle.demands.proofs.Laws.Serial as serial
use Rattle.demands.proofs.Laws.After as after
use Rattle.demands.proofs.Laws.Whole as whole
use Rattle.demands.proofs.Laws.Exchange as exchange
use Rattle.demands.proofs.Laws.Meter as meter
use Rattle.demands.specs.Empty.{RulesRead, RefusesEveryLine, SaysAckToEachLine, RulesRefuseFlips, SaysAckToFlips, RulesWrite, RefusesEveryTelegram}
use Rattle.demands.specs.Empty.{WriterDoesNothing, RulesFind, FindsNothing, RulesFindLive, FindsNeither, OpticalComesFirst, RulesFindAfter}
use Rattle.demands.specs.Empty.{FindsNothingAfter, RulesKnow, tells, LengthNeverKnown, RulesGiveBack, MakesNothing, DropsTheParityBit, WorksItOut}
use Rattle.demands.specs.Empty.{RulesAnswer, RulesKeepSilent, spoken, speaks, MeterIsMute, MeterAnswersAll, next_by, run_by, made_by, RulesTakeReplies}
use Rattle.demands.specs.Empty.{RulesReportSends, RulesSendOneRequest, RulesBeginAgain, well_in, DecidesOnFirstSend, ReportsAnotherCount, TakesAnySend}
use Rattle.demands.specs.Empty.{BeginsButOnce}

pub rules_read : RulesRead
rules_read = writer.write_and_read

pub refuses_every_line : RefusesEveryLine
unfolding line_of unwritable any
refuses_every_line number d = let r = d ack (0 ∷ []) (bare_sized Ack 0 0 (lit< tt)) refl (lit≤ tt) in omega (arith, ap line_number r.2)

pub says_ack_to_each_line : SaysAckToEachLine
unfolding line_of unwritable any
says_ack_to_each_line d = let r = d (read_of 0) (replicate 5 0) (bare_sized Read 0 0 (lit< tt)) refl (lit≤ tt) in omega (arith, ap line_number r.2)

pub rules_refuse_flips : RulesRefuseFlips
rules_refuse_flips = lines.flips_are_refused

pub says_ack_to_flips : SaysAckToFlips
unfolding any repeated
says_ack_to_flips d =
    d (0x1E5 ∷ []) (record { character = 0; bit = 0 } ∷ []) (ack, refl) (record { within = refl; different = refl }) (lit≤ tt) (lit≤ tt) (ack, refl)

pub rules_write : RulesWrite
rules_write = writer.read_and_write

ack_read : read_line (0x1E5 ∷ []) ≡ reads ack
unfolding read_line read_body any odd ones_in
ack_read = refl

pub refuses_every_telegram : RefusesEveryTelegram
refuses_every_telegram number leaves d = omega (arith, ap (told (λ (s : List ℕ). length s)) (d (0x1E5 ∷ []) ack (0 ∷ []) ack_read (lit≤ tt)).0)

pub writer_does_nothing : WriterDoesNothing
writer_does_nothing write d = omega (arith, ap (λ (s : List ℕ). at s 0) (d (0x1E5 ∷ []) ack (0 ∷ []) ack_read (lit≤ tt)).1)

pub rules_find : RulesFind
rules_find = search.line_is_found

pub finds_nothing : FindsNothing
finds_nothing number d =
    let r = d (0x1E5 ∷ []) 0 1 (lit≤ tt, ap accepts ack_read) in omega (arith, ap (told (λ (p : Spot). 0)) r.1)

pub rules_find_live : RulesFindLive
rules_find_live = interfaces.mbus_is_found

pub finds_neither : FindsNeither
finds_neither number d =
    let r = d (0x1E5 ∷ []) [] 0 1 (lit≤ tt, ap accepts ack_read) in omega (arith, ap (told (λ (l : LiveLine). 0)) r.1)

pub optical_comes_first : OpticalComesFirst
optical_comes_first find first d =
    let begins : Begins (0x1E5 ∷ []) 0 1 = (lit≤ tt, ap accepts ack_read) in
    let o = first (0x1E5 ∷ []) (0x1E5 ∷ []) 0 1 begins in
    let m = d (0x1E5 ∷ []) (0x1E5 ∷ []) 0 1 begins in
    omega (arith, ap (told line_interface) (sym o.1 ∙ m.1))

pub rules_find_after : RulesFindAfter
rules_find_after = after.line_since_is_found

pub finds_nothing_after : FindsNothingAfter
finds_nothing_after number d =
    let r = d 0 (0x1E5 ∷ []) (0 ∷ []) 0 1 (record { begins = (lit≤ tt, ap accepts ack_read); timed = lit< tt; since = lit≤ tt }) in
    omega (arith, ap (told (λ (p : TimedSpot). 0)) r.1)

pub rules_know : RulesKnow
rules_know = whole.line_is_known

pub length_never_known : LengthNeverKnown
length_never_known program mute d =
    let r = d (0x1E5 ∷ 0 ∷ []) (0x1E5 ∷ []) (ack, ack_read) refl (lit≤ tt) in omega (arith, mute (0x1E5 ∷ 0 ∷ []), ap tells r)

pub rules_give_back : RulesGiveBack
rules_give_back cs h k = ap (λ (u : Unmarking). u.characters) (serial.characters_back cs h k)

pub makes_nothing : MakesNothing
unfolding any
makes_nothing d = omega (arith, ap (λ (s : List ℕ). length s) (d (0x1E5 ∷ []) refl 0))

-- one that drops the parity bit, whatever its bytes are: that of an ack is 1
byte_first : (s : List ℕ) → at (map byte_of s) 0 < 256
byte_first [] = lit< tt
byte_first (b ∷ s) = mod-lt b (lit< tt)

pub drops_the_parity_bit : DropsTheParityBit
unfolding any
drops_the_parity_bit bytes_of d =
    omega (arith, ap (λ (s : List ℕ). at s 0) (d (0x1E5 ∷ []) refl 0), byte_first (bytes_of 1 (pieces port_marked (0x1E5 ∷ []))))

-- and one that works it out from the byte alone: that of an ack with wrong parity is 0
alone : (x b : ℕ) → x < 2 → 256 * x + b ≡ 0x0E5 → b ≡ 0xE5
alone x b h e = omega arith

ack_carried : carrier 0xE5 ≡ 0x1E5
unfolding carrier ones_in
ack_carried = refl

not_carried : (b : ℕ) → carrier b ≡ 0x0E5 → ⊥
unfolding carrier
not_carried b e =
    let ack : b ≡ 0xE5 = alone (ones_in 8 b % 2) b (mod-lt (ones_in 8 b) (lit< tt)) e in
    omega (arith, sym ack_carried ∙ ap carrier (sym ack) ∙ e)

carried_first : (s : List ℕ) → at (map carrier s) 0 ≡ 0x0E5 → ⊥
carried_first [] e = omega arith
carried_first (b ∷ s) e = not_carried b e

pub works_it_out : WorksItOut
unfolding any
works_it_out bytes_of d = carried_first (bytes_of 1 (pieces port_marked (0x0E5 ∷ []))) (ap (λ (s : List ℕ). at s 0) (d (0x0E5 ∷ []) refl 0))

pub rules_answer : RulesAnswer
rules_answer = meter.enter_answered

pub rules_keep_silent : RulesKeepSilent
rules_keep_silent = meter.others_silent

abbrev fresh : Meter
fresh = meters.begun_meter 0 blank

-- enter 90 at FE, which is an instruction; and an ack, which is none
abbrev enter_line : List ℕ
enter_line = line_of (enter_of 0xFE 0x90)

enter_obeyed : obeys is_enter fresh (hear enter_line (clock_at 0)) ≡ true
unfolding read_line read_body any odd ones_in total carrier line_of
enter_obeyed = refl

ack_asks_nothing : instructs (λ q. true) 0 (outlined (read_line (0x1E5 ∷ []))) ≡ false
ack_asks_nothing = ap (λ (a : Answer Telegram). instructs (λ q. true) 0 (outlined a)) ack_read

pub meter_is_mute : MeterIsMute
meter_is_mute step mute d =
    let r = d fresh enter_line (clock_at 0) enter_obeyed in
    let answer : speaks (step fresh (hear enter_line (clock_at 0))) ≡ speaks (reads r.0) = ap speaks r.1 in
    let said : speaks (reads r.0) ≡ 1 = ap spoken r.2 in
    omega (arith, mute fresh (hear enter_line (clock_at 0)), answer, said)

pub meter_answers_all : MeterAnswersAll
meter_answers_all step loud d =
    let r = d fresh (0x1E5 ∷ []) (clock_at 0) refl ack_asks_nothing in
    let answer : speaks (step fresh (hear (0x1E5 ∷ []) (clock_at 0))) ≡ 0 = ap speaks r in
    omega (arith, loud fresh (0x1E5 ∷ []) (clock_at 0), answer)

run_by_lem : (b : Slot) (h : List Step) → run_by answer b h ≡ run b h
unfolding run_by run
run_by_lem b [] = refl
run_by_lem b (s ∷ h) = run_by_lem (stands b (answer b s)) h

made_by_lem : (b : Slot) (sends : List Send) (h : List Step) → made_by answer b sends h ≡ sends_made b sends h
unfolding made_by sends_made
made_by_lem b sends [] = refl
made_by_lem b sends (s ∷ h) = made_by_lem (stands b (answer b s)) (noted b s (answer b s) sends) h

pub rules_take_replies : RulesTakeReplies
rules_take_replies h x e send others line t telegram w m =
    exchange.takes_reply h x (sym (run_by_lem Idle h) ∙ e) send others line t telegram w (sym (made_by_lem Idle [] h) ∙ m)

pub rules_report_sends : RulesReportSends
rules_report_sends h x e = rw (made_by_lem Idle [] h) (exchange.sends_reported h x (sym (run_by_lem Idle h) ∙ e)).0

pub rules_send_one_request : RulesSendOneRequest
rules_send_one_request h x e = rw (made_by_lem Idle [] h) (exchange.sends_reported h x (sym (run_by_lem Idle h) ∙ e)).2

pub rules_begin_again : RulesBeginAgain
rules_begin_again x telegram t = exchange.well_as_none telegram t x

-- the send of an enter; a tick past the window, after which a resend is asked for; and the end of a send of this telegram
abbrev at_start : Exchange
at_start = begun (Enter 0xFE 0x90) (clock_at 0)

abbrev asking : Exchange
asking = moved at_start (Resend Silent) (clock_at 451)

abbrev sent_again : Telegram → List Step
sent_again telegram = send_ended (enter_of 0xFE 0x90) (clock_at 0) ∷ tick (clock_at 451) ∷ send_ended telegram (clock_at 451) ∷ []

abbrev resent : List Step
resent = sent_again (enter_of 0xFE 0x90)

abbrev enter_sent : ℕ → Send
enter_sent t = record { telegram = enter_of 0xFE 0x90; end = clock_at t }

module _ (program : Slot → Step → Answer Exchange) (ticks : (b : Slot) (t : Clock) → program b (tick t) ≡ tick_on b t)
    (sends : (b : Slot) (telegram : Telegram) (t : Clock) → program b (send_ended telegram t) ≡ send_ended_on b (outlined (reads telegram)) t) where
  abbrev again : Step
  again = send_ended (enter_of 0xFE 0x90) (clock_at 451)

  first : next_by program (next_by program Idle (send_ended (enter_of 0xFE 0x90) (clock_at 0))) (tick (clock_at 451)) ≡ Busy asking
  first =
      ap (λ (b : Slot). next_by program b (tick (clock_at 451))) (ap (stands Idle) (sends Idle (enter_of 0xFE 0x90) (clock_at 0)))
      ∙ ap (stands (Busy at_start)) (ticks (Busy at_start) (clock_at 451))

  second : run_by program Idle resent ≡ Busy (sending (Enter 0xFE 0x90) 2 (clock_at 451))
  unfolding run_by
  second = ap (λ (b : Slot). next_by program b again) first ∙ ap (stands (Busy asking)) (sends (Busy asking) (enter_of 0xFE 0x90) (clock_at 451))

  made_two : made_by program Idle [] resent ≡ enter_sent 451 ∷ enter_sent 0 ∷ []
  unfolding made_by
  made_two =
      let once : List Send = noted Idle (send_ended (enter_of 0xFE 0x90) (clock_at 0)) (program Idle (send_ended (enter_of 0xFE 0x90) (clock_at 0))) [] in
      ap (λ (b : Slot). noted b again (program b again) once) first
      ∙ ap (λ (a : Answer Exchange). noted (Busy asking) again a once) (sends (Busy asking) (enter_of 0xFE 0x90) (clock_at 451))
      ∙ ap (λ (a : Answer Exchange). enter_sent 451 ∷ noted Idle (send_ended (enter_of 0xFE 0x90) (clock_at 0)) a [])
      (sends Idle (enter_of 0xFE 0x90) (clock_at 0))

  pub decides_on_first_send : DecidesOnFirstSend program ticks sends
  decides_on_first_send deaf d =
      let x : Exchange = sending (Enter 0xFE 0x90) 2 (clock_at 451) in
      let r = d resent x second (enter_sent 451) (enter_sent 0 ∷ []) (0x1E5 ∷ []) (clock_at 451) ack refl made_two (lit≤ tt) (lit≤ tt) ack_read refl in
      true≢false (sym (ap well_in r) ∙ deaf x (0x1E5 ∷ []) (clock_at 451) (lit< tt))

pub reports_another_count : ReportsAnotherCount
unfolding run_by made_by
reports_another_count d = omega (arith, d resent (sending (Enter 0xFE 0x90) 1 (clock_at 451)) refl)

pub takes_any_send : TakesAnySend
unfolding run_by made_by Ask
takes_any_send d =
    let r = d (sent_again (read_of 0xFE)) (sending (Enter 0xFE 0x90) 2 (clock_at 451)) refl in
    let same : Asks (requests.Read 0xFE) ≡ Asks (Enter 0xFE 0x90) = r.0 in
    let z : ◌≡◌ {A = ℕ} 0 1 = cc in
    omega arith

pub begins_but_once : BeginsButOnce
begins_but_once d =
    omega (arith, ap (told (λ (x : Exchange). 0)) (d (moved at_start Well (clock_at 0)) (enter_of 0xFE 0x90) (clock_at 0) refl))
