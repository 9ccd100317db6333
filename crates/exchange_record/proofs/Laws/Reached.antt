-- Every step gives an exchange that is reached, so that its record is read back as the same exchange.
use Prim.Native.Nat.{ℕ, ◌+◌, ◌^◌, ◌≤◌, ◌<◌}
use mathlib.Core.Bool.{Bool, true, false, not, cond, and-eq-true_iff}
use mathlib.Core.Path.{◌≡◌, refl, ap}
use native.Mathlib.Nat.{le_refl, le_trans}
use native.Mathlib.Omega.{arith}
use borrow.Author.Tests.{ltb-true, ltb-false, leb-true, lt-ltb, le-leb, eq-eqb}
use lib.Dec.{ltb, leb}
use Rattle.bench_clock.specs.declared.Clock.{Clock}
use Rattle.bench_clock.proofs.Laws.Times.{le_late}
use Rattle.mbus_rules.specs.declared.Request.{Request}
use Rattle.mbus_rules.specs.declared.Outline.{Outline}
use Rattle.mbus_rules.specs.declared.Outline.TheVariants as outlines
use Rattle.base_rules.specs.Answers.{Answer, reads, refusal}
use Rattle.exchange_steps.specs.declared.Cause.{Cause}
use Rattle.exchange_steps.specs.declared.Cause.TheVariants.{Silent}
use Rattle.exchange_steps.specs.declared.State.{State}
use Rattle.exchange_steps.specs.declared.State.TheVariants.{Resend, Well, Failed}
use Rattle.exchange_steps.specs.declared.Exchange.{Exchange}
use Rattle.exchange_steps.specs.declared.Slot.{Slot}
use Rattle.exchange_steps.specs.declared.Slot.TheVariants.{Idle, Busy}
use Rattle.exchange_replies.specs.Fits.{fits}
use Rattle.exchange_steps.specs.Steps.{most_sends, failed, cause_of, after_line, after_tick, waits, sending, moved, past, heard_on, tick_on, send_ended_on}
use Rattle.exchange_steps.proofs.Laws.Steps.{asks_few, step_cases, send_cases}
use Rattle.exchange_record.specs.Exchanges.{fails_by, stands_at, reached}
use Rattle.exchange_record.proofs.Laws.ExchangeLaws.{ExchangeFits}

-- ---- the state that comes next goes with the sends and the time

failed_stands : (sends : ℕ) (cause : Cause) (l : Bool) → sends ≤ most_sends → fails_by cause l ≡ true → stands_at (failed sends cause) sends l ≡ true
failed_stands sends cause l few f = go (ltb sends most_sends) refl
  where
    go : (t : Bool) → ltb sends most_sends ≡ t → stands_at (cond t (Resend cause) (Failed cause)) sends l ≡ true
    go true e = rw (e, f)
    go false e = rw (eq-eqb sends most_sends (omega (arith, ltb-false sends most_sends e)), f)

judged : (outline : Outline) → fails_by (cause_of outline) false ≡ true
judged (outlines.Refused n) = refl
judged outlines.Ack = refl
judged (outlines.Asks other) = refl
judged (outlines.Data answers) = refl

line_stands : (request : Request) (sends : ℕ) (l : Bool) (outline : Outline) → sends ≤ most_sends → stands_at (after_line request sends l outline) sends l ≡ true
line_stands request sends true outline few = failed_stands sends Silent true few refl
line_stands request sends false outline few = go (fits request outline)
  where
    go : (t : Bool) → stands_at (cond t Well (failed sends (cause_of outline))) sends false ≡ true
    go true = refl
    go false = failed_stands sends (cause_of outline) false few (judged outline)

tick_stands : (sends : ℕ) (l : Bool) → sends ≤ most_sends → stands_at (after_tick sends l) sends l ≡ true
tick_stands sends true few = failed_stands sends Silent true few refl
tick_stands sends false few = refl

-- ---- the four parts of `reached`

pub record Parts (x : Exchange) : Type 0 where
  pub some : 0 < x.sends
  pub few : x.sends ≤ most_sends
  pub in_order : x.began.0 ≤ x.last.0
  pub stands : stands_at x.state x.sends (past x x.last) ≡ true

pub parts : (x : Exchange) → reached x ≡ true → Parts x
parts x e =
    let one = (and-eq-true_iff (ltb 0 x.sends) _).0 e in
    let two = (and-eq-true_iff (leb x.sends most_sends) _).0 one.1 in
    let three = (and-eq-true_iff (leb x.began.0 x.last.0) _).0 two.1 in
    record {
      some = ltb-true 0 x.sends one.0;
      few = leb-true x.sends most_sends two.0;
      in_order = leb-true x.began.0 x.last.0 three.0;
      stands = three.1;
    }

whole : (x : Exchange) → Parts x → reached x ≡ true
whole x p = rw (lt-ltb 0 x.sends p.some, le-leb x.sends most_sends p.few, le-leb x.began.0 x.last.0 p.in_order) p.stands

-- ---- kept by every step

sending_reached : (request : Request) (sends : ℕ) (t : Clock) → 0 < sends → sends ≤ most_sends → reached (sending request sends t) ≡ true
sending_reached request sends t some few =
    whole (sending request sends t)
    (record { some = some; few = few; in_order = le_refl t.0; stands = ap not (le_late t.0 t.0 (omega arith)) })

moved_reached : (x : Exchange) (state : State) (t : Clock) → reached x ≡ true → x.last.0 ≤ t.0 → stands_at state x.sends (past x t) ≡ true
    → reached (moved x state t) ≡ true
moved_reached x state t r l s =
    let p = parts x r in
    whole (moved x state t) (record { some = p.some; few = p.few; in_order = le_trans p.in_order l; stands = s })

-- An exchange that is reached and whose times fit their type.
pub record Good (x : Exchange) : Type 0 where
  pub fits : ExchangeFits x
  pub so : reached x ≡ true

-- What a step answers, if it is an exchange, is good.
abbrev pub Keeps : Answer Exchange → Type 0
Keeps (refusal n) = Unit {0}
Keeps (reads y) = Good y

sending_good : (request : Request) (sends : ℕ) (t : Clock) → t.0 < 256 ^ 8 → 0 < sends → sends ≤ most_sends → Good (sending request sends t)
sending_good request sends t f some few = record { fits = record { began = f; last = f }; so = sending_reached request sends t some few }

moved_good : (x : Exchange) (state : State) (t : Clock) → Good x → t.0 < 256 ^ 8 → x.last.0 ≤ t.0 → stands_at state x.sends (past x t) ≡ true
    → Good (moved x state t)
moved_good x state t g f l s = record { fits = record { began = g.fits.began; last = f }; so = moved_reached x state t g.so l s }

-- The exchange that there is, if there is one, is good.
abbrev pub GoodBy : Slot → Type 0
GoodBy Idle = Unit {0}
GoodBy (Busy x) = Good x

module _ (t : Clock) (f : t.0 < 256 ^ 8) where
  pub send_good : (b : Slot) → GoodBy b → (outline : Outline) → Keeps (send_ended_on b outline t)
  send_good b g outline =
      send_cases b outline t Keeps (λ n. tt) (λ i request v. sending_good request 1 t f (omega arith) (omega arith))
      (λ x i v l c. let few = asks_few x.state x.sends c in
      sending_good x.request (x.sends + 1) t f (omega arith) (omega arith))

  pub heard_good : (b : Slot) → GoodBy b → (outline : Outline) → Keeps (heard_on b outline t)
  heard_good Idle g outline = tt
  heard_good (Busy x) g outline =
      let state : State = after_line x.request x.sends (past x t) outline in
      step_cases x t Keeps (waits x.state) (moved x state t) (λ n. tt)
      (λ l c. moved_good x state t g f l (line_stands x.request x.sends (past x t) outline (parts x g.so).few))

  pub tick_good : (b : Slot) → GoodBy b → Keeps (tick_on b t)
  tick_good Idle g = tt
  tick_good (Busy x) g =
      let state : State = after_tick x.sends (past x t) in
      step_cases x t Keeps (waits x.state) (moved x state t) (λ n. tt)
      (λ l c. moved_good x state t g f l (tick_stands x.sends (past x t) (parts x g.so).few))
