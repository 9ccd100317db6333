-- Laws of `specs/Written`.
use Prim.Native.Nat.{ℕ, ◌<◌, zero-le}
use mathlib.Core.Bool.{false}
use mathlib.Core.List.{List, [], ◌∷◌}
use mathlib.Core.Logic.{inl, inr}
use mathlib.Core.Path.{◌≡◌, refl, sym, ap, subst, ◌∙◌}
use lib.Dec.{lit<}
use Rattle.bench_clock.specs.declared.Clock.{Clock}
use Rattle.mbus_rules.specs.declared.Request.{Request}
use Rattle.mbus_rules.specs.declared.Request.TheVariants.{Read, Enter, Leave}
use Rattle.mbus_rules.specs.declared.Telegram.{Telegram}
use Rattle.mbus_rules.specs.declared.Outline.{Outline}
use Rattle.mbus_rules.specs.declared.Outline.TheVariants as outlines
use Rattle.base_rules.specs.Answers.{reads}
use Rattle.base_rules.proofs.Laws.AnswerLaws.{reads_same}
use Rattle.base_rules.specs.Lists.{any}
use Rattle.mbus_rules.specs.Lines.{read_line}
use Rattle.mbus_rules.specs.Telegrams.{ack}
use Rattle.base_rules.proofs.Laws.Tests.{by_test, passed}
use Rattle.mbus_rules.specs.Outlines.{outlined}
use Rattle.mbus_rules.specs.Writing.{unwritable}
use Rattle.mbus_rules.specs.TelegramSizes.{Sized}
use Rattle.mbus_rules.specs.declared.Kind.TheVariants.{Ack}
use Rattle.mbus_rules.proofs.Laws.LineLaws.{bare_sized}
use Rattle.mbus_rules.proofs.Laws.RoundTrip.{write_then_read}
use Rattle.bench_clock.specs.Times.{earlier}
use Rattle.meter_template.specs.declared.Pair.{Pair}
use Rattle.meter_template.specs.Templates.{unfit_template, overflows, plus}
use Rattle.meter_template.proofs.Laws.TemplateLaws.{Within, pair_within, plus_within, raised_fit, raised_sized, data_written, data_sized}
use Rattle.meter_steps.specs.declared.Core.{Core}
use Rattle.meter_steps.specs.declared.Mode.{Mode}
use Rattle.meter_steps.specs.declared.Mode.TheVariants.{Use, Verifying}
use Rattle.meter_steps.specs.declared.Meter.{Meter}
use Rattle.meter_steps.specs.Meters.{says, Deed, zeros, begun_meter, set_up, returned, addressed, cleared_from, read, force_of, in_force, with_force}
use Rattle.meter_steps.specs.Meters.{data_answer, instructed, hears}
use Rattle.meter_steps.specs.Histories.{Event, hear, measure, step_of, after_event, run_meter}
use Rattle.meter_steps.proofs.Laws.HistoryLaws.{by_hear, by_measure}
use Rattle.meter_steps.specs.Proper.{Proper}

-- ---- what every history keeps

pub record Sound (c : Core) : Type 0 where
  pub own : c.address < 256
  pub sized : Sized c.template
  pub template : unfit_template c.template ≡ false
  pub used : Within c.used
  pub verified : Within c.verified

zeros_within : Within zeros
zeros_within = record { volume = zero-le; energy = zero-le }

begun_sound : (a : ℕ) (t : Telegram) → a < 256 → Sized t → unfit_template t ≡ false → Sound (begun_meter a t).core
begun_sound a t small z e = record { own = small; sized = z; template = e; used = pair_within t e; verified = zeros_within }

instructed_sound : (t : Clock) (c : Core) (q : Request) → Sound c → Sound (instructed t c q).core
instructed_sound t c (Leave a) s = record { own = s.own; sized = s.sized; template = s.template; used = s.used; verified = s.verified }
instructed_sound t c (Read a) s = record {
  own = s.own;
  sized = raised_sized c.template s.sized;
  template = raised_fit c.template s.template;
  used = s.used;
  verified = s.verified;
}
instructed_sound t c (Enter a m) s = record { own = s.own; sized = s.sized; template = s.template; used = s.used; verified = go c.mode }
  where
    go : (mode : Mode) → Within (cleared_from mode c.verified)
    go Use = zeros_within
    go (Verifying m since) = s.verified

hears_sound : (t : Clock) (c : Core) (v : Outline) → Sound c → Sound (hears t c v).core
hears_sound t c (outlines.Refused n) s = s
hears_sound t c outlines.Ack s = s
hears_sound t c (outlines.Data a) s = s
hears_sound t c (outlines.Asks q) s = by_test (addressed c.address q) (λ own. rw own (instructed_sound t c q s)) (λ other. rw other s)

force_sound : (c : Core) (p : Pair) → Within p → Sound c → Sound (with_force c p)
force_sound c p fits s = record { own = s.own; sized = s.sized; template = s.template; used = u c.mode; verified = w c.mode }
  where
    u : (mode : Mode) → Within (force_of mode p c.used)
    u Use = fits
    u (Verifying m since) = s.used

    w : (mode : Mode) → Within (force_of mode c.verified p)
    w Use = s.verified
    w (Verifying m since) = fits

returned_sound : (t : Clock) (c : Core) → Sound c → Sound (returned t c)
returned_sound t c s = record { own = s.own; sized = s.sized; template = s.template; used = s.used; verified = s.verified }

pub after_sound : (m : Meter) (e : Event) → Sound m.core → Sound (after_event m e).core
after_sound m (hear line t) s = by_hear (λ (n : Meter). Sound n.core) m t s line (λ on. hears_sound t (returned t m.core) (outlined (read_line line))
    (returned_sound t m.core s))
after_sound m (measure v e t) s = by_measure (λ (n : Meter). Sound n.core) m t s v e (λ on fits. force_sound (returned t m.core)
    (plus (in_force (returned t m.core)) v e) (plus_within (in_force (returned t m.core)) v e fits) (returned_sound t m.core s))

pub run_sound : (es : List Event) (m : Meter) → Sound m.core → Sound (run_meter m es).core
unfolding run_meter
run_sound [] m s = s
run_sound (e ∷ es) m s = run_sound es (after_event m e) (after_sound m e s)

-- ---- the answers

force_within : (mode : Mode) (u w : Pair) → Within u → Within w → Within (force_of mode u w)
force_within Use u w a b = a
force_within (Verifying m since) u w a b = b

ack_written : unwritable ack ≡ false
unfolding unwritable any
ack_written = refl

ack_proper : (a : ℕ) → Proper a (says ack)
ack_proper a = (ack_written, write_then_read ack (bare_sized Ack 0 0 (lit< tt)) ack_written, inl refl)

answer_proper : (c : Core) → Sound c → Proper c.address (says (data_answer c))
answer_proper c s =
    let within = force_within c.mode c.used c.verified s.used s.verified in
    let written = data_written c.address (in_force c) c.template s.template within in
    (written, write_then_read (data_answer c) (data_sized c.address (in_force c) c.template s.own s.sized) written, inr refl)

instructed_proper : (t : Clock) (c : Core) (q : Request) → Sound c → Proper c.address (instructed t c q).said
instructed_proper t c (Enter a m) s = ack_proper c.address
instructed_proper t c (Leave a) s = ack_proper c.address
instructed_proper t c (Read a) s = answer_proper (read t c) (instructed_sound t c (Read a) s)

hears_proper : (t : Clock) (c : Core) (v : Outline) → Sound c → Proper c.address (hears t c v).said
hears_proper t c (outlines.Refused n) s = tt
hears_proper t c outlines.Ack s = tt
hears_proper t c (outlines.Data a) s = tt
hears_proper t c (outlines.Asks q) s = by_test (addressed c.address q) (λ own. rw own (instructed_proper t c q s)) (λ other. rw other tt)

step_proper : (m : Meter) (e : Event) (d : Deed) → Sound m.core → step_of m e ≡ reads d → Proper m.core.address d.said
step_proper m (hear line t) d s r =
    subst (λ (x : Deed). Proper m.core.address x.said) (reads_same (passed 70 (earlier m.last.0 t.0) _ d r).1)
    (hears_proper t (returned t m.core) (outlined (read_line line)) (returned_sound t m.core s))
step_proper m (measure v e t) d s r =
    subst (λ (x : Deed). Proper m.core.address x.said)
    (reads_same (passed 71 (overflows (in_force (returned t m.core)) v e) _ d (passed 70 (earlier m.last.0 t.0) _ d r).1).1) tt

hears_address : (t : Clock) (c : Core) (v : Outline) → (hears t c v).core.address ≡ c.address
hears_address t c (outlines.Refused n) = refl
hears_address t c outlines.Ack = refl
hears_address t c (outlines.Data a) = refl
hears_address t c (outlines.Asks q) = by_test (addressed c.address q) (λ own. rw own (go q)) (λ other. rw other)
  where
    go : (q : Request) → (instructed t c q).core.address ≡ c.address
    go (Read a) = refl
    go (Enter a m) = refl
    go (Leave a) = refl

pub address_stays : (es : List Event) (m : Meter) → (run_meter m es).core.address ≡ m.core.address
unfolding run_meter
address_stays [] m = refl
address_stays (e ∷ es) m = address_stays es (after_event m e) ∙ one m e
  where
    one : (m : Meter) (e : Event) → (after_event m e).core.address ≡ m.core.address
    one m (hear line t) = by_hear (λ (n : Meter). n.core.address ≡ m.core.address) m t refl line
        (λ on. hears_address t (returned t m.core) (outlined (read_line line)))
    one m (measure v e t) = by_measure (λ (n : Meter). n.core.address ≡ m.core.address) m t refl v e (λ on fits. refl)

-- A meter that was set up, after any history: what it answers can be written, its line reads as it, and it is the ack or comes from
-- the own address. (`Sized`: each field is in the range of its type.)
pub answers_proper : (a : ℕ) (template : Telegram) (m : Meter) (es : List Event) (e : Event) (d : Deed)
    → a < 256 → Sized template → set_up a template ≡ reads m → step_of (run_meter m es) e ≡ reads d → Proper a d.said
answers_proper a template m es e d small z up step =
    let fine = passed 72 (unfit_template template) (reads (begun_meter a template)) m up in
    let same : begun_meter a template ≡ m = reads_same fine.1 in
    let sound : Sound m.core = subst (λ (n : Meter). Sound n.core) same (begun_sound a template small z fine.0) in
    let own : (run_meter m es).core.address ≡ a = address_stays es m ∙ ap (λ (n : Meter). n.core.address) (sym same) in
    subst (λ (x : ℕ). Proper x d.said) own (step_proper (run_meter m es) e d (run_sound es m sound) step)
