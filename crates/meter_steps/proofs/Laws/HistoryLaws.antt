-- Laws of `specs/HistoryLaws`.
use Prim.Native.Nat.{ℕ, zero-le}
use native.Mathlib.Nat.{le_refl, le_trans}
use native.Mathlib.Omega.{arith}
use mathlib.Core.Bool.{Bool, true, false, not, ◌&&◌, true≢false, and-eq-true_iff, and-true, and-false}
use mathlib.Core.List.{List, [], ◌∷◌}
use mathlib.Core.Path.{◌≡◌, refl, sym, ap, ap₂, ◌∙◌}
use borrow.Author.Tests.{le-ltb, not-true}
use Rattle.bench_clock.specs.Times.{earlier}
use Rattle.bench_clock.specs.declared.Clock.{Clock}
use Rattle.mbus_rules.specs.declared.Request.{Request}
use Rattle.mbus_rules.specs.declared.Request.TheVariants.{Read, Enter, Leave}
use Rattle.mbus_rules.specs.declared.Telegram.{Telegram}
use Rattle.mbus_rules.specs.declared.Outline.{Outline}
use Rattle.mbus_rules.specs.declared.Outline.TheVariants as outlines
use Rattle.base_rules.specs.Answers.{Answer, reads, refusal, refuse}
use Rattle.base_rules.proofs.Laws.AnswerLaws.{reads_same}
use Rattle.mbus_rules.specs.Telegrams.{ack}
use Rattle.mbus_rules.specs.Lines.{read_line}
use Rattle.base_rules.proofs.Laws.Tests.{by_test, neither, passed}
use Rattle.mbus_rules.specs.Outlines.{outlined}
use Rattle.meter_template.specs.declared.Pair.{Pair}
use Rattle.meter_template.specs.Templates.{raised, data_with, overflows, plus}
use Rattle.meter_steps.specs.declared.Core.{Core}
use Rattle.meter_steps.specs.declared.Mode.{Mode}
use Rattle.meter_steps.specs.declared.Mode.TheVariants.{Use, Verifying}
use Rattle.meter_steps.specs.declared.Meter.{Meter}
use Rattle.meter_steps.specs.Meters.{Deed, says, quiet, begun_meter, zeros, mode_at, returned, instructed_at, left, cleared_from, force_of, in_force}
use Rattle.meter_steps.specs.Meters.{with_force, addressed, instructed, hears, shown_meter_step}
use Rattle.meter_steps.specs.Histories.{Event, hear, measure, time_of, step_of, after_event, run_meter, is_accepted, is_read, is_enter, is_leave, instructs}
use Rattle.meter_steps.specs.Histories.{obeys, in_use, finds_in_use, enters_from_use, returns_first, sometime, ends_verification}
use Rattle.meter_steps.specs.Changes.{read_at, Rises}

-- ---- the ways that a step can go

module _ (P : Meter → Type 0) (m : Meter) (t : Clock) (stays : P m) where
  pub by_hear : (line : List ℕ)
      → (earlier m.last.0 t.0 ≡ false → P (record { last = t; core = (hears t (returned t m.core) (outlined (read_line line))).core }))
      → P (after_event m (hear line t))
  by_hear line taken = go (earlier m.last.0 t.0) refl
    where
      go : (back : Bool) → earlier m.last.0 t.0 ≡ back
          → P (shown_meter_step m t (refuse 70 back (reads (hears t (returned t m.core) (outlined (read_line line)))))).meter
      go true e = stays
      go false e = taken e

  pub by_measure : (v e : ℕ)
      → (earlier m.last.0 t.0 ≡ false → overflows (in_force (returned t m.core)) v e ≡ false
      → P (record { last = t; core = with_force (returned t m.core) (plus (in_force (returned t m.core)) v e) }))
      → P (after_event m (measure v e t))
  by_measure v e taken = go (earlier m.last.0 t.0) refl (overflows (in_force (returned t m.core)) v e) refl
    where
      go : (back : Bool) → earlier m.last.0 t.0 ≡ back → (over : Bool) → overflows (in_force (returned t m.core)) v e ≡ over
          → P (shown_meter_step m t (refuse 70 back (refuse 71 over (reads (quiet (with_force (returned t m.core)
          (plus (in_force (returned t m.core)) v e))))))).meter
      go true b over o = stays
      go false b true o = stays
      go false b false o = taken b o

-- ---- a refused step changes nothing; the first step may carry any time

pub refused_stays : (m : Meter) (e : Event) (n : ℕ) → step_of m e ≡ refusal n → after_event m e ≡ m
refused_stays m e n r = ap (λ (a : Answer Deed). (shown_meter_step m (time_of e) a).meter) r

afterwards : (m : Meter) (e : Event) (d : Deed) → step_of m e ≡ reads d → after_event m e ≡ record { last = time_of e; core = d.core }
afterwards m e d r = ap (λ (a : Answer Deed). (shown_meter_step m (time_of e) a).meter) r

pub first_any_time : (a : ℕ) (template : Telegram) (t : ℕ) → earlier (begun_meter a template).last.0 t ≡ false
first_any_time a template t = le-ltb t 0 zero-le

-- ---- what an instruction tells

pub record Instruction (kind : Request → Bool) (own : ℕ) (v : Outline) : Type 0 where
  pub request : Request
  pub asks : v ≡ outlines.Asks request
  pub addressed_here : addressed own request ≡ true
  pub such : kind request ≡ true

instruction : (kind : Request → Bool) (own : ℕ) (v : Outline) → instructs kind own v ≡ true → Instruction kind own v
instruction kind own (outlines.Refused n) e = absurd (true≢false (sym e))
instruction kind own outlines.Ack e = absurd (true≢false (sym e))
instruction kind own (outlines.Data a) e = absurd (true≢false (sym e))
instruction kind own (outlines.Asks q) e =
    let both = (and-eq-true_iff (addressed own q) (kind q)).0 e in
    record { request = q; asks = refl; addressed_here = both.0; such = both.1 }

-- An instruction does what its kind says, from the meter after the return.
pub obeyed : (m : Meter) (line : List ℕ) (t : Clock) (q : Request)
    → earlier m.last.0 t.0 ≡ false → outlined (read_line line) ≡ outlines.Asks q → addressed m.core.address q ≡ true
    → step_of m (hear line t) ≡ reads (instructed t (returned t m.core) q)
obeyed m line t q on asks own = rw (on, asks, own)

-- an accepted step of a kind
obeys_told : (kind : Request → Bool) (m : Meter) (line : List ℕ) (t : Clock) → obeys kind m (hear line t) ≡ true
    → (q : Request) × (kind q ≡ true) × (step_of m (hear line t) ≡ reads (instructed t (returned t m.core) q))
obeys_told kind m line t e =
    let both = (and-eq-true_iff (not (earlier m.last.0 t.0)) (instructs kind m.core.address (outlined (read_line line)))).0 e in
    let i = instruction kind m.core.address (outlined (read_line line)) both.1 in
    (i.request, i.such, obeyed m line t i.request (not-true (earlier m.last.0 t.0) both.0) i.asks i.addressed_here)

-- Enter: in verification with the method, from now on.
pub enter_verifies : (m : Meter) (line : List ℕ) (t : Clock) (a s : ℕ)
    → earlier m.last.0 t.0 ≡ false → outlined (read_line line) ≡ outlines.Asks (Enter a s) → addressed m.core.address (Enter a s) ≡ true
    → (after_event m (hear line t)).core.mode ≡ Verifying s t
enter_verifies m line t a s on asks own = ap (λ (n : Meter). n.core.mode) (afterwards m (hear line t) _ (obeyed m line t (Enter a s) on asks own))

-- Leave: in use; the totals stay.
pub leave_uses : (m : Meter) (line : List ℕ) (t : Clock) → obeys is_leave m (hear line t) ≡ true
    → after_event m (hear line t) ≡ record { last = t; core = left m.core }
leave_uses m line t e =
    let (q, such, step) = obeys_told is_leave m line t e in
    afterwards m (hear line t) _ step ∙ go q such
  where
    go : (q : Request) → is_leave q ≡ true
        → ◌≡◌ {A = Meter} (record { last = t; core = (instructed t (returned t m.core) q).core }) (record { last = t; core = left m.core })
    go (Read a) e = absurd (true≢false (sym e))
    go (Enter a s) e = absurd (true≢false (sym e))
    go (Leave a) e = refl

pub read_raises : (m : Meter) (line : List ℕ) (t : Clock) → obeys is_read m (hear line t) ≡ true → after_event m (hear line t) ≡ read_at t m
read_raises m line t e =
    let (q, such, step) = obeys_told is_read m line t e in
    afterwards m (hear line t) _ step ∙ go q such
  where
    go : (q : Request) → is_read q ≡ true → record { last = t; core = (instructed t (returned t m.core) q).core } ≡ read_at t m
    go (Read a) e = refl
    go (Enter a s) e = absurd (true≢false (sym e))
    go (Leave a) e = absurd (true≢false (sym e))

-- ---- what is answered

-- An accepted step with an enter or a leave is answered by the ack.
pub acknowledged : (kind : Request → Bool) (m : Meter) (line : List ℕ) (t : Clock) → ((a : ℕ) → kind (Read a) ≡ false) → obeys kind m (hear line t) ≡ true
    → (d : Deed) × (step_of m (hear line t) ≡ reads d) × (d.said ≡ says ack)
acknowledged kind m line t other e =
    let (q, such, step) = obeys_told kind m line t e in
    (instructed t (returned t m.core) q, step, go q such)
  where
    go : (q : Request) → kind q ≡ true → (instructed t (returned t m.core) q).said ≡ says ack
    go (Read a) e = absurd (true≢false (sym e ∙ other a))
    go (Enter a s) e = refl
    go (Leave a) e = refl

force_instructed : (t : Clock) (mode : Mode) (used verified : Pair) → force_of (instructed_at t mode) used verified ≡ force_of mode used verified
force_instructed t Use used verified = refl
force_instructed t (Verifying s since) used verified = refl

-- A read is answered by data from the own address: the template with the raised access number and the pair that is in force after the return.
pub read_answered : (m : Meter) (line : List ℕ) (t : Clock) → obeys is_read m (hear line t) ≡ true
    → (d : Deed) × (step_of m (hear line t) ≡ reads d)
    × (d.said ≡ says (data_with m.core.address (in_force (returned t m.core)) (raised m.core.template)))
read_answered m line t e =
    let (q, such, step) = obeys_told is_read m line t e in
    (instructed t (returned t m.core) q, step, go q such)
  where
    go : (q : Request) → is_read q ≡ true
        → (instructed t (returned t m.core) q).said ≡ says (data_with m.core.address (in_force (returned t m.core)) (raised m.core.template))
    go (Read a) e =
        ap (λ (p : Pair). says (data_with m.core.address p (raised m.core.template)))
        (force_instructed t (mode_at t m.core.mode) m.core.used m.core.verified)
    go (Enter a s) e = absurd (true≢false (sym e))
    go (Leave a) e = absurd (true≢false (sym e))

-- Every other line gets silence.
pub others_silent : (m : Meter) (line : List ℕ) (t : Clock) → earlier m.last.0 t.0 ≡ false
    → instructs (λ q. true) m.core.address (outlined (read_line line)) ≡ false → step_of m (hear line t) ≡ reads (quiet (returned t m.core))
others_silent m line t on e = rw on (ap reads (go (outlined (read_line line)) e))
  where
    go : (v : Outline) → instructs (λ q. true) m.core.address v ≡ false → hears t (returned t m.core) v ≡ quiet (returned t m.core)
    go (outlines.Refused n) e = refl
    go outlines.Ack e = refl
    go (outlines.Data a) e = refl
    go (outlines.Asks q) e = rw (sym (and-true (addressed m.core.address q)) ∙ e)

-- ---- measuring changes the pair in force only

module _ (m : Meter) (v e : ℕ) (t : Clock) (d : Deed) (taken : step_of m (measure v e t) ≡ reads d) where
  measured : after_event m (measure v e t) ≡ record { last = t; core = with_force (returned t m.core) (plus (in_force (returned t m.core)) v e) }
  measured =
      afterwards m (measure v e t) _
      (taken ∙ ap reads (sym (reads_same (passed 71 (overflows (in_force (returned t m.core)) v e) _ d
      (passed 70 (earlier m.last.0 t.0) _ d taken).1).1)))

  pub measured_in_use : mode_at t m.core.mode ≡ Use
      → after_event m (measure v e t)
      ≡ record {
        last = t;
        core = record { address = m.core.address; mode = Use; used = plus m.core.used v e; verified = m.core.verified; template = m.core.template };
      }
  measured_in_use u = measured ∙ ap (λ (mode : Mode). record {
    last = t;
    core = record {
      address = m.core.address;
      mode = mode;
      used = force_of mode
          (plus (force_of mode m.core.used m.core.verified) v e) m.core.used;
      verified = force_of mode m.core.verified
          (plus (force_of mode m.core.used m.core.verified) v e);
      template = m.core.template;
    };
  }) u

  pub measured_in_verification : (s : ℕ) (since : Clock) → mode_at t m.core.mode ≡ Verifying s since
      → after_event m (measure v e t)
      ≡ record {
        last = t;
        core = record {
          address = m.core.address;
          mode = Verifying s since;
          used = m.core.used;
          verified = plus m.core.verified v e;
          template = m.core.template;
        };
      }
  measured_in_verification s since u = measured ∙ ap (λ (mode : Mode). record {
    last = t;
    core = record {
      address = m.core.address;
      mode = mode;
      used = force_of mode (plus (force_of mode m.core.used m.core.verified) v e) m.core.used;
      verified = force_of mode m.core.verified (plus (force_of mode m.core.used m.core.verified) v e);
      template = m.core.template;
    };
  }) u

pub rises_same : {p : Pair} → Rises p p
rises_same {p} = record { volume = le_refl p.volume; energy = le_refl p.energy }

rises_trans : {p q r : Pair} → Rises p q → Rises q r → Rises p r
rises_trans a b = record { volume = le_trans a.volume b.volume; energy = le_trans a.energy b.energy }

enter_kept : (mode : Mode) (p : Pair) → in_use mode ≡ false → Rises p (cleared_from mode p)
enter_kept Use p e = absurd (true≢false e)
enter_kept (Verifying s since) p e = rises_same

measure_rises : (mode : Mode) (u p : Pair) (v e : ℕ) → Rises p (force_of mode p (plus (force_of mode u p) v e))
measure_rises Use u p v e = rises_same
measure_rises (Verifying s since) u p v e = record { volume = omega arith; energy = omega arith }

instructed_rises : (t : Clock) (c : Core) (q : Request) → (is_enter q && in_use c.mode) ≡ false → Rises c.verified (instructed t c q).core.verified
instructed_rises t c (Read a) e = rises_same
instructed_rises t c (Leave a) e = rises_same
instructed_rises t c (Enter a s) e = enter_kept c.mode c.verified e

hears_rises : (t : Clock) (c : Core) (v : Outline) → (instructs is_enter c.address v && in_use c.mode) ≡ false
    → Rises c.verified (hears t c v).core.verified
hears_rises t c (outlines.Refused n) e = rises_same
hears_rises t c outlines.Ack e = rises_same
hears_rises t c (outlines.Data a) e = rises_same
hears_rises t c (outlines.Asks q) e =
    by_test (addressed c.address q)
    (λ own. rw own (instructed_rises t c q (rw own at e)))
    (λ other. rw other rises_same)

-- Only an enter that finds the meter in use lets a verification total fall, ..
pub only_enters_clear : (m : Meter) (s : Event) → enters_from_use m s ≡ false → Rises m.core.verified (after_event m s).core.verified
only_enters_clear m (hear line t) e =
    by_hear (λ (n : Meter). Rises m.core.verified n.core.verified) m t rises_same line
    (λ on. hears_rises t (returned t m.core) (outlined (read_line line)) (rw on at e))
only_enters_clear m (measure v e t) x =
    by_measure (λ (n : Meter). Rises m.core.verified n.core.verified) m t rises_same v e
    (λ on fits. measure_rises (mode_at t m.core.mode) m.core.used m.core.verified v e)

cleared_by : (t : Clock) (c : Core) (q : Request) → is_enter q ≡ true → in_use c.mode ≡ true → (instructed t c q).core.verified ≡ zeros
cleared_by t c (Read a) i u = absurd (true≢false (sym i))
cleared_by t c (Leave a) i u = absurd (true≢false (sym i))
cleared_by t c (Enter a s) i u = go c.mode u
  where
    go : (mode : Mode) → in_use mode ≡ true → cleared_from mode c.verified ≡ zeros
    go Use e = refl
    go (Verifying s since) e = absurd (true≢false (sym e))

-- .. and it clears both.
pub enters_clear : (m : Meter) (s : Event) → enters_from_use m s ≡ true → (after_event m s).core.verified ≡ zeros
enters_clear m (hear line t) e =
    let both = (and-eq-true_iff (obeys is_enter m (hear line t)) (finds_in_use m (hear line t))).0 e in
    let (q, such, step) = obeys_told is_enter m line t both.0 in
    ap (λ (n : Meter). n.core.verified) (afterwards m (hear line t) _ step) ∙ cleared_by t (returned t m.core) q such both.1
enters_clear m (measure v e t) x = absurd (true≢false (sym x))

-- A history without an enter that finds the meter in use lets no verification total fall, ..
pub never_falls : (es : List Event) (m : Meter) → sometime enters_from_use m es ≡ false → Rises m.core.verified (run_meter m es).core.verified
unfolding run_meter sometime
never_falls [] m never = rises_same
never_falls (e ∷ es) m never =
    let both = neither (enters_from_use m e) (sometime enters_from_use (after_event m e) es) never in
    rises_trans (only_enters_clear m e both.0) (never_falls es (after_event m e) both.1)

rises_to_zero : {p q : Pair} → Rises p q → q ≡ zeros → p ≡ zeros
rises_to_zero {p} {q} r z =
    let v : p.volume ≡ 0 = omega (arith, ap (λ (x : Pair). x.volume) z, r.volume) in
    let e : p.energy ≡ 0 = omega (arith, ap (λ (x : Pair). x.energy) z, r.energy) in
    ap₂ (λ (a b : ℕ). record { volume = a; energy = b }) v e

-- .. so the verification totals become zero only at such an enter.
pub zero_by_enter : (es : List Event) (m : Meter) → (m.core.verified ≡ zeros → ⊥) → (run_meter m es).core.verified ≡ zeros → sometime enters_from_use m es ≡ true
zero_by_enter es m some z = by_test (sometime enters_from_use m es) (λ found. found) (λ never. absurd (some (rises_to_zero (never_falls es m never) z)))

-- ---- between two enters

-- an accepted step without the return finds a meter in verification where it was
finds_verifying : (m : Meter) (e : Event) → is_accepted (step_of m e) ≡ true → in_use m.core.mode ≡ false → returns_first m e ≡ false → finds_in_use m e ≡ false
finds_verifying m e found verifying never = rw (found, verifying) at never

hears_verifying : (t : Clock) (c : Core) (v : Outline) → in_use c.mode ≡ false → instructs is_leave c.address v ≡ false → in_use (hears t c v).core.mode
    ≡ false
hears_verifying t c (outlines.Refused n) h never = h
hears_verifying t c outlines.Ack h never = h
hears_verifying t c (outlines.Data a) h never = h
hears_verifying t c (outlines.Asks q) h never = by_test (addressed c.address q) (λ own. rw own (go q (rw own at never))) (λ other. rw other h)
  where
    read : (mode : Mode) → in_use mode ≡ false → in_use (instructed_at t mode) ≡ false
    read Use e = e
    read (Verifying s since) e = refl

    go : (q : Request) → is_leave q ≡ false → in_use (instructed t c q).core.mode ≡ false
    go (Read a) e = read c.mode h
    go (Enter a s) e = refl
    go (Leave a) e = absurd (true≢false e)

-- a step that ends no verification leaves the meter in it
stays_verifying : (m : Meter) (e : Event) → in_use m.core.mode ≡ false → ends_verification m e ≡ false → in_use (after_event m e).core.mode ≡ false
stays_verifying m (hear line t) h never =
    let both = neither (obeys is_leave m (hear line t)) (returns_first m (hear line t)) never in
    by_hear (λ (n : Meter). in_use n.core.mode ≡ false) m t h line
    (λ on. hears_verifying t (returned t m.core) (outlined (read_line line)) (finds_verifying m (hear line t) (rw on) h both.1) (rw on at both.0))
stays_verifying m (measure v e t) h never =
    by_measure (λ (n : Meter). in_use n.core.mode ≡ false) m t h v e
    (λ on fits. finds_verifying m (measure v e t) (rw (on, fits)) h never)

-- such a step is no enter that finds the meter in use
no_enter_from_use : (m : Meter) (e : Event) → in_use m.core.mode ≡ false → ends_verification m e ≡ false → enters_from_use m e ≡ false
no_enter_from_use m (hear line t) h never =
    by_test (earlier m.last.0 t.0) (λ back. rw back)
    (λ on.
    let both = neither (obeys is_leave m (hear line t)) (returns_first m (hear line t)) never in
    rw (finds_verifying m (hear line t) (rw on) h both.1) (and-false (obeys is_enter m (hear line t))))
no_enter_from_use m (measure v e t) h never = refl

-- Without a leave or a 30 minute return a meter in verification stays there, and its verification totals never fall.
pub verification_rises : (es : List Event) (m : Meter) → in_use m.core.mode ≡ false → sometime ends_verification m es ≡ false
    → (in_use (run_meter m es).core.mode ≡ false) × Rises m.core.verified (run_meter m es).core.verified
unfolding run_meter sometime
verification_rises [] m h never = (h, rises_same)
verification_rises (e ∷ es) m h never =
    let both = neither (ends_verification m e) (sometime ends_verification (after_event m e) es) never in
    let rest = verification_rises es (after_event m e) (stays_verifying m e h both.0) both.1 in
    (rest.0, rises_trans (only_enters_clear m e (no_enter_from_use m e h both.0)) rest.1)

enters_told : (t : Clock) (c : Core) (q : Request) → is_enter q ≡ true → in_use (instructed t c q).core.mode ≡ false
enters_told t c (Read a) e = absurd (true≢false (sym e))
enters_told t c (Leave a) e = absurd (true≢false (sym e))
enters_told t c (Enter a s) e = refl

-- So they never fall from one enter to the next, without a leave or a 30 minute return between.
pub between_enters : (m : Meter) (e : Event) (es : List Event) → obeys is_enter m e ≡ true → sometime ends_verification (after_event m e) es ≡ false
    → Rises (after_event m e).core.verified (run_meter (after_event m e) es).core.verified
between_enters m (hear line t) es enter never =
    let (q, such, step) = obeys_told is_enter m line t enter in
    let entered : in_use (after_event m (hear line t)).core.mode ≡ false = ap (λ (n : Meter). in_use n.core.mode) (afterwards m (hear line t) _ step)
    ∙ enters_told t (returned t m.core) q such in
    (verification_rises es (after_event m (hear line t)) entered never).1
between_enters m (measure v e t) es enter never = absurd (true≢false (sym enter))
