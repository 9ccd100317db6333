-- Every meter that has a record stands so after a set-up and some history: so 101 is given only for bytes that no history gives.
use Prim.Native.Nat.{ℕ, ◌+◌, ◌-◌, ◌≤◌, zero-le}
use mathlib.Core.Bool.{Bool, true, false, cond, not}
use mathlib.Core.List.{List, [], ◌∷◌}
use mathlib.Core.Path.{◌≡◌, refl, ap, ◌∙◌}
use native.Mathlib.Nat.{le_refl}
use native.Mathlib.Omega.{arith}
use borrow.Author.Tests.{ltb-false, le-ltb, not-false}
use lib.Dec.{lit<}
use Rattle.bench_clock.specs.declared.Clock.{Clock}
use Rattle.bench_clock.specs.Times.{due, earlier}
use Rattle.bench_clock.proofs.Laws.Times.{lt_due}
use Rattle.mbus_rules.specs.declared.Telegram.{Telegram}
use Rattle.mbus_rules.specs.declared.Request.TheVariants.{Enter, Leave}
use Rattle.mbus_rules.specs.declared.Outline.{Outline}
use Rattle.mbus_rules.specs.declared.Outline.TheVariants as outlines
use Rattle.base_rules.specs.Answers.{reads, refuse}
use Rattle.mbus_rules.specs.Lines.{is_method, read_line}
use Rattle.base_rules.specs.Lists.{any}
use Rattle.mbus_rules.proofs.Laws.RoundTrip.{write_then_read}
use Rattle.mbus_rules.specs.Telegrams.{enter_of, leave_of}
use Rattle.base_rules.proofs.Laws.TestLaws.{none}
use Rattle.base_rules.proofs.Laws.Tests.{neither}
use Rattle.mbus_rules.specs.Outlines.{outlined}
use Rattle.mbus_rules.specs.Writing.{line_of, unwritable}
use Rattle.meter_steps.specs.declared.Core.{Core}
use Rattle.meter_steps.specs.declared.Meter.{Meter}
use Rattle.meter_steps.specs.declared.Mode.{Mode}
use Rattle.meter_steps.specs.declared.Mode.TheVariants.{Use, Verifying}
use Rattle.meter_steps.specs.Histories.{Event, hear, measure, after_event, run_meter}
use Rattle.meter_steps.specs.Meters.{quiet, zeros, begun_meter, set_up, returned, in_force, with_force, hears, measured, shown_meter_step}
use Rattle.meter_template.specs.declared.Pair.{Pair}
use Rattle.meter_template.specs.Templates.{pair_in, total_most, overflows, plus}
use Rattle.meter_record.specs.MeterRecords.{wrong_mode, wrong_total, wrong_pair, unreached}
use Rattle.meter_record.proofs.Laws.RecordLaws.{reached, total_within}

-- ---- one step at a time

module _ (m : Meter) (t : Clock) (c : Core) (on : earlier m.last.0 t.0 ≡ false) (ret : returned t m.core ≡ c) where
  heard_after : (line : List ℕ) (v : Outline) → outlined (read_line line) ≡ v → after_event m (hear line t) ≡ record { last = t; core = (hears t c v).core }
  heard_after line v outline =
      ap (λ (b : Bool). (shown_meter_step m t (refuse 70 b (reads (hears t (returned t m.core) (outlined (read_line line)))))).meter) on
      ∙ ap (λ (x : Core). record { last = t; core = (hears t x (outlined (read_line line))).core }) ret
      ∙ ap (λ (w : Outline). record { last = t; core = (hears t c w).core }) outline

  measured_after : (v e : ℕ) → overflows (in_force c) v e ≡ false → after_event m (measure v e t) ≡ record { last = t; core = with_force c (plus (in_force c) v e) }
  measured_after v e fits =
      ap (λ (b : Bool). (shown_meter_step m t (refuse 70 b (measured (returned t m.core) v e))).meter) on
      ∙ ap (λ (x : Core). (shown_meter_step m t (measured x v e)).meter) ret
      ∙ ap (λ (b : Bool). (shown_meter_step m t (refuse 71 b (reads (quiet (with_force c (plus (in_force c) v e)))))).meter) fits

then : (m n k : Meter) (e : Event) (es : List Event) → after_event m e ≡ n → run_meter n es ≡ k → run_meter m (e ∷ es) ≡ k
unfolding run_meter
then m n k e es p q = ap (λ (x : Meter). run_meter x es) p ∙ q

done : (m : Meter) → run_meter m [] ≡ m
unfolding run_meter
done m = refl

-- ---- three lines: an enter and a leave to FE, and one that is refused

enter_outline : (s : ℕ) → is_method s ≡ true → outlined (read_line (line_of (enter_of 0xFE s))) ≡ outlines.Asks (Enter 0xFE s)
unfolding unwritable any
enter_outline s m = ap outlined (write_then_read (enter_of 0xFE s) (record {
  address = lit< tt;
  header = record
      { version = lit< tt; access = lit< tt; status = lit< tt };
  places = refl;
}) (rw m))

leave_outline : outlined (read_line (line_of (leave_of 0xFE))) ≡ outlines.Asks (Leave 0xFE)
unfolding unwritable any
leave_outline = ap outlined (write_then_read (leave_of 0xFE) (record {
  address = lit< tt;
  header = record
      { version = lit< tt; access = lit< tt; status = lit< tt };
  places = refl;
}) refl)

refused_outline : outlined (read_line []) ≡ outlines.Refused 1
unfolding read_line
refused_outline = refl

-- ---- totals

module _ (p u : Pair) (right : wrong_pair p u ≡ false) where
  volumes : (p.volume ≤ u.volume) × (u.volume ≤ total_most)
  volumes = total_within p.volume u.volume (neither (wrong_total p.volume u.volume) (wrong_total p.energy u.energy) right).0

  energies : (p.energy ≤ u.energy) × (u.energy ≤ total_most)
  energies = total_within p.energy u.energy (neither (wrong_total p.volume u.volume) (wrong_total p.energy u.energy) right).1

  risen_volume : p.volume + (u.volume - p.volume) ≡ u.volume
  risen_volume = let h : p.volume ≤ u.volume = volumes.0 in omega arith

  risen_energy : p.energy + (u.energy - p.energy) ≡ u.energy
  risen_energy = let h : p.energy ≤ u.energy = energies.0 in omega arith

  -- what was measured since
  risen : plus p (u.volume - p.volume) (u.energy - p.energy) ≡ u
  risen = λ i. record { volume = risen_volume i; energy = risen_energy i }

  risen_fits : overflows p (u.volume - p.volume) (u.energy - p.energy) ≡ false
  risen_fits =
      rw (risen_volume, risen_energy, le-ltb total_most u.volume volumes.1, le-ltb total_most u.energy energies.1)

-- ---- whole histories

abbrev start : Clock
start = record { 0 = 0 }

module _ (a : ℕ) (t : Telegram) where
  abbrev core : Mode → Pair → Pair → Core
  core mode u v = record { address = a; mode = mode; used = u; verified = v; template = t }

  abbrev stand : Clock → Mode → Pair → Pair → Meter
  stand last mode u v = record { last = last; core = core mode u v }

  -- verification goes on
  stays : (s : ℕ) (since now : Clock) (u v : Pair) → due since.0 now.0 ≡ false → returned now (core (Verifying s since) u v)
      ≡ core (Verifying s since) u v
  stays s since now u v d = ap (λ (b : Bool). core (cond b Use (Verifying s since)) u v) d

  same_time : (now : Clock) → due now.0 now.0 ≡ false
  same_time now = lt_due now.0 now.0 (omega arith)

  no_time : (now : Clock) → earlier now.0 now.0 ≡ false
  no_time now = le-ltb now.0 now.0 (le_refl now.0)

  use_measured : (p u v : Pair) (now : Clock) → wrong_pair p u ≡ false
      → after_event (stand now Use p v) (measure (u.volume - p.volume) (u.energy - p.energy) now) ≡ stand now Use u v
  use_measured p u v now right =
      measured_after (stand now Use p v) now (core Use p v) (no_time now) refl (u.volume - p.volume) (u.energy - p.energy) (risen_fits p u right)
      ∙ ap (λ (x : Pair). stand now Use x v) (risen p u right)

  entered : (s : ℕ) (u v : Pair) (last now : Clock) → is_method s ≡ true → last.0 ≤ now.0
      → after_event (stand last Use u v) (hear (line_of (enter_of 0xFE s)) now) ≡ stand now (Verifying s now) u zeros
  entered s u v last now m l =
      heard_after (stand last Use u v) now (core Use u v) (le-ltb now.0 last.0 l) refl (line_of (enter_of 0xFE s)) (outlines.Asks (Enter 0xFE s))
      (enter_outline s m)

  verified : (s : ℕ) (u p v : Pair) (now : Clock) → wrong_pair p v ≡ false
      → after_event (stand now (Verifying s now) u p) (measure (v.volume - p.volume) (v.energy - p.energy) now) ≡ stand now (Verifying s now) u v
  verified s u p v now right =
      measured_after (stand now (Verifying s now) u p) now (core (Verifying s now) u p) (no_time now) (stays s now now u p (same_time now))
      (v.volume - p.volume) (v.energy - p.energy) (risen_fits p v right)
      ∙ ap (λ (x : Pair). stand now (Verifying s now) u x) (risen p v right)

  left : (s : ℕ) (u v : Pair) (now : Clock) → after_event (stand now (Verifying s now) u v) (hear (line_of (leave_of 0xFE)) now) ≡ stand now Use u v
  left s u v now =
      heard_after (stand now (Verifying s now) u v) now (core (Verifying s now) u v) (no_time now) (stays s now now u v (same_time now))
      (line_of (leave_of 0xFE)) (outlines.Asks (Leave 0xFE)) leave_outline

  idle : (mode : Mode) (u v : Pair) (last now : Clock) → last.0 ≤ now.0 → returned now (core mode u v) ≡ core mode u v
      → after_event (stand last mode u v) (hear [] now) ≡ stand now mode u v
  idle mode u v last now l ret = heard_after (stand last mode u v) now (core mode u v) (le-ltb now.0 last.0 l) ret [] (outlines.Refused 1) refused_outline

  leads : (last : Clock) (mode : Mode) (u v : Pair) → wrong_mode last.0 mode ≡ false → wrong_pair (pair_in t.entries) u ≡ false → wrong_pair zeros v ≡ false
      → (es : List Event) × (run_meter (begun_meter a t) es ≡ stand last mode u v)
  leads last Use u v mode used right =
      let p = pair_in t.entries in
      let e1 = measure (u.volume - p.volume) (u.energy - p.energy) start in
      let e2 = hear (line_of (enter_of 0xFE 0x90)) start in
      let e3 = measure (v.volume - 0) (v.energy - 0) start in
      let e4 = hear (line_of (leave_of 0xFE)) start in
      let e5 = hear [] last in (
        e1 ∷ e2 ∷ e3 ∷ e4 ∷ e5 ∷ [],
        then (begun_meter a t) (stand start Use u zeros) (stand last Use u v) e1 (e2 ∷ e3 ∷ e4 ∷ e5 ∷ []) (use_measured p u zeros start used)
            (then (stand start Use u zeros) (stand start (Verifying 0x90 start) u zeros) (stand last Use u v) e2 (e3 ∷ e4 ∷ e5 ∷ [])
            (entered 0x90 u zeros start start refl (le_refl 0))
            (then (stand start (Verifying 0x90 start) u zeros) (stand start (Verifying 0x90 start) u v) (stand last Use u v) e3 (e4 ∷ e5 ∷ [])
            (verified 0x90 u zeros v start right)
            (then (stand start (Verifying 0x90 start) u v) (stand start Use u v) (stand last Use u v) e4 (e5 ∷ []) (left 0x90 u v start)
            (then (stand start Use u v) (stand last Use u v) (stand last Use u v) e5 [] (idle Use u v start last zero-le refl) (done (stand last Use u v)))))),
      )
  leads last (Verifying s since) u v mode used right =
      let p = pair_in t.entries in
      let k = none (not (is_method s)) (earlier since.0 last.0 ∷ due since.0 last.0 ∷ []) mode in
      let method : is_method s ≡ true = not-false (is_method s) k.0 in
      let order : since.0 ≤ last.0 = ltb-false last.0 since.0 k.1.0 in
      let e1 = measure (u.volume - p.volume) (u.energy - p.energy) start in
      let e2 = hear (line_of (enter_of 0xFE s)) since in
      let e3 = measure (v.volume - 0) (v.energy - 0) since in
      let e4 = hear [] last in (
        e1 ∷ e2 ∷ e3 ∷ e4 ∷ [],
        then (begun_meter a t) (stand start Use u zeros) (stand last (Verifying s since) u v) e1 (e2 ∷ e3 ∷ e4 ∷ []) (use_measured p u zeros start used)
            (then (stand start Use u zeros) (stand since (Verifying s since) u zeros) (stand last (Verifying s since) u v) e2 (e3 ∷ e4 ∷ [])
            (entered s u zeros start since method zero-le)
            (then (stand since (Verifying s since) u zeros) (stand since (Verifying s since) u v) (stand last (Verifying s since) u v) e3 (e4 ∷ [])
            (verified s u zeros v since right)
            (then (stand since (Verifying s since) u v) (stand last (Verifying s since) u v) (stand last (Verifying s since) u v) e4 []
            (idle (Verifying s since) u v since last order (stays s since last u v k.1.1.0)) (done (stand last (Verifying s since) u v))))),
      )

-- The history that leads to a meter, from the set-up with its own address and template.
pub record Led (m : Meter) : Type 0 where
  pub begins : set_up m.core.address m.core.template ≡ reads (begun_meter m.core.address m.core.template)
  pub history : List Event
  pub leads : run_meter (begun_meter m.core.address m.core.template) history ≡ m

pub reached_by_history : (m : Meter) → unreached m ≡ false → Led m
reached_by_history m e =
    let r = reached m e in
    let h = leads m.core.address m.core.template m.last m.core.mode m.core.used m.core.verified r.mode r.used r.verified in
    record { begins = rw r.template; history = h.0; leads = h.1 }
