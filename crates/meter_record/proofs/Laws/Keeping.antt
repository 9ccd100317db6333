-- Laws of `specs/Keeping`.
use Prim.Native.Nat.{ℕ, ◌+◌, ◌^◌, ◌≤◌, ◌<◌}
use mathlib.Core.Bool.{true, false, not, ◌||◌}
use mathlib.Core.List.{List}
use mathlib.Core.Path.{◌≡◌, refl, ap, subst, ◌∙◌}
use native.Mathlib.Nat.{le_refl, le_trans}
use native.Mathlib.Omega.{arith}
use borrow.Author.Tests.{ltb-false, le-ltb, not-false}
use lib.Dec.{lit<}
use lib.ListN.{length}
use Rattle.bench_clock.specs.declared.Clock.{Clock}
use Rattle.bench_clock.specs.Times.{due, earlier}
use Rattle.bench_clock.proofs.Laws.Times.{lt_due}
use Rattle.mbus_rules.specs.declared.Kind.{Kind}
use Rattle.mbus_rules.specs.declared.Kind.TheVariants as kinds
use Rattle.mbus_rules.specs.declared.Request.{Request}
use Rattle.mbus_rules.specs.declared.Request.TheVariants.{Read, Enter, Leave}
use Rattle.mbus_rules.specs.declared.Telegram.{Telegram}
use Rattle.mbus_rules.specs.declared.Outline.{Outline}
use Rattle.mbus_rules.specs.declared.Outline.TheVariants as outlines
use Rattle.base_rules.specs.Answers.{Answer, reads, refusal}
use Rattle.base_rules.proofs.Laws.AnswerLaws.{reads_same}
use Rattle.mbus_rules.specs.Lines.{is_method, read_line}
use Rattle.mbus_rules.proofs.Laws.RoundTrip.{read_then_write}
use Rattle.base_rules.proofs.Laws.Tests.{by_test, neither, passed}
use Rattle.mbus_rules.specs.Outlines.{outline_of, outlined}
use Rattle.mbus_rules.specs.Writing.{used_body, wrong_for, unwritable}
use Rattle.meter_steps.specs.declared.Core.{Core}
use Rattle.meter_steps.specs.declared.Meter.{Meter}
use Rattle.meter_steps.specs.declared.Mode.{Mode}
use Rattle.meter_steps.specs.declared.Mode.TheVariants.{Use, Verifying}
use Rattle.meter_steps.specs.Meters.{silence, Deed, zeros, begun_meter, set_up, mode_at, returned, addressed, cleared_from, instructed_at, force_of, in_force}
use Rattle.meter_steps.specs.Meters.{with_force, instructed, hears, measured, heard_at, measured_at}
use Rattle.meter_template.specs.declared.Pair.{Pair}
use Rattle.meter_template.specs.Templates.{unfit_template, pair_in, total_most, passes, overflows, plus}
use Rattle.meter_template.proofs.Laws.TemplateLaws.{pair_within, raised_fit}
use Rattle.meter_template.proofs.Laws.Walks.{pass_fits}
use Rattle.meter_record.specs.MeterRecords.{wrong_mode, wrong_total, wrong_pair}
use Rattle.meter_record.proofs.Laws.RecordLaws.{Reached, reached, not_unreached, Good, total_within}
use Rattle.meter_record.specs.Leaving.{leaves}

-- ---- totals

module _ (least n : ℕ) where
  right_total : least ≤ n → n ≤ total_most → wrong_total least n ≡ false
  right_total l h = rw (le-ltb n least l, le-ltb total_most n h)

right_pair : (least p : Pair) → wrong_total least.volume p.volume ≡ false → wrong_total least.energy p.energy ≡ false → wrong_pair least p ≡ false
right_pair least p v e = rw (v, e)

zeros_right : wrong_pair zeros zeros ≡ false
zeros_right = refl

begun_right : (t : Telegram) → unfit_template t ≡ false → wrong_pair (pair_in t.entries) (pair_in t.entries) ≡ false
begun_right t e =
    let w = pair_within t e in
    let p = pair_in t.entries in
    right_pair p p (right_total p.volume p.volume (le_refl p.volume) w.volume) (right_total p.energy p.energy (le_refl p.energy)
    w.energy)

plus_right : (least p : Pair) (v e : ℕ) → wrong_pair least p ≡ false → overflows p v e ≡ false → wrong_pair least (plus p v e) ≡ false
plus_right least p v e right fits =
    let both = neither (passes p.volume v) (passes p.energy e) fits in
    let k = neither (wrong_total least.volume p.volume) (wrong_total least.energy p.energy) right in
    let volume : least.volume ≤ p.volume = (total_within least.volume p.volume k.0).0 in
    let energy : least.energy ≤ p.energy = (total_within least.energy p.energy k.1).0 in
    right_pair least (plus p v e) (right_total least.volume (p.volume + v) (omega arith) (pass_fits p.volume v both.0))
    (right_total least.energy (p.energy + e) (omega arith) (pass_fits p.energy e both.1))

-- ---- modes

verifying_right : (last since s : ℕ) → is_method s ≡ true → since ≤ last → due since last ≡ false → not (is_method s) || earlier since last || due since last
    ≡ false
verifying_right last since s m l d = rw (m, le-ltb last since l, d)

-- an instruction at t
now_right : (t s : ℕ) → is_method s ≡ true → not (is_method s) || earlier t t || due t t ≡ false
now_right t s m = verifying_right t t s m (le_refl t) (lt_due t t (omega arith))

record Verifies (last since s : ℕ) : Type 0 where
  method : is_method s ≡ true
  order : since ≤ last

verifies : (last since s : ℕ) → not (is_method s) || earlier since last || due since last ≡ false → Verifies last since s
verifies last since s e =
    let k = neither (not (is_method s) || earlier since last) (due since last) e in
    let h = neither (not (is_method s)) (earlier since last) k.0 in
    record { method = not-false (is_method s) h.0; order = ltb-false last since h.1 }

mode_at_lem : (last : ℕ) (t : Clock) (mode : Mode) → last ≤ t.0 → wrong_mode last mode ≡ false → wrong_mode t.0 (mode_at t mode) ≡ false
mode_at_lem last t Use l e = refl
mode_at_lem last t (Verifying s since) l e =
    let v = verifies last since.0 s e in
    by_test (due since.0 t.0) (λ d. rw d) (λ d. rw d (verifying_right t.0 since.0 s v.method (le_trans v.order l) d))

mode_instructed : (t : Clock) (mode : Mode) → wrong_mode t.0 mode ≡ false → wrong_mode t.0 (instructed_at t mode) ≡ false
mode_instructed t Use e = refl
mode_instructed t (Verifying s since) e = now_right t.0 s (verifies t.0 since.0 s e).method

-- ---- steps

returned_reached : (last : ℕ) (t : Clock) (c : Core) → last ≤ t.0 → Reached last c → Reached t.0 (returned t c)
returned_reached last t c l r = record { template = r.template; mode = mode_at_lem last t c.mode l r.mode; used = r.used; verified = r.verified }

-- an enter that was read has one of 01's methods
abbrev Known : Outline → Type 0
Known (outlines.Refused n) = Unit {0}
Known outlines.Ack = Unit {0}
Known (outlines.Data a) = Unit {0}
Known (outlines.Asks (Read a)) = Unit {0}
Known (outlines.Asks (Enter a s)) = is_method s ≡ true
Known (outlines.Asks (Leave a)) = Unit {0}

kind_known : (k : Kind) (t : Telegram) → wrong_for k t ≡ false → Known (outline_of k t.address t.method)
kind_known kinds.Ack t w = tt
kind_known kinds.Read t w = tt
kind_known kinds.Enter t w = not-false (is_method t.method) (neither (not (is_method t.method)) (used_body t) w).0
kind_known kinds.Leave t w = tt
kind_known kinds.Data t w = tt

known : (line : List ℕ) → Known (outlined (read_line line))
unfolding unwritable
known line = go (read_line line) refl
  where
    go : (a : Answer Telegram) → read_line line ≡ a → Known (outlined a)
    go (refusal n) e = tt
    go (reads t) e = kind_known t.kind t (read_then_write line t e).writable

instructed_reached : (t : Clock) (c : Core) (q : Request) → Known (outlines.Asks q) → Reached t.0 c → Reached t.0 (instructed t c q).core
instructed_reached t c (Leave a) k r = record { template = r.template; mode = refl; used = r.used; verified = r.verified }
instructed_reached t c (Read a) k r = record {
  template = raised_fit c.template r.template;
  mode = mode_instructed t c.mode r.mode;
  used = r.used;
  verified = r.verified;
}
instructed_reached t c (Enter a s) k r = record { template = r.template; mode = now_right t.0 s k; used = r.used; verified = go c.mode }
  where
    go : (mode : Mode) → wrong_pair zeros (cleared_from mode c.verified) ≡ false
    go Use = zeros_right
    go (Verifying m since) = r.verified

hears_reached : (t : Clock) (c : Core) (v : Outline) → Known v → Reached t.0 c → Reached t.0 (hears t c v).core
hears_reached t c (outlines.Refused n) k r = r
hears_reached t c outlines.Ack k r = r
hears_reached t c (outlines.Data a) k r = r
hears_reached t c (outlines.Asks q) k r = by_test (addressed c.address q) (λ own. rw own (instructed_reached t c q k r)) (λ other. rw other r)

force_reached : (last : ℕ) (c : Core) (v e : ℕ) → overflows (in_force c) v e ≡ false → Reached last c → Reached last (with_force c (plus (in_force c) v e))
force_reached last c v e fits r = record { template = r.template; mode = r.mode; used = u c.mode fits; verified = w c.mode fits }
  where
    u : (mode : Mode) → overflows (force_of mode c.used c.verified) v e ≡ false → wrong_pair (pair_in c.template.entries)
        (force_of mode (plus (force_of mode c.used c.verified) v e) c.used) ≡ false
    u Use f = plus_right (pair_in c.template.entries) c.used v e r.used f
    u (Verifying m since) f = r.used

    w : (mode : Mode) → overflows (force_of mode c.used c.verified) v e ≡ false → wrong_pair zeros
        (force_of mode c.verified (plus (force_of mode c.used c.verified) v e)) ≡ false
    w Use f = r.verified
    w (Verifying m since) f = plus_right zeros c.verified v e r.verified f

-- the places of the template stay
hears_places : (t : Clock) (c : Core) (v : Outline) → (hears t c v).core.template.entries ≡ c.template.entries
hears_places t c (outlines.Refused n) = refl
hears_places t c outlines.Ack = refl
hears_places t c (outlines.Data a) = refl
hears_places t c (outlines.Asks q) = by_test (addressed c.address q) (λ own. rw own (go q)) (λ other. rw other)
  where
    go : (q : Request) → (instructed t c q).core.template.entries ≡ c.template.entries
    go (Read a) = refl
    go (Enter a m) = refl
    go (Leave a) = refl

pub set_up_good : (a : ℕ) (t : Telegram) (m : Meter) → length t.entries ≡ 7 → set_up a t ≡ reads m → Good m
set_up_good a t m places e =
    let p = passed 72 (unfit_template t) (reads (begun_meter a t)) m e in
    let so = not_unreached (begun_meter a t) (record { template = p.0; mode = refl; used = begun_right t p.0; verified = zeros_right }) in
    subst Good (reads_same p.1) (record { time = lit< tt; places = places; so = so })

module _ (m : Meter) (g : Good m) (t : Clock) (small : t.0 < 256 ^ 8) where
  before : earlier m.last.0 t.0 ≡ false → Reached t.0 (returned t m.core)
  before on = returned_reached m.last.0 t m.core (ltb-false t.0 m.last.0 on) (reached m g.so)

  pub heard_good : (line : List ℕ) (d : Deed) → heard_at m line t ≡ reads d → Good (leaves t d)
  heard_good line d e =
      let v = outlined (read_line line) in
      let deed : Deed = hears t (returned t m.core) v in
      let p = passed 70 (earlier m.last.0 t.0) (reads deed) d e in
      let so = not_unreached (leaves t deed) (hears_reached t (returned t m.core) v (known line) (before p.0)) in
      subst (λ (x : Deed). Good (leaves t x)) (reads_same p.1)
      (record { time = small; places = ap length (hears_places t (returned t m.core) v) ∙ g.places; so = so })

  pub measured_good : (v e : ℕ) (d : Deed) → measured_at m v e t ≡ reads d → Good (leaves t d)
  measured_good v e d f =
      let c = returned t m.core in
      let p = passed 70 (earlier m.last.0 t.0) (measured c v e) d f in
      let deed : Deed = record { core = with_force c (plus (in_force c) v e); said = silence } in
      let q = passed 71 (overflows (in_force c) v e) (reads deed) d p.1 in
      let so = not_unreached (leaves t deed) (force_reached t.0 c v e q.0 (before p.0)) in
      subst (λ (x : Deed). Good (leaves t x)) (reads_same q.1) (record { time = small; places = g.places; so = so })
