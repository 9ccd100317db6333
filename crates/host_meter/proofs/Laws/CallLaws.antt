-- Laws of `specs/CallLaws`.
use Prim.Native.Nat.{ℕ, ◌+◌, ◌≤◌}
use mathlib.Core.Bool.{true, false}
use mathlib.Core.List.{List}
use mathlib.Core.Path.{◌≡◌, refl, sym, ap, ◌∙◌}
use native.Mathlib.Omega.{arith}
use lib.Dec.{ltb}
use lib.ListN.{length}
use Rattle.bench_clock.specs.declared.Clock.{Clock}
use Rattle.std.specs.Prelude.{Option, Some, Result, Ok, Err}
use Rattle.base_rules.specs.declared.refusals.Refusal.{Refusal}
use Rattle.mbus_rules.specs.declared.Telegram.{Telegram}
use Rattle.base_rules.specs.Answers.{Answer, reads, refusal}
use Rattle.base_rules.specs.Shown.{shown}
use Rattle.meter_steps.specs.declared.Core.{Core}
use Rattle.meter_steps.specs.declared.Meter.{Meter}
use Rattle.meter_steps.specs.declared.Step.{Step}
use Rattle.meter_steps.specs.Meters.{Said, silence, says, Deed, set_up, heard_at, measured_at, said_of, shown_meter_step}
use Rattle.meter_record.specs.Leaving.{leaves}
use Rattle.meter_record.specs.MeterRecords.{meter_size, meter_bytes, meter_from}
use Rattle.meter_record.proofs.Laws.Recalling.{read_size}
use Rattle.base_lent.specs.Copying.{copied}
use Rattle.base_lent.specs.Lent.{told, done, stored}
use Rattle.base_lent.proofs.Laws.LentLaws.{all_copied, leaves_all, leaves_copied}
use Rattle.mbus_records.specs.Telegrams.{telegram_size, telegram_bytes, telegram_from}
use Rattle.host_meter.specs.Calls.{set_up_for, line_heard_for, measure_for, said_number, SetsUp, Steps, said_bytes, HearsLine}
use Rattle.host_meter.specs.Kept.{answer_in, number_by, kept_by, said_by, Kept}

answer_back : {A : Type 0} (a : Answer A) → answer_in (shown a) ≡ a
answer_back (refusal n) = refl
answer_back (reads x) = refl

module _ (m : Meter) (t : Clock) where
  number_said : (x : Said) → number_by (Ok (said_of x)) ≡ said_number x
  number_said silence = refl
  number_said (says x) = refl

  number_shown : (a : Answer Deed) → number_by (shown_meter_step m t a).reply ≡ told (λ (d : Deed). said_number d.said) a
  number_shown (refusal n) = refl
  number_shown (reads d) = number_said d.said

  kept_shown : (b : List ℕ) (a : Answer Deed) → kept_by (shown_meter_step m t a).reply (shown_meter_step m t a).meter b
      ≡ stored (λ (d : Deed). meter_bytes (leaves t d)) b a
  kept_shown b (refusal n) = refl
  kept_shown b (reads d) = refl

  bytes_said : (out : List ℕ) (c : Core) (x : Said) → said_by (Ok (said_of x)) out ≡ stored (λ (d : Deed). said_bytes d.said) out (reads (record { core = c; said = x }))
  bytes_said out c silence = refl
  bytes_said out c (says x) = refl

  said_shown : (out : List ℕ) (a : Answer Deed) → said_by (shown_meter_step m t a).reply out ≡ stored (λ (d : Deed). said_bytes d.said) out a
  said_shown out (refusal n) = refl
  said_shown out (reads d) = bytes_said out d.core d.said

  pub steps : (a : Answer Deed) {s : Step} {before after : List ℕ} {r : ℕ} → s ≡ shown_meter_step m t a → Kept s before after r → Steps a t before after r
  steps a {s} {before} e k = record {
    answer = k.answer ∙ ap (λ (x : Step). number_by x.reply) e ∙ number_shown a;
    left = k.left ∙ ap (λ (x : Step). kept_by x.reply x.meter before) e ∙ kept_shown before a;
  }

  pub hears_step : (a : Answer Deed) {s : Step} {before after out then : List ℕ} {r : ℕ} → s ≡ shown_meter_step m t a
      → Kept s before after r → then ≡ said_by s.reply out → HearsLine a t before after out then r
  hears_step a {s} {before} {after} {out} e k said = record {
    step = steps a e k;
    said = said ∙ ap (λ (x : Step). said_by x.reply out) e ∙ said_shown out a;
  }

-- ---- storing

-- the answer's record, in as many places as it needs
pub said_says : (b : List ℕ) {x : Telegram} {reply : Result (Option Telegram) Refusal} {w after : List ℕ} → reply ≡ Ok (Some x) → w ≡ telegram_bytes x
    → length w ≤ length b → after ≡ copied b 0 w → after ≡ said_by reply b
said_says b {x} e n h l = rw e (all_copied telegram_bytes b x n h l)

-- ---- set-up

pub begun_refused : (b : List ℕ) {s : Result Meter Refusal} {x : Refusal} → s ≡ Err x → SetsUp (answer_in s) b b (256 + x.0)
begun_refused b e = leaves_all meter_bytes b done (ap answer_in e)

pub begun_kept : (b : List ℕ) {s : Result Meter Refusal} {m : Meter} {w after : List ℕ} → s ≡ Ok m → w ≡ meter_bytes m → length w ≤ length b
    → after ≡ copied b 0 w → SetsUp (answer_in s) b after 0
begun_kept b e n h l = leaves_copied meter_bytes b done (ap answer_in e) n h l refl

module _ (out : List ℕ) (own : ℕ) (template : List ℕ) {s : Result Telegram Refusal} (e : s ≡ shown (telegram_from template)) where
  given : {o : Result Telegram Refusal} → s ≡ o → telegram_from template ≡ answer_in o
  given f = sym (answer_back (telegram_from template)) ∙ ap answer_in (sym e ∙ f)

  pub sets_none : {x : Refusal} → s ≡ Err x → SetsUp (set_up_for out own template) out out (256 + x.0)
  sets_none f = rw (given f) (record { answer = refl; left = refl })

  module _ {x : Telegram} (f : s ≡ Ok x) where
    pub sets_short : ltb (length out) meter_size ≡ true → SetsUp (set_up_for out own template) out out (256 + 21)
    sets_short h = rw (given f, h) (record { answer = refl; left = refl })

    pub sets_up : {u : Result Meter Refusal} {after : List ℕ} {r : ℕ} → ltb (length out) meter_size ≡ false → u ≡ shown (set_up own x)
        → SetsUp (answer_in u) out after r → SetsUp (set_up_for out own template) out after r
    sets_up h g k = rw (given f, h, ← (ap answer_in g ∙ answer_back (set_up own x))) k

-- ---- a step on a record

module _ (b : List ℕ) {s : Result Meter Refusal} (e : s ≡ shown (meter_from b)) where
  stood : {o : Result Meter Refusal} → s ≡ o → meter_from b ≡ answer_in o
  stood f = sym (answer_back (meter_from b)) ∙ ap answer_in (sym e ∙ f)

  pub room : {m : Meter} → s ≡ Ok m → meter_size ≤ length b
  room {m} f = omega (arith, read_size b m (stood f))

  module _ (line : List ℕ) (t : Clock) (out : List ℕ) where
    pub hears_none : {x : Refusal} → s ≡ Err x → HearsLine (line_heard_for b line t out) t b b out out (256 + x.0)
    hears_none f = rw (stood f) (record { step = record { answer = refl; left = refl }; said = refl })

    pub hears_short : {m : Meter} → s ≡ Ok m → ltb (length out) telegram_size ≡ true → HearsLine (line_heard_for b line t out) t b b out out (256 + 21)
    hears_short f h = rw (stood f, h) (record { step = record { answer = refl; left = refl }; said = refl })

    pub hears_line : {m : Meter} {after then : List ℕ} {r : ℕ} → s ≡ Ok m → ltb (length out) telegram_size ≡ false
        → HearsLine (heard_at m line t) t b after out then r → HearsLine (line_heard_for b line t out) t b after out then r
    hears_line f h k = rw (stood f, h) k

  module _ (v n : ℕ) (t : Clock) where
    pub measures_none : {x : Refusal} → s ≡ Err x → Steps (measure_for b v n t) t b b (256 + x.0)
    measures_none f = rw (stood f) (record { answer = refl; left = refl })

    pub measures : {m : Meter} {u : Step} {after : List ℕ} {r : ℕ} → s ≡ Ok m → u ≡ shown_meter_step m t (measured_at m v n t)
        → Kept u b after r → Steps (measure_for b v n t) t b after r
    measures {m} f g k = rw (stood f) (steps m t (measured_at m v n t) g k)
