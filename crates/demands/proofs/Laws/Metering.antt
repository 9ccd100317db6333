-- Proofs of the statements of specs/Metering.
use Prim.Native.Nat.{ℕ, ◌+◌, ◌%◌, ◌^◌, ◌≤◌}
use native.Mathlib.Nat.{mod-eq_of_lt}
use native.Mathlib.Omega.{arith}
use mathlib.Core.Bool.{Bool, true, false, true≢false, not, ◌&&◌, ◌||◌, or-true, and-false}
use mathlib.Core.List.{List, [], ◌∷◌, ◌++◌, Memᴰ}
use mathlib.Core.Logic.{◌⊎◌, inl, inr}
use mathlib.Core.Path.{◌≡◌, refl, sym, ap, ap₂, ◌∙◌}
use borrow.Author.Tests.{eqb-true, eq-eqb, ne_eqb, lt-ltb, le-ltb, ltb-false, not-true}
use lib.Count.{ones_in}
use lib.Dec.{eqb}
use lib.IntN.{pos}
use Rattle.base_rules.specs.Answers.{Answer, reads, refusal}
use Rattle.base_rules.specs.Lists.{any, total}
use Rattle.base_rules.proofs.Laws.Tests.{by_test}
use Rattle.base_rules.proofs.Laws.TestLaws.{and_true_parts}
use Rattle.base_characters.specs.Characters.{odd, carrier}
use Rattle.base_digits.specs.Digits.{digits_of, packed}
use Rattle.bench_clock.specs.declared.Clock.{Clock}
use Rattle.bench_clock.specs.Times.{earlier}
use Rattle.bench_clock.proofs.Laws.Times.{le_due, lt_due}
use Rattle.mbus_rules.specs.declared.Kind.{Kind}
use Rattle.mbus_rules.specs.declared.Kind.TheVariants as kinds
use Rattle.mbus_rules.specs.declared.Entry.{Entry}
use Rattle.mbus_rules.specs.declared.Outline.{Outline}
use Rattle.mbus_rules.specs.declared.Outline.TheVariants as outlines
use Rattle.mbus_rules.specs.declared.Request.{Request}
use Rattle.mbus_rules.specs.declared.Request.TheVariants.{Read, Enter, Leave}
use Rattle.mbus_rules.specs.declared.Telegram.{Telegram}
use Rattle.mbus_rules.specs.declared.Value.TheVariants.{Number}
use Rattle.mbus_rules.specs.Entries.{may_fall, read_entries}
use Rattle.mbus_rules.specs.Headers.{wrong_header}
use Rattle.mbus_rules.specs.Lines.{read_body, read_line}
use Rattle.mbus_rules.specs.Moments.{wrong_moment}
use Rattle.mbus_rules.specs.Outlines.{outlined}
use Rattle.mbus_rules.specs.Quantities.{energy, volume, quantity_of, width_of, paired}
use Rattle.mbus_rules.specs.Signs.{minus}
use Rattle.mbus_rules.specs.Writing.{line_of, repeats, unwritable}
use Rattle.mbus_rules.proofs.Laws.RoundTrip.{read_then_write}
use Rattle.meter_template.specs.declared.Pair.{Pair}
use Rattle.meter_template.specs.Templates.{is_data_kind, holds, lacks, total_in, unfit_template, total_most, passes, overflows}
use Rattle.meter_steps.specs.declared.Core.{Core}
use Rattle.meter_steps.specs.declared.Meter.{Meter}
use Rattle.meter_steps.specs.declared.Mode.{Mode}
use Rattle.meter_steps.specs.declared.Mode.TheVariants.{Use, Verifying}
use Rattle.meter_steps.specs.Meters.{Deed, quiet, address_of, addressed, mode_at, force_of, shown_meter_step}
use Rattle.meter_steps.specs.Histories.{measure, step_of, run_meter, is_read, is_enter, is_leave, instructs}
use Rattle.demands.proofs.Laws.Writer.{cannot_be_written}
use Rattle.demands.proofs.Laws.Bench.{first_of, second_of, third_of, fourth_of}
use Rattle.demands.specs.Metering.{at, ToItself, AddressedToIt, ReadObeyed, EnterObeyed, LeaveObeyed, TimeGoesBack, In0C, SetUpRefused, Counts, pair_of}
use Rattle.demands.specs.Metering.{meter_with}
use Rattle.demands.specs.Metering.{SetUpTaken, ReturnsToUse, PairInForce, Fit, Measures, MeasuresInUse, MeasuresBackInUse, MeasuresInVerification}
use Rattle.demands.specs.Metering.{TotalWouldPass, AccessGoesUp, RestFromTheTemplate, TotalsTold, template, said_to, EveryNumberDiffers}

-- ---- whom it obeys

to_itself : (own a : ℕ) → eqb a 0xFE || eqb a own ≡ true → ToItself own a
to_itself own a e = by_test (eqb a 0xFE) (λ f. inl (eqb-true a 0xFE f)) (λ f. inr (eqb-true a own (rw f at e)))

itself_asked : (own a : ℕ) → ToItself own a → eqb a 0xFE || eqb a own ≡ true
itself_asked own a (inl e) = rw (eq-eqb a 0xFE e)
itself_asked own a (inr e) = rw (eq-eqb a own e) (or-true (eqb a 0xFE))

pub addressed_to_it : AddressedToIt
addressed_to_it own a s =
    ((to_itself own a, itself_asked own a), (to_itself own a, itself_asked own a), (to_itself own a, itself_asked own a))

-- an instruction of a kind is a request of that kind to the meter
instruction : (kind : Request → Bool) (own : ℕ) (o : Outline) → instructs kind own o ≡ true
    → (q : Request) × (o ≡ outlines.Asks q) × (kind q ≡ true) × ToItself own (address_of q)
instruction kind own (outlines.Refused n) e = absurd (true≢false (sym e))
instruction kind own outlines.Ack e = absurd (true≢false (sym e))
instruction kind own (outlines.Data a) e = absurd (true≢false (sym e))
instruction kind own (outlines.Asks q) e =
    let both = and_true_parts (addressed own q) (kind q) e in
    (q, refl, both.1, to_itself own (address_of q) both.0)

-- an accepted step with one
obeyed : (kind : Request → Bool) (own last t : ℕ) (o : Outline) → not (earlier last t) && instructs kind own o ≡ true
    → (last ≤ t) × ((q : Request) × (o ≡ outlines.Asks q) × (kind q ≡ true) × ToItself own (address_of q))
obeyed kind own last t o e =
    let both = and_true_parts (not (earlier last t)) (instructs kind own o) e in
    (ltb-false t last (not-true (earlier last t) both.0), instruction kind own o both.1)

obeys_so : (kind : Request → Bool) (own last t : ℕ) (o : Outline) (q : Request) → last ≤ t → o ≡ outlines.Asks q → kind q ≡ true
    → ToItself own (address_of q) → not (earlier last t) && instructs kind own o ≡ true
obeys_so kind own last t o q h e k to = rw (le-ltb t last h, e, itself_asked own (address_of q) to, k)

pub read_obeyed : ReadObeyed
read_obeyed m line t = (
  λ e. let p = obeyed is_read m.core.address m.last.0 t.0 (outlined (read_line line)) e in (p.0, such p.1),
  λ p. obeys_so is_read m.core.address m.last.0 t.0 (outlined (read_line line)) (Read p.1.0) p.0 p.1.1 refl p.1.2,
)
  where
    such : (q : Request) × (outlined (read_line line) ≡ outlines.Asks q) × (is_read q ≡ true) × ToItself m.core.address (address_of q)
        → (a : ℕ) × (outlined (read_line line) ≡ outlines.Asks (Read a)) × ToItself m.core.address a
    such (Read a, e, k, to) = (a, e, to)
    such (Enter a s, e, k, to) = absurd (true≢false (sym k))
    such (Leave a, e, k, to) = absurd (true≢false (sym k))

pub enter_obeyed : EnterObeyed
enter_obeyed m line t = (
  λ e. let p = obeyed is_enter m.core.address m.last.0 t.0 (outlined (read_line line)) e in (p.0, such p.1),
  λ p. obeys_so is_enter m.core.address m.last.0 t.0 (outlined (read_line line)) (Enter p.1.0 p.1.1) p.0 p.1.2 refl p.1.3,
)
  where
    such : (q : Request) × (outlined (read_line line) ≡ outlines.Asks q) × (is_enter q ≡ true) × ToItself m.core.address (address_of q)
        → (a s : ℕ) × (outlined (read_line line) ≡ outlines.Asks (Enter a s)) × ToItself m.core.address a
    such (Read a, e, k, to) = absurd (true≢false (sym k))
    such (Enter a s, e, k, to) = (a, s, e, to)
    such (Leave a, e, k, to) = absurd (true≢false (sym k))

pub leave_obeyed : LeaveObeyed
leave_obeyed m line t = (
  λ e. let p = obeyed is_leave m.core.address m.last.0 t.0 (outlined (read_line line)) e in (p.0, such p.1),
  λ p. obeys_so is_leave m.core.address m.last.0 t.0 (outlined (read_line line)) (Leave p.1.0) p.0 p.1.1 refl p.1.2,
)
  where
    such : (q : Request) × (outlined (read_line line) ≡ outlines.Asks q) × (is_leave q ≡ true) × ToItself m.core.address (address_of q)
        → (a : ℕ) × (outlined (read_line line) ≡ outlines.Asks (Leave a)) × ToItself m.core.address a
    such (Read a, e, k, to) = absurd (true≢false (sym k))
    such (Enter a s, e, k, to) = absurd (true≢false (sym k))
    such (Leave a, e, k, to) = (a, e, to)

pub time_goes_back : TimeGoesBack
time_goes_back m t h = (λ line. rw (lt-ltb t.0 m.last.0 h), λ v e. rw (lt-ltb t.0 m.last.0 h))

-- ---- set-up

-- an element that passes
some_passes : (test : Entry → Bool) (es : List Entry) → any test es ≡ true → (e : Entry) × Memᴰ e es × (test e ≡ true)
unfolding any
some_passes test [] h = absurd (true≢false (sym h))
some_passes test (x ∷ es) h =
    by_test (test x)
    (λ y. (x, Memᴰ.head refl, y))
    (λ n. let p = some_passes test es (rw n at h) in (p.0, Memᴰ.tail p.1, p.2))

lacks_where : (q : ℕ) (t : Telegram) → (In0C q t → ⊥) → lacks q t.entries ≡ true
lacks_where q t never =
    by_test (any (holds q) t.entries)
    (λ y. let p = some_passes (holds q) t.entries y in
    let both = and_true_parts (eqb p.0.structure 0x0C) (eqb (quantity_of p.0.unit) q) p.2 in
    absurd (never (p.0, p.1, eqb-true p.0.structure 0x0C both.0, eqb-true (quantity_of p.0.unit) q both.1)))
    (λ n. rw n)

no_data : (k : Kind) → (k ≡ kinds.Data → ⊥) → not (is_data_kind k) ≡ true
no_data kinds.Ack never = refl
no_data kinds.Read never = refl
no_data kinds.Enter never = refl
no_data kinds.Leave never = refl
no_data kinds.Data never = absurd (never refl)

pub set_up_refused : SetUpRefused
set_up_refused own t z h = rw (unfit h)
  where
    unfit : (t.kind ≡ kinds.Data → ⊥) ⊎ (((s : List ℕ) → read_line s ≡ reads t → ⊥) ⊎ ((In0C energy t → ⊥) ⊎ (In0C volume t → ⊥)))
        → unfit_template t ≡ true
    unfit (inl k) = first_of _ _ _ _ (no_data t.kind k)
    unfit (inr (inl w)) = second_of (not (is_data_kind t.kind)) _ _ _ ((cannot_be_written t z).1 w)
    unfit (inr (inr (inl e))) = third_of (not (is_data_kind t.kind)) (unwritable t) _ _ (lacks_where energy t e)
    unfit (inr (inr (inr v))) = fourth_of (not (is_data_kind t.kind)) (unwritable t) (lacks energy t.entries) _ (lacks_where volume t v)

-- the first entry of a quantity gives its total
module _ (q n : ℕ) (e : Entry) (later : List Entry) (s : e.structure ≡ 0x0C) (u : quantity_of e.unit ≡ q)
    (c : e.value ≡ Number (record { count = pos n })) where
  first_total : (front : List Entry) → ((x : Entry) → Memᴰ x front → quantity_of x.unit ≡ q → ⊥)
      → (total_in q (front ++ (e ∷ later)) ≡ n) × (any (holds q) (front ++ (e ∷ later)) ≡ true)
  unfolding total_in any
  first_total [] never = (rw (s, eq-eqb (quantity_of e.unit) q u, c), rw (s, eq-eqb (quantity_of e.unit) q u))
  first_total (x ∷ front) never =
      let other : holds q x ≡ false = rw (ne_eqb (quantity_of x.unit) q (never x (Memᴰ.head refl))) (and-false (eqb x.structure 0x0C)) in
      let p = first_total front (λ y m. never y (Memᴰ.tail m)) in
      (rw other p.0, rw other p.1)

total_is : (q n : ℕ) (t : Telegram) → Counts q n t → (total_in q t.entries ≡ n) × (any (holds q) t.entries ≡ true)
total_is q n t c =
    let p = first_total q n c.entry c.later c.structure c.quantity c.value c.front c.first in
    (ap (total_in q) c.there ∙ p.0, ap (any (holds q)) c.there ∙ p.1)

pub set_up_taken : SetUpTaken
set_up_taken own t s v e k r cv ce =
    let tv = total_is volume v t cv in
    let te = total_is energy e t ce in
    let fit : unfit_template t ≡ false = rw ((read_then_write s t r).writable, te.1, tv.1, k) in
    rw fit (ap₂ (λ (x y : ℕ). reads (meter_with 0 own Use (pair_of x y) (pair_of 0 0) t)) tv.0 te.0)

-- ---- the return, and the pair in force

pub returns_to_use : ReturnsToUse
returns_to_use t own s since used verified template = (λ h. rw (le_due since t.0 h), λ h. rw (lt_due since t.0 h), refl)

pub pair_in_force : PairInForce
pair_in_force c = (λ e. rw e, λ s since e. rw e)

-- ---- measuring

-- from the mode in which the return leaves it
module _ (m : Meter) (v e : ℕ) (t : Clock) (in_order : m.last.0 ≤ t.0) (mode : Mode) (so : mode_at t m.core.mode ≡ mode) where
  abbrev pair : Pair
  pair = force_of mode m.core.used m.core.verified

  abbrev sum : Pair
  sum = pair_of (pair.volume + v) (pair.energy + e)

  abbrev leaves : Core
  leaves = record {
    address = m.core.address;
    mode = mode;
    used = force_of mode sum m.core.used;
    verified = force_of mode m.core.verified sum;
    template = m.core.template;
  }

  measured : Fit pair v e → Measures m v e t (record { last = t; core = leaves })
  measured f =
      let step : step_of m (measure v e t) ≡ reads (quiet leaves) =
      rw (le-ltb t.0 m.last.0 in_order, so, le-ltb total_most (pair.volume + v) f.0, le-ltb total_most (pair.energy + e) f.1) in
      (rw step, ap (λ (x : Answer Deed). (shown_meter_step m t x).meter) step)

  passing : (Fit pair v e → ⊥) → step_of m (measure v e t) ≡ refusal 71
  passing never =
      let over : overflows pair v e ≡ true =
      by_test (passes pair.volume v)
      (λ y. rw y)
      (λ n. by_test (passes pair.energy e) (λ y. rw (n, y))
      (λ w. absurd (never (ltb-false total_most (pair.volume + v) n, ltb-false total_most (pair.energy + e) w)))) in
      rw (le-ltb t.0 m.last.0 in_order, so, over)

module _ (own v e : ℕ) (last : ℕ) (t : ℕ) (in_order : last ≤ t) (used verified : Pair) (template : Telegram) where
  abbrev with_mode : Mode → Meter
  with_mode mode = meter_with last own mode used verified template

  pub measures_in_use : MeasuresInUse own v e last t in_order used verified template
  measures_in_use = measured (with_mode Use) v e (at t) in_order Use refl

  pub measures_back_in_use : MeasuresBackInUse own v e last t in_order used verified template
  measures_back_in_use s since h = measured (with_mode (Verifying s (at since))) v e (at t) in_order Use (rw (le_due since t h))

  pub measures_in_verification : MeasuresInVerification own v e last t in_order used verified template
  measures_in_verification s since h =
      measured (with_mode (Verifying s (at since))) v e (at t) in_order (Verifying s (at since)) (rw (lt_due since t h))

  pub total_would_pass : TotalWouldPass own v e last t in_order used verified template
  total_would_pass = (
    passing (with_mode Use) v e (at t) in_order Use refl,
    λ s since h. passing (with_mode (Verifying s (at since))) v e (at t) in_order Use (rw (le_due since t h)),
    λ s since h. passing (with_mode (Verifying s (at since))) v e (at t) in_order (Verifying s (at since)) (rw (lt_due since t h)),
  )

-- ---- what it tells

pub access_goes_up : AccessGoesUp
access_goes_up = (refl, λ n h. rw (ne_eqb n 255 (λ e. omega arith)))

pub rest_from_the_template : RestFromTheTemplate
rest_from_the_template own p t = refl

-- a total is below 2^63
small : (n : ℕ) → n ≤ 99999999 → n % 2 ^ 63 ≡ n
small n h = mod-eq_of_lt (omega arith)

pub totals_told : TotalsTold
totals_told v e x hv he = (
  λ s q. rw (s, q, small v hv),
  λ s q. rw (s, q, small e he),
  λ nv ne. rw (ne_eqb (quantity_of x.unit) volume nv, ne_eqb (quantity_of x.unit) energy ne, and-false (eqb x.structure 0x0C)),
)

-- ---- a run

pub every_number_differs : EveryNumberDiffers
unfolding said_to run_meter read_line read_body read_entries any total odd carrier ones_in line_of wrong_header digits_of packed minus wrong_moment quantity_of width_of
    paired unwritable repeats may_fall total_in
every_number_differs = (meter_with 0 0x2A Use (pair_of 1111 2222) (pair_of 0 0) (template 0x11 254 1111 2222), refl, refl, refl)
