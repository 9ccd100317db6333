-- What the replay takes from the answers that count, which number it refuses by, and the bundle that is replayed.
use Prim.Native.Nat.{ℕ, ◌+◌, ◌*◌, ◌-◌, ◌^◌, ◌≤◌, ◌<◌}
use mathlib.Core.Bool.{Bool, true, false, cond, not, ◌&&◌, ◌||◌, true≢false, or-true}
use mathlib.Core.List.{List, [], ◌∷◌, ◌++◌, Memᴰ}
use mathlib.Core.Logic.{◌⊎◌, inl, inr, ⊎_elim}
use mathlib.Core.Path.{◌≡◌, refl, sym, ap, subst, ◌∙◌}
use native.Mathlib.Decide.{dec_lt}
use native.Mathlib.Omega.{arith}
use borrow.Author.Tests.{eq-eqb, eqb-true, ne_eqb, lt-ltb, le-ltb, le-leb, lt-leb, ltb-false, leb-true, not-false}
use lib.Count.{ones_in}
use lib.Dec.{eqb, ltb, leb}
use lib.IntN.{ℤ, pos, negsuc}
use lib.ListN.{take, drop, take-append-drop}
use Rattle.base_numbers.specs.Numbers.{number, bytes_of}
use Rattle.base_numbers.specs.TwosComplement.{below_zero, fits_binary}
use Rattle.base_rules.specs.Answers.{Answer, reads, refuse}
use Rattle.base_rules.specs.Lists.{any, total, between}
use Rattle.base_rules.proofs.Laws.ListLaws.{any_snoc}
use Rattle.base_rules.proofs.Laws.Tests.{by_test, below, neither}
use Rattle.base_rules.proofs.Laws.TestLaws.{none, and_true_parts}
use Rattle.base_characters.specs.Characters.{chars, odd, carrier}
use Rattle.base_digits.specs.Digits.{digits_of, packed}
use Rattle.mbus_rules.specs.declared.Entry.{Entry}
use Rattle.mbus_rules.specs.declared.Kind.{Kind}
use Rattle.mbus_rules.specs.declared.Kind.TheVariants.{Ack, Read, Enter, Leave, Data}
use Rattle.mbus_rules.specs.declared.Moment.{Moment}
use Rattle.mbus_rules.specs.declared.Telegram.{Telegram}
use Rattle.mbus_rules.specs.declared.Value.{Value}
use Rattle.mbus_rules.specs.declared.Value.TheVariants.{Number, Time, Binary}
use Rattle.mbus_rules.specs.Entries.{may_fall, seen, read_entries}
use Rattle.mbus_rules.specs.Headers.{wrong_header}
use Rattle.mbus_rules.specs.Lines.{is_method, read_body, read_line}
use Rattle.mbus_rules.specs.Moments.{wrong_moment}
use Rattle.mbus_rules.specs.Quantities.{energy, volume, inlet, outlet, time, quantity_of, is_time, is_binary, width_of, paired}
use Rattle.mbus_rules.specs.Signs.{minus, fits_signed}
use Rattle.mbus_rules.specs.Writing.{bytes_of_entries, line_of, used_entry, used_header, used_body, wrong_value, wrong_entry, repeats, wrong_data, wrong_for, unwritable}
use Rattle.mbus_rules.proofs.Laws.LineLaws.{good_data}
use Rattle.mbus_rules.proofs.Laws.RoundTrip.{read_then_write}
use Rattle.mbus_rules.proofs.Laws.RowLaws.{unit_past, time_quantity, may_fall_three, missing_five}
use Rattle.bench_clock.specs.Wakes.{is_wake}
use Rattle.bench_indication.specs.Errors.{tenths}
use Rattle.bundle_rows.specs.Fields.{wrong_position}
use Rattle.bundle_rows.specs.Rows.{rows_of, bytes_of_rows}
use Rattle.bundle_check.specs.Bundles.{check_of}
use Rattle.bundle_check.specs.Records.{Recorded, records_in, rows_for, bodies_for}
use Rattle.bundle_check.specs.Walks.{some_wrong, end_of}
use Rattle.run_calendar.specs.Days.{year_days, month_days, interval}
use Rattle.run_counting.specs.Counting.{looked, looked_at, counted_after}
use Rattle.run_replay.specs.Figures.{millilitre_power, volume_count, moment_in, millilitres, entry_with}
use Rattle.run_replay.specs.Errors.{volume_most, volume_over, interval_most, wrong_interval, error_by_c1, error_of_figures, row_tells, last_of, error_from, replay_of}
use Rattle.run_replay.proofs.Laws.Figuring.{error_nearest}
use Rattle.demands.specs.ReplayTakes.{OwnRowsLookedAt, Counted, Tells, EveryDataLineSays, WhatARowTells, FirstAndLastTell, FewerThanTwo, AnyVolumeOver}
use Rattle.demands.specs.ReplayTakes.{VolumesFit, EitherInterval, InRange, VolumeFalls, StandardStays, OtherwiseAnError, ThreeAnswersReplayed}

-- ---- the rows that are looked at

pub own_rows_looked_at : OwnRowsLookedAt
unfolding looked looked_at
own_rows_looked_at position k ks p w = rw (eq-eqb k.position position p, w)

-- ---- the entry that is found

-- An entry that is there is the one that is found, since no quantity comes twice.
found_once : (q : ℕ) (e : Entry) (done es rest : List Entry) → quantity_of e.unit ≡ q → repeats done es ≡ false → Memᴰ e es
    → (seen q done ≡ false) × (entry_with q (es ++ rest) ≡ e)
unfolding repeats entry_with
found_once q e done [] rest s r m = absurd (mathlib.Core.List.Memᴰ.not-nil m)
found_once q e done (x ∷ es) rest s r m =
    ⊎_elim here (λ n. later (found_once q e (done ++ (x ∷ [])) es rest s parts.1 n)) (mathlib.Core.List.Memᴰ.cases_cons m)
  where
    parts : (seen (quantity_of x.unit) done ≡ false) × (repeats (done ++ (x ∷ [])) es ≡ false)
    parts = neither (seen (quantity_of x.unit) done) (repeats (done ++ (x ∷ [])) es) r

    here : e ≡ x → (seen q done ≡ false) × (entry_with q ((x ∷ es) ++ rest) ≡ e)
    here f =
        let own : quantity_of x.unit ≡ q = ap (λ (y : Entry). quantity_of y.unit) (sym f) ∙ s in
        (ap (λ (n : ℕ). seen n done) (sym own) ∙ parts.0, rw (eq-eqb (quantity_of x.unit) q own) (sym f))

    later : (seen q (done ++ (x ∷ [])) ≡ false) × (entry_with q (es ++ rest) ≡ e) → (seen q done ≡ false) × (entry_with q ((x ∷ es) ++ rest) ≡ e)
    later found =
        let apart = neither (seen q done) (eqb (quantity_of x.unit) q)
        (sym (any_snoc (λ (y : Entry). eqb (quantity_of y.unit) q) done x) ∙ found.0) in
        (apart.0, rw apart.1 found.1)

-- An entry place that is not used has unit 0.
unused : (e : Entry) (es : List Entry) → any used_entry es ≡ false → Memᴰ e es → e.unit ≡ 0
unfolding any
unused e [] u m = absurd (mathlib.Core.List.Memᴰ.not-nil m)
unused e (x ∷ es) u m =
    let parts = neither (used_entry x) (any used_entry es) u in
    ⊎_elim (λ f. ap (λ (y : Entry). y.unit) f ∙ blank x parts.0) (λ n. unused e es parts.1 n) (mathlib.Core.List.Memᴰ.cases_cons m)
  where
    blank : (y : Entry) → used_entry y ≡ false → y.unit ≡ 0
    blank y v =
        let h = ltb-false 0 y.unit (none (ltb 0 y.structure) (ltb 0 y.unit ∷ _ ∷ []) v).1.0 in
        omega arith

module _ (s : List ℕ) (t : Telegram) (r : read_line s ≡ reads t) (e : Entry) (some : 0 < e.unit) (there : Memᴰ e t.entries) where
  nowhere : any used_entry t.entries ≡ false → entry_with (quantity_of e.unit) t.entries ≡ e
  nowhere u = let no : ⊥ = omega (arith, unused e t.entries u there) in absurd no

  body_unused : used_body t ≡ false → any used_entry t.entries ≡ false
  body_unused u = (none (used_header t.header) (ltb 0 t.count ∷ any used_entry t.entries ∷ []) u).1.1.0

  by_kind : (k : Kind) → wrong_for k t ≡ false → entry_with (quantity_of e.unit) t.entries ≡ e
  by_kind Ack w = nowhere (body_unused (none (ltb 0 t.address) (ltb 0 t.method ∷ used_body t ∷ []) w).1.1.0)
  by_kind Read w = nowhere (body_unused (none (ltb 0 t.method) (used_body t ∷ []) w).1.0)
  by_kind Enter w = nowhere (body_unused (none (not (is_method t.method)) (used_body t ∷ []) w).1.0)
  by_kind Leave w = nowhere (body_unused (none (ltb 0 t.method) (used_body t ∷ []) w).1.0)
  by_kind Data w =
      let g = good_data t (none (ltb 0 t.method) (wrong_data t ∷ []) w).1.0 in
      let whole : take t.count t.entries ++ drop t.count t.entries ≡ t.entries = take-append-drop t.count t.entries in
      let at : Memᴰ e (take t.count t.entries ++ drop t.count t.entries) = subst (λ (l : List Entry). Memᴰ e l) (sym whole) there in
      ap (entry_with (quantity_of e.unit)) (sym whole)
      ∙ ⊎_elim
      (λ m. (found_once (quantity_of e.unit) e [] (take t.count t.entries) (drop t.count t.entries) refl g.good.once m).1)
      (λ m. let no : ⊥ = omega (arith, unused e (drop t.count t.entries) g.blank m) in absurd no)
      (mathlib.Core.List.Memᴰ.append_cases (take t.count t.entries) at)

  found : entry_with (quantity_of e.unit) t.entries ≡ e
  unfolding unwritable
  found = by_kind t.kind (read_then_write s t r).writable

-- ---- what it says

-- a unit byte from 10 to 17 is a volume of 10^n millilitres
volume_unit : (n : ℕ) → n < 8 → (quantity_of (0x10 + n) ≡ volume) × (millilitre_power (0x10 + n) ≡ n)
unfolding quantity_of
volume_unit n h =
    let both = and_true_parts (eqb (quantity_of (0x10 + n)) volume) (eqb (millilitre_power (0x10 + n)) n)
    (below 8 (λ k. eqb (quantity_of (0x10 + k)) volume && eqb (millilitre_power (0x10 + k)) k) refl n h) in
    (eqb-true _ _ both.0, eqb-true _ _ both.1)

time_unit : quantity_of 0x6D ≡ time
unfolding quantity_of
time_unit = refl

-- an element that passes a test is there
passing : {A : Type 0} (test : A → Bool) (l : List A) → any test l ≡ true → (x : A) × Memᴰ x l × (test x ≡ true)
unfolding any
passing test [] e = absurd (true≢false (sym e))
passing test (x ∷ l) e =
    by_test (test x) (λ t. (x, mathlib.Core.List.Memᴰ.head refl, t)) (λ t. let p = passing test l (rw t at e) in (p.0, mathlib.Core.List.Memᴰ.tail p.1, p.2))

-- and none that is there fails one that all pass
none_there : {A : Type 0} (test : A → Bool) (l : List A) (x : A) → any test l ≡ false → Memᴰ x l → test x ≡ false
unfolding any
none_there test [] x e m = absurd (mathlib.Core.List.Memᴰ.not-nil m)
none_there test (y ∷ l) x e m =
    let p = neither (test y) (any test l) e in
    ⊎_elim (λ f. ap test f ∙ p.0) (λ n. none_there test l x p.1 n) (mathlib.Core.List.Memᴰ.cases_cons m)

-- the unit bytes of volumes
unit_of_volume : (u : ℕ) → quantity_of u ≡ volume → (0x10 ≤ u) × (u ≤ 0x17)
unfolding quantity_of
unit_of_volume u e = go (dec_lt u 256)
  where
    go : Dec (u < 256) → (0x10 ≤ u) × (u ≤ 0x17)
    go (yes h) =
        let both = and_true_parts (leb 0x10 u) (leb u 0x17)
        (rw (eq-eqb (quantity_of u) volume e) at (below 256 (λ k. cond (eqb (quantity_of k) volume) (between 0x10 0x17 k) true) refl u h)) in
        (leb-true _ _ both.0, leb-true _ _ both.1)
    go (no h) = let no-volume : ⊥ = omega (arith, unit_past u (omega arith)) in absurd no-volume

-- a number that is not below zero
from_zero : (z : ℤ) → below_zero z ≡ false → (n : ℕ) × (z ≡ pos n)
from_zero (pos n) e = (n, refl)
from_zero (negsuc n) e = absurd (true≢false e)

-- the value of a volume is a number, and not below zero
volume_counted : (st u : ℕ) (v : Value) → quantity_of u ≡ volume → wrong_value st u v ≡ false → (n : ℕ) × Counted v n
volume_counted st u v e w = go v w
  where
    timeless : is_time u ≡ false
    timeless = sym (time_quantity u) ∙ rw e

    never_falls : may_fall u ≡ false
    never_falls = may_fall_three u ∙ rw e

    above : (z : ℤ) → (below_zero z && not (may_fall u)) ≡ false → below_zero z ≡ false
    above (pos n) f = refl
    above (negsuc n) f = absurd (true≢false (rw never_falls at f))

    go : (v : Value) → wrong_value st u v ≡ false → (n : ℕ) × Counted v n
    go (Number d) f =
        let p = none (is_time u) (is_binary st ∷ not (fits_signed (width_of st) d.count) ∷ (below_zero d.count && not (may_fall u)) ∷ []) f in
        let z = from_zero d.count (above d.count p.1.1.1.0) in
        (z.0, inl (ap (λ (c : ℤ). Number (record { count = c })) z.1))
    go (Binary d) f =
        let p = none (is_time u) (not (is_binary st) ∷ not (fits_binary (width_of st) d.count) ∷ (below_zero d.count && not (may_fall u)) ∷ []) f in
        let z = from_zero d.count (above d.count p.1.1.1.0) in
        (z.0, inr (ap (λ (c : ℤ). Binary (record { count = c })) z.1))
    go (Time m) f = absurd (true≢false (rw timeless at f))

-- and that of 6D a point in time
time_told : (st : ℕ) (v : Value) → wrong_value st 0x6D v ≡ false → (m : Moment) × (v ≡ Time m)
time_told st (Number d) f = absurd (true≢false f)
time_told st (Binary d) f = absurd (true≢false f)
time_told st (Time m) f = (m, refl)

-- what the two entries say
says_so : (k : Recorded) (t : Telegram) → read_line (chars k.body) ≡ reads t
    → (v : Entry) → Memᴰ v t.entries → (n : ℕ) → (n < 8) × (v.unit ≡ 0x10 + n) → (count : ℕ) → Counted v.value count
    → (c : Entry) → Memᴰ c t.entries → c.unit ≡ 0x6D → (m : Moment) → c.value ≡ Time m → Tells k (count * 10 ^ n) m
says_so k t r v there n unit count counted c here at m is = record {
  telegram = t;
  read = r;
  volume = v;
  volume_there = there;
  n = n;
  unit = unit;
  count = count;
  counted = counted;
  exact = refl;
  clock = c;
  clock_there = here;
  clock_unit = at;
  clock_time = is;
}

pub every_data_line_says : EveryDataLineSays
unfolding unwritable
every_data_line_says k t r d =
    let es : List Entry = take t.count t.entries in
    let w : wrong_for Data t ≡ false = ap (λ (kind : Kind). wrong_for kind t) (sym d) ∙ (read_then_write (chars k.body) t r).writable in
    let g = (good_data t (none (ltb 0 t.method) (wrong_data t ∷ []) w).1.0).good in
    let there : (e : Entry) → Memᴰ e es → Memᴰ e t.entries =
    λ e m. subst (λ (l : List Entry). Memᴰ e l) (take-append-drop t.count t.entries) (mathlib.Core.List.Memᴰ.append_left (drop t.count t.entries) m) in
    let right : (e : Entry) → Memᴰ e es → wrong_value e.structure e.unit e.value ≡ false =
    λ e m. (neither (not (paired e.structure e.unit)) (wrong_value e.structure e.unit e.value) (none_there wrong_entry es e g.right m)).1 in
    let seen_all = none (not (seen energy es)) (not (seen volume es) ∷ not (seen inlet es) ∷ not (seen outlet es) ∷ not (seen time es) ∷ [])
    (sym (missing_five (λ q. seen q es)) ∙ g.whole) in
    let v = passing (λ (e : Entry). eqb (quantity_of e.unit) volume) es (not-false (seen volume es) seen_all.1.0) in
    let c = passing (λ (e : Entry). eqb (quantity_of e.unit) time) es (not-false (seen time es) seen_all.1.1.1.1.0) in
    let kind : quantity_of v.0.unit ≡ volume = eqb-true _ _ v.2 in
    let low = unit_of_volume v.0.unit kind in
    let count = volume_counted v.0.structure v.0.unit v.0.value kind (right v.0 v.1) in
    let at : c.0.unit ≡ 0x6D = eqb-true c.0.unit 0x6D (sym (time_quantity c.0.unit) ∙ c.2) in
    let moment = time_told c.0.structure c.0.value (rw at at (right c.0 c.1)) in (
      count.0 * 10 ^ (v.0.unit - 0x10),
      moment.0,
      says_so k t r v.0 (there v.0 v.1) (v.0.unit - 0x10) (omega arith, omega arith) count.0 count.1 c.0 (there c.0 c.1)
          at moment.0 moment.1,
    )

row_tells_lem : (k : Recorded) (v : ℕ) (t : Moment) → Tells k v t → ((row_tells k).volume ≡ v) × ((row_tells k).time ≡ t)
unfolding millilitres
row_tells_lem k v t p =
    let u = volume_unit p.n p.unit.0 in
    let own : quantity_of p.volume.unit ≡ volume = ap quantity_of p.unit.1 ∙ u.0 in
    let at : entry_with volume p.telegram.entries ≡ p.volume =
    ap (λ (q : ℕ). entry_with q p.telegram.entries) (sym own)
    ∙ found (chars k.body) p.telegram p.read p.volume (omega (arith, p.unit.1)) p.volume_there in
    let when : quantity_of p.clock.unit ≡ time = ap quantity_of p.clock_unit ∙ time_unit in
    let told : entry_with time p.telegram.entries ≡ p.clock =
    ap (λ (q : ℕ). entry_with q p.telegram.entries) (sym when)
    ∙ found (chars k.body) p.telegram p.read p.clock (omega (arith, p.clock_unit)) p.clock_there in
    let size : volume_count p.volume.value ≡ p.count = ⊎_elim (λ e. ap volume_count e) (λ e. ap volume_count e) p.counted in
    let power : millilitre_power p.volume.unit ≡ p.n = ap millilitre_power p.unit.1 ∙ u.1 in (
      rw (p.read, at, size, power) (sym p.exact),
      rw (p.read, told) (ap moment_in p.clock_time),
    )

pub what_a_row_tells : WhatARowTells
what_a_row_tells = row_tells_lem

-- ---- which answers it is taken from

last_is : {A : Type 0} (x last : A) (between : List A) → last_of x (between ++ (last ∷ [])) ≡ last
last_is x last [] = refl
last_is x last (y ∷ between) = last_is y last between

-- a position from 1 to 48 is right
pub right_position : (position : ℕ) → 1 ≤ position → position ≤ 48 → wrong_position position ≡ false
right_position position l h = rw (le-ltb position 1 l, le-ltb 48 position h)

from_ends : (first last : Recorded) (between : List Recorded) (s1 s2 elapsed : ℕ)
    → error_from (first ∷ (between ++ (last ∷ []))) s1 s2 elapsed
    ≡ error_of_figures (row_tells first).volume (row_tells last).volume s1 s2 elapsed (interval (row_tells first).time (row_tells last).time)
from_ends first last [] s1 s2 elapsed = refl
from_ends first last (second ∷ between) s1 s2 elapsed =
    ap (λ (k : Recorded). error_of_figures (row_tells first).volume (row_tells k).volume s1 s2 elapsed (interval (row_tells first).time (row_tells k).time))
    (last_is second last between)

pub first_and_last_tell : FirstAndLastTell
unfolding replay_of
first_and_last_tell b n position s1 s2 elapsed v1 v2 t1 t2 first last between e l h a one two =
    let x = row_tells_lem first v1 t1 one in
    let y = row_tells_lem last v2 t2 two in
    let figures : error_from (first ∷ (between ++ (last ∷ []))) s1 s2 elapsed ≡ error_of_figures v1 v2 s1 s2 elapsed (interval t1 t2) =
    from_ends first last between s1 s2 elapsed ∙ rw (x.0, y.0, x.1, y.1) in
    rw (e, right_position position l h, a) figures

pub fewer_than_two : FewerThanTwo
unfolding replay_of
fewer_than_two b n position s1 s2 elapsed only e l h a =
    rw (e, right_position position l h)
    (⊎_elim (λ f. ap (λ (ks : List Recorded). error_from ks s1 s2 elapsed) f) (λ f. ap (λ (ks : List Recorded). error_from ks s1 s2 elapsed) f) a)

-- ---- what is given

pub any_volume_over : AnyVolumeOver
unfolding error_of_figures
any_volume_over v1 v2 s1 s2 elapsed meter over = rw (so over)
  where
    so : (1000000000 < v1) ⊎ ((1000000000 < v2) ⊎ ((1000000000 < s1) ⊎ (1000000000 < s2))) → volume_over v1 v2 s1 s2 ≡ true
    so (inl h) = rw (lt-ltb volume_most v1 h)
    so (inr (inl h)) = rw (lt-ltb volume_most v2 h, or-true (ltb volume_most v1))
    so (inr (inr (inl h))) = rw (lt-ltb volume_most s1 h, or-true (ltb volume_most v1 || ltb volume_most v2))
    so (inr (inr (inr h))) = rw (lt-ltb volume_most s2 h, or-true (ltb volume_most v1 || ltb volume_most v2 || ltb volume_most s1))

none_over : (v1 v2 s1 s2 : ℕ) → VolumesFit v1 v2 s1 s2 → volume_over v1 v2 s1 s2 ≡ false
none_over v1 v2 s1 s2 p =
    rw (
      le-ltb volume_most v1 p.meter_first,
      le-ltb volume_most v2 p.meter_last,
      le-ltb volume_most s1 p.standard_first,
      le-ltb volume_most s2 p.standard_last,
    )

pub either_interval : EitherInterval
unfolding error_of_figures
either_interval v1 v2 s1 s2 elapsed meter fit wrong = rw (none_over v1 v2 s1 s2 fit, so wrong)
  where
    long : (t : ℕ) → interval_most < t → wrong_interval t ≡ true
    long t h = rw (lt-ltb interval_most t h, or-true (eqb t 0))

    so : (elapsed ≡ 0) ⊎ ((1800000 < elapsed) ⊎ ((meter ≡ 0) ⊎ (1800000 < meter))) → (wrong_interval elapsed || wrong_interval meter) ≡ true
    so (inl e) = rw e
    so (inr (inl h)) = rw (long elapsed h)
    so (inr (inr (inl e))) = rw (e, or-true (wrong_interval elapsed))
    so (inr (inr (inr h))) = rw (long meter h, or-true (wrong_interval elapsed))

right_interval : (t : ℕ) → InRange t → wrong_interval t ≡ false
right_interval t h = rw (ne_eqb t 0 (λ z. omega arith), le-ltb interval_most t h.1)

module _ (v1 v2 s1 s2 elapsed meter : ℕ) (fit : VolumesFit v1 v2 s1 s2) (own : InRange elapsed) (other : InRange meter) where
  past_65 : {next : Answer ℤ} → refuse 64 (volume_over v1 v2 s1 s2) (refuse 65 (wrong_interval elapsed || wrong_interval meter) next) ≡ next
  past_65 = rw (none_over v1 v2 s1 s2 fit, right_interval elapsed own, right_interval meter other)

pub volume_falls : VolumeFalls
unfolding error_of_figures
volume_falls v1 v2 s1 s2 elapsed meter fit own other h = past_65 v1 v2 s1 s2 elapsed meter fit own other ∙ rw (lt-ltb v2 v1 h)

pub standard_stays : StandardStays
unfolding error_of_figures
standard_stays v1 v2 s1 s2 elapsed meter fit own other h l =
    past_65 v1 v2 s1 s2 elapsed meter fit own other ∙ rw (le-ltb v2 v1 h, le-leb s2 s1 l)

pub otherwise_an_error : OtherwiseAnError
unfolding error_of_figures
otherwise_an_error v1 v2 s1 s2 elapsed meter fit own other h l =
    let told : error_of_figures v1 v2 s1 s2 elapsed meter ≡ reads (error_by_c1 v1 v2 s1 s2 elapsed meter) =
    past_65 v1 v2 s1 s2 elapsed meter fit own other ∙ rw (le-ltb v2 v1 h, lt-leb s2 s1 l) in
    (error_by_c1 v1 v2 s1 s2 elapsed meter, told, error_nearest v1 v2 s1 s2 elapsed meter (error_by_c1 v1 v2 s1 s2 elapsed meter) told)

-- ---- the bundle with three answers

pub three_answers_replayed : ThreeAnswersReplayed
unfolding replay_of check_of number rows_of some_wrong end_of records_in rows_for bytes_of_rows bodies_for chars bytes_of read_line read_body read_entries any total odd
    carrier ones_in wrong_header digits_of minus wrong_moment quantity_of width_of paired packed bytes_of_entries line_of is_wake looked looked_at counted_after millilitres
    entry_with error_of_figures tenths interval year_days month_days
three_answers_replayed = (refl, refl, refl, refl)
