-- 001's tables hold of the rules for CJ/T 188 lines.
use Prim.Native.Nat.{ℕ, ◌+◌, ◌*◌, ◌/◌, ◌%◌, ◌^◌, ◌≤◌, ◌<◌}
use mathlib.Core.Bool.{Bool, true, false, not, ◌&&◌, ◌||◌, or_assoc, or-false, or-true, and-eq-true_iff}
use mathlib.Core.List.{List, [], ◌∷◌, ◌++◌, map}
use mathlib.Core.Logic.{inl, inr, ◌↔◌}
use mathlib.Core.Path.{◌≡◌, refl, sym, ap, ap₂, ◌∙◌}
use native.Mathlib.Nat.{div-one, div-div-eq-div-mul}
use native.Mathlib.Omega.{arith}
use borrow.Author.Tests.{lt-ltb, le-leb, ltb-true, leb-true, not-false}
use lib.Count.{ones_in}
use lib.Dec.{eqb, ltb, leb}
use Rattle.base_rules.specs.Lists.{any, total, between}
use Rattle.base_rules.proofs.Laws.Tests.{by_test, neither}
use Rattle.base_characters.specs.Characters.{odd, carrier}
use Rattle.base_characters.specs.Closing.{closed}
use Rattle.base_digits.specs.Digits.{digits_of, packed}
use Rattle.base_calendar.specs.Months.{days_in}
use Rattle.cjt_rules.specs.declared.CjtAddress.{CjtAddress}
use Rattle.cjt_rules.specs.declared.CjtAddress.TheVariants.{Meter, Broadcast}
use Rattle.cjt_rules.specs.declared.CjtClock.{CjtClock}
use Rattle.cjt_rules.specs.declared.CjtAnswer.{CjtAnswer}
use Rattle.cjt_rules.specs.declared.CjtTelegram.TheVariants.{Answer}
use Rattle.cjt_rules.specs.CjtFrames.{past_fe}
use Rattle.cjt_rules.specs.CjtAddresses.{heat_type}
use Rattle.cjt_rules.specs.CjtUnits.{energy_code, power_code, flow_code, volume_code, wrong_units}
use Rattle.cjt_rules.specs.CjtClocks.{day_exists, hour_exists, wrong_clock}
use Rattle.cjt_rules.specs.CjtLines.{read_cjt_frame, read_cjt_line}
use Rattle.cjt_rules.specs.CjtWriting.{bytes_of_party, bytes_of_telegram, cjt_line_of, over_fourteen, over_eight, over_six, unwritten_party, unwritten_counts, unwritten}
use Rattle.demands.specs.CjtTables.{asked_bytes, RequestLine, PlacesOf, AnswerLine, PointsStand, OfAType, ShowsATime, Tellable, AnswersWritten}
use Rattle.demands.specs.CjtTables.{OneOf, energy_codes, Askable, RequestsWritten, AllDiffer}

-- ---- the line

asked_bytes_lem : (address : CjtAddress) → bytes_of_party address ≡ asked_bytes address
asked_bytes_lem (Meter n) = refl
asked_bytes_lem Broadcast = refl

pub request_line : RequestLine
unfolding cjt_line_of
request_line q =
    ap (λ (p : List ℕ). map carrier (closed (0x68 ∷ q.meter_type ∷ (p ++ (0x01 ∷ 0x03 ∷ 0x1F ∷ 0x90 ∷ q.serial ∷ []))))) (asked_bytes_lem q.address)

ten_rest : (q r : ℕ) → (10 * q + r) % 10 ≡ r % 10
ten_rest q r = omega arith

-- the two lowest digits of a number are those of its rest by 100
low_byte : (q r : ℕ) → 16 * ((100 * q + r) / 10 % 10) + (100 * q + r) % 10 ≡ 16 * (r / 10 % 10) + r % 10
low_byte q r =
    let tens : (100 * q + r) / 10 ≡ 10 * q + r / 10 = omega arith in
    let ones : (100 * q + r) % 10 ≡ r % 10 = omega arith in
    rw (tens, ten_rest q (r / 10), ones)

byte_of : (n q r : ℕ) → n ≡ 100 * q + r → 16 * (n / 10 % 10) + n % 10 ≡ 16 * (r / 10 % 10) + r % 10
byte_of n q r e = rw e (low_byte q r)

-- behind the point: two digits are what the count leaves by 100, four what it leaves by 10,000
first_byte : (n : ℕ) → (16 * (n / 10 % 10) + n % 10) ∷ [] ≡ packed 1 (n % 100)
unfolding packed
first_byte n = ap (λ (x : ℕ). x ∷ []) (byte_of n (n / 100) (n % 100) (omega arith))

two_bytes : (n : ℕ) → (16 * (n / 10 % 10) + n % 10) ∷ (16 * (n / 100 / 10 % 10) + n / 100 % 10) ∷ [] ≡ packed 2 (n % 10000)
unfolding packed
two_bytes n =
    ap₂ (λ (x y : ℕ). x ∷ y ∷ []) (byte_of n (100 * (n / 10000)) (n % 10000) (omega arith))
    (byte_of (n / 100) (n / 10000) (n % 10000 / 100) (omega arith))

-- before it
last_bytes : (n : ℕ) → packed 2 (n / 100 / 100) ≡ packed 2 (n / 10000)
last_bytes n = ap (packed 2) (div-div-eq-div-mul n 100 100)

listed : (a : CjtAnswer) → PlacesOf a (bytes_of_telegram (Answer a))
unfolding packed
listed a = record {
  cold_behind = first_byte a.cold.count;
  cold_before = refl;
  cold_unit = refl;
  heat_behind = first_byte a.heat.count;
  heat_before = refl;
  heat_unit = refl;
  power_behind = first_byte a.power.count;
  power_before = refl;
  power_unit = refl;
  flow_behind = two_bytes a.flow.count;
  flow_before = last_bytes a.flow.count;
  flow_unit = refl;
  volume_behind = first_byte a.volume.count;
  volume_before = refl;
  volume_unit = refl;
  inlet_behind = first_byte a.inlet;
  inlet_before = refl;
  outlet_behind = first_byte a.outlet;
  outlet_before = refl;
  hours = ap (packed 3) (sym (div-one a.hours));
  second = refl;
  minute = refl;
  hour = refl;
  day = refl;
  month = refl;
  year = refl;
  state = refl;
}

pub answer_line : AnswerLine
unfolding cjt_line_of packed
answer_line a = (bytes_of_telegram (Answer a), refl, refl, listed a, refl)

pub points_stand : PointsStand
points_stand = (refl, refl, refl, refl, refl, refl, λ code. omega arith)

-- ---- what can be written

heat_type_lem : (t : ℕ) → (heat_type t ≡ true) ↔ OfAType t
heat_type_lem t = (told, held)
  where
    both : (low high : ℕ) → between low high t ≡ true → (low ≤ t) × (t ≤ high)
    both low high e =
        let two = (and-eq-true_iff (leb low t) (leb t high)).0 e in
        (leb-true low t two.0, leb-true t high two.1)

    told : heat_type t ≡ true → OfAType t
    told e = by_test (between 0x20 0x23 t) (λ first. inl (both 0x20 0x23 first)) (λ other. inr (both 0x25 0x27 (rw other at e)))

    held : OfAType t → heat_type t ≡ true
    held (inl (l, h)) = rw (le-leb 0x20 t l, le-leb t 0x23 h)
    held (inr (l, h)) = rw (le-leb 0x25 t l, le-leb t 0x27 h) (or-true (between 0x20 0x23 t))

-- a code is one of a list
module _ (code : ℕ) where
  one_of : (test : Bool) (codes : List ℕ) → test ≡ any (eqb code) codes → (not test ≡ false) ↔ OneOf codes code
  one_of test codes same = (λ e. sym same ∙ not-false test e, λ e. rw (same ∙ e))

  energy_code_lem : (not (energy_code code) ≡ false) ↔ OneOf energy_codes code
  unfolding any
  energy_code_lem = one_of (energy_code code) energy_codes (simp (or_assoc, or-false))

  power_code_lem : (not (power_code code) ≡ false) ↔ OneOf (0x14 ∷ 0x17 ∷ 0x1A ∷ []) code
  unfolding any
  power_code_lem = one_of (power_code code) (0x14 ∷ 0x17 ∷ 0x1A ∷ []) (simp (or_assoc, or-false))

  flow_code_lem : (not (flow_code code) ≡ false) ↔ OneOf (0x32 ∷ 0x35 ∷ []) code
  unfolding any
  flow_code_lem = one_of (flow_code code) (0x32 ∷ 0x35 ∷ []) (simp or-false)

  volume_code_lem : (not (volume_code code) ≡ false) ↔ OneOf (0x29 ∷ 0x2C ∷ []) code
  unfolding any
  volume_code_lem = one_of (volume_code code) (0x29 ∷ 0x2C ∷ []) (simp or-false)

-- digits hold a number
fits : (n most : ℕ) → (not (ltb n most) ≡ false) ↔ (n < most)
fits n most = (λ e. ltb-true n most (not-false (ltb n most) e), λ h. rw (lt-ltb n most h))

-- five tests, and eight, all pass
all_five : (a b c d e : Bool) → ((a || b || c || d || e) ≡ false) ↔ ((a ≡ false) × (b ≡ false) × (c ≡ false) × (d ≡ false) × (e ≡ false))
all_five a b c d e = (told, λ (p, q, r, s, t). rw (p, q, r, s, t))
  where
    told : (a || b || c || d || e) ≡ false → (a ≡ false) × (b ≡ false) × (c ≡ false) × (d ≡ false) × (e ≡ false)
    told x =
        let four = neither (a || b || c || d) e x in
        let three = neither (a || b || c) d four.0 in
        let two = neither (a || b) c three.0 in
        let one = neither a b two.0 in
        (one.0, one.1, two.1, three.1, four.1)

all_eight : (a b c d e f g h : Bool) → ((a || b || c || d || e || f || g || h) ≡ false)
    ↔ (((a || b || c || d || e) ≡ false) × (f ≡ false) × (g ≡ false) × (h ≡ false))
all_eight a b c d e f g h = (told, λ (p, q, r, s). rw (p, q, r, s))
  where
    told : (a || b || c || d || e || f || g || h) ≡ false → ((a || b || c || d || e) ≡ false) × (f ≡ false) × (g ≡ false) × (h ≡ false)
    told x =
        let seven = neither (a || b || c || d || e || f || g) h x in
        let six = neither (a || b || c || d || e || f) g seven.0 in
        let five = neither (a || b || c || d || e) f six.0 in
        (five.0, five.1, six.1, seven.1)

-- the clock
module _ (c : CjtClock) where
  shown_time : (wrong_clock c ≡ false) → ShowsATime c
  shown_time e =
      let both = neither (not (day_exists c)) (not (hour_exists c)) e in
      let day-parts = (and-eq-true_iff (ltb c.year 10000 && (ltb 0 c.month && ltb c.month 13))
      (ltb 0 c.day && leb c.day (days_in c.year c.month))).0 (not-false (day_exists c) both.0) in
      let year-month = (and-eq-true_iff (ltb c.year 10000) (ltb 0 c.month && ltb c.month 13)).0 day-parts.0 in
      let months = (and-eq-true_iff (ltb 0 c.month) (ltb c.month 13)).0 year-month.1 in
      let days = (and-eq-true_iff (ltb 0 c.day) (leb c.day (days_in c.year c.month))).0 day-parts.1 in
      let time-parts = (and-eq-true_iff (ltb c.second 60 && ltb c.minute 60) (ltb c.hour 24)).0 (not-false (hour_exists c) both.1) in
      let short = (and-eq-true_iff (ltb c.second 60) (ltb c.minute 60)).0 time-parts.0 in
      let below : c.month < 13 = ltb-true c.month 13 months.1 in
      record {
        year = ltb-true c.year 10000 year-month.0;
        month = (ltb-true 0 c.month months.0, omega arith);
        day = (ltb-true 0 c.day days.0, leb-true c.day (days_in c.year c.month) days.1);
        hour = ltb-true c.hour 24 time-parts.1;
        minute = ltb-true c.minute 60 short.1;
        second = ltb-true c.second 60 short.0;
      }

  time_shown : ShowsATime c → wrong_clock c ≡ false
  time_shown t =
      let (first, last) = t.month in
      let (from, to) = t.day in
      rw (
        lt-ltb c.year 10000 t.year,
        lt-ltb 0 c.month first,
        lt-ltb c.month 13 (omega arith),
        lt-ltb 0 c.day from,
        le-leb c.day (days_in c.year c.month) to,
        lt-ltb c.second 60 t.second,
        lt-ltb c.minute 60 t.minute,
        lt-ltb c.hour 24 t.hour,
      )

module _ (a : CjtAnswer) where
  parts : (unwritten (Answer a) ≡ false) ↔ ((not (heat_type a.meter_type) ≡ false) × (over_fourteen a.address ≡ false) × (unwritten_counts a ≡ false)
      × (wrong_clock a.clock ≡ false) × (wrong_units a ≡ false))
  unfolding unwritten
  parts = all_five (not (heat_type a.meter_type)) (over_fourteen a.address) (unwritten_counts a) (wrong_clock a.clock) (wrong_units a)

  counts : (unwritten_counts a ≡ false) ↔ (((over_eight a.cold.count || over_eight a.heat.count || over_eight a.power.count
      || over_eight a.flow.count || over_eight a.volume.count) ≡ false)
      × (over_six a.inlet ≡ false) × (over_six a.outlet ≡ false) × (over_six a.hours ≡ false))
  counts =
      all_eight (over_eight a.cold.count) (over_eight a.heat.count) (over_eight a.power.count) (over_eight a.flow.count)
      (over_eight a.volume.count) (over_six a.inlet) (over_six a.outlet) (over_six a.hours)

  values : ((over_eight a.cold.count || over_eight a.heat.count || over_eight a.power.count
      || over_eight a.flow.count || over_eight a.volume.count) ≡ false)
      ↔ ((over_eight a.cold.count ≡ false) × (over_eight a.heat.count ≡ false) × (over_eight a.power.count ≡ false)
      × (over_eight a.flow.count ≡ false) × (over_eight a.volume.count ≡ false))
  values = all_five (over_eight a.cold.count) (over_eight a.heat.count) (over_eight a.power.count) (over_eight a.flow.count)
      (over_eight a.volume.count)

  units : (wrong_units a ≡ false) ↔ ((not (energy_code a.cold.code) ≡ false) × (not (energy_code a.heat.code) ≡ false)
      × (not (power_code a.power.code) ≡ false) × (not (flow_code a.flow.code) ≡ false) × (not (volume_code a.volume.code) ≡ false))
  units = all_five (not (energy_code a.cold.code)) (not (energy_code a.heat.code)) (not (power_code a.power.code))
      (not (flow_code a.flow.code)) (not (volume_code a.volume.code))

  tellable : unwritten (Answer a) ≡ false → Tellable a
  tellable e =
      let (t, n, c, k, u) = parts.0 e in
      let (v, i, o, h) = counts.0 c in
      let (cold, heat, power, flow, volume) = values.0 v in
      let (cold-code, heat-code, power-is, flow-is, volume-is) = units.0 u in
      record {
        type = (heat_type_lem a.meter_type).0 (not-false (heat_type a.meter_type) t);
        address = (fits a.address (10 ^ 14)).0 n;
        cold = ((fits a.cold.count (10 ^ 8)).0 cold, (energy_code_lem a.cold.code).0 cold-code);
        heat = ((fits a.heat.count (10 ^ 8)).0 heat, (energy_code_lem a.heat.code).0 heat-code);
        power = ((fits a.power.count (10 ^ 8)).0 power, (power_code_lem a.power.code).0 power-is);
        flow = ((fits a.flow.count (10 ^ 8)).0 flow, (flow_code_lem a.flow.code).0 flow-is);
        volume = ((fits a.volume.count (10 ^ 8)).0 volume, (volume_code_lem a.volume.code).0 volume-is);
        inlet = (fits a.inlet (10 ^ 6)).0 i;
        outlet = (fits a.outlet (10 ^ 6)).0 o;
        hours = (fits a.hours (10 ^ 6)).0 h;
        clock = shown_time a.clock k;
      }

  told : Tellable a → unwritten (Answer a) ≡ false
  told x = parts.1 (
    rw ((heat_type_lem a.meter_type).1 x.type),
    (fits a.address (10 ^ 14)).1 x.address,
    counts.1 (
      values.1 (
        (fits a.cold.count (10 ^ 8)).1 x.cold.0,
        (fits a.heat.count (10 ^ 8)).1 x.heat.0,
        (fits a.power.count (10 ^ 8)).1 x.power.0,
        (fits a.flow.count (10 ^ 8)).1 x.flow.0,
        (fits a.volume.count (10 ^ 8)).1 x.volume.0,
      ),
      (fits a.inlet (10 ^ 6)).1 x.inlet,
      (fits a.outlet (10 ^ 6)).1 x.outlet,
      (fits a.hours (10 ^ 6)).1 x.hours,
    ),
    time_shown a.clock x.clock,
    units.1 (
      (energy_code_lem a.cold.code).1 x.cold.1,
      (energy_code_lem a.heat.code).1 x.heat.1,
      (power_code_lem a.power.code).1 x.power.1,
      (flow_code_lem a.flow.code).1 x.flow.1,
      (volume_code_lem a.volume.code).1 x.volume.1,
    ),
  )

pub answers_written : AnswersWritten
answers_written a = (tellable a, told a)

pub requests_written : RequestsWritten
unfolding unwritten
requests_written q = (
  λ e. let both = neither (not (heat_type q.meter_type)) (unwritten_party q.address) e in
      ((heat_type_lem q.meter_type).0 (not-false (heat_type q.meter_type) both.0), (askable q.address).0 both.1),
  λ (t, k). rw ((heat_type_lem q.meter_type).1 t) ((askable q.address).1 k),
)
  where
    askable : (address : CjtAddress) → (unwritten_party address ≡ false) ↔ Askable address
    askable (Meter n) = fits n (10 ^ 14)
    askable Broadcast = (λ e. tt, λ k. refl)

pub all_differ : AllDiffer
unfolding read_cjt_line read_cjt_frame past_fe any odd ones_in carrier total digits_of cjt_line_of packed
all_differ = (refl, refl)
