-- 001's D1 to D43 both ways.
use Prim.Native.Nat.{ℕ, ◌+◌, ◌^◌, ◌<◌, ◌≤◌}
use native.Mathlib.Omega.{arith}
use mathlib.Core.Bool.{false, not, ◌&&◌}
use mathlib.Core.List.{List, [], ◌∷◌, ◌++◌}
use mathlib.Core.Path.{◌≡◌, refl, sym, ap, ap₂, subst, ◌∙◌}
use borrow.Author.Tests.{ltb-true, lt-ltb, leb-true, not-false}
use lib.Dec.{ltb, leb}
use lib.ListN.{length, drop, length-drop}
use lib.Seq.{length-take-le}
use Rattle.base_rules.specs.Lists.{at, any}
use Rattle.base_digits.specs.Digits.{over_nine, digits_of, packed}
use Rattle.base_calendar.specs.Months.{days_in}
use Rattle.base_rules.proofs.Laws.ByteLaws.{spell, spell_whole}
use Rattle.base_rules.proofs.Laws.ListLaws.{any_append}
use Rattle.base_digits.proofs.Laws.DigitLaws.{packed_digits, digits_below, digits_packed, packed_right}
use Rattle.base_calendar.proofs.Laws.Months.{days_below}
use Rattle.base_rules.proofs.Laws.TestLaws.{none, every}
use Rattle.base_rules.proofs.Laws.Tests.{none_at}
use Rattle.cjt_rules.specs.declared.CjtClock.{CjtClock}
use Rattle.cjt_rules.specs.declared.CjtQuantity.{CjtQuantity}
use Rattle.cjt_rules.specs.declared.CjtAnswer.{CjtAnswer}
use Rattle.cjt_rules.specs.CjtClocks.{clock_of, day_exists, hour_exists, wrong_clock}
use Rattle.cjt_rules.specs.CjtLines.{listed_bytes, part, value_from, tells_with, wrong_part, wrong_listed}
use Rattle.cjt_rules.specs.CjtWriting.{bytes_of_quantity, bytes_of_clock, bytes_listed, over_eight, over_six, unwritten_counts}
use Rattle.cjt_rules.proofs.Laws.FrameParts.{join}

-- ---- from bytes to values and back

-- digits that are all there
pub digits_back : (place width : ℕ) (d : List ℕ) → place + width ≤ length d → wrong_part place width d ≡ false
    → packed width (digits_of (part place width d)) ≡ part place width d
digits_back place width d h e =
    let n : length (part place width d) ≡ width = length-take-le width (drop place d) (rw (length-drop place d) (omega arith)) in
    ap (λ (k : ℕ). packed k (digits_of (part place width d))) (sym n) ∙ packed_digits (part place width d) e

-- four bytes of digits, and the code behind them
value_back : (place : ℕ) (d : List ℕ) → place + 5 ≤ length d → wrong_part place 4 d ≡ false → bytes_of_quantity (value_from place d) ≡ part place 5 d
value_back place d h e =
    let code : part (place + 4) 1 d ≡ at d (place + 4) ∷ [] = spell 1 (place + 4) d (omega arith) in
    ap₂ (λ (x y : List ℕ). x ++ y) (digits_back place 4 d (omega arith) e) (sym code) ∙ sym (join place 4 1 d)

module _ (c : List ℕ) (seven : length c ≡ 7) (right : any over_nine c ≡ false) where
  -- two digits at a place
  two_back : (i : ℕ) → i < 7 → packed 1 (digits_of (at c i ∷ [])) ≡ at c i ∷ []
  unfolding any
  two_back i h = packed_digits (at c i ∷ []) (rw (none_at over_nine c 0 i right (omega arith)))

  year_back : packed 2 (digits_of (at c 5 ∷ at c 6 ∷ [])) ≡ at c 5 ∷ at c 6 ∷ []
  unfolding any
  year_back = packed_digits (at c 5 ∷ at c 6 ∷ []) (rw (none_at over_nine c 0 5 right (omega arith), none_at over_nine c 0 6 right (omega arith)))

  pub clock_back : bytes_of_clock (clock_of c) ≡ c
  clock_back =
      rw (two_back 0 (omega arith), two_back 1 (omega arith), two_back 2 (omega arith), two_back 3 (omega arith), two_back 4 (omega arith), year_back)
      (sym (spell_whole 7 c seven))

-- one part behind another
abbrev joined : List ℕ → List ℕ → List ℕ
joined x y = x ++ y

-- the widths of D1 to D43
cut : (d : List ℕ)
    → part 0 43 d
    ≡ part 0 5 d ++ (part 5 5 d ++ (part 10 5 d ++ (part 15 5 d ++ (part 20 5 d ++ (part 25 3 d ++ (part 28 3 d ++ (part 31 3 d
    ++ (part 34 7 d ++ part 41 2 d))))))))
cut d =
    join 0 5 38 d ∙ ap (joined (part 0 5 d)) (join 5 5 33 d ∙ ap (joined (part 5 5 d)) (join 10 5 28 d ∙ ap (joined (part 10 5 d)) (join 15 5 23 d
    ∙ ap (joined (part 15 5 d)) (join 20 5 18 d ∙ ap (joined (part 20 5 d)) (join 25 3 15 d ∙ ap (joined (part 25 3 d)) (join 28 3 12 d
    ∙ ap (joined (part 28 3 d)) (join 31 3 9 d ∙ ap (joined (part 31 3 d)) (join 34 7 2 d))))))))

-- The tests of 84 one by one.
pub record ListedRight (d : List ℕ) : Type 0 where
  pub cold : wrong_part 0 4 d ≡ false
  pub heat : wrong_part 5 4 d ≡ false
  pub power : wrong_part 10 4 d ≡ false
  pub flow : wrong_part 15 4 d ≡ false
  pub volume : wrong_part 20 4 d ≡ false
  pub inlet : wrong_part 25 3 d ≡ false
  pub outlet : wrong_part 28 3 d ≡ false
  pub hours : wrong_part 31 3 d ≡ false
  pub digits : wrong_part 34 7 d ≡ false
  pub clock : wrong_clock (clock_of (part 34 7 d)) ≡ false

pub listed_right : (d : List ℕ) → wrong_listed d ≡ false → ListedRight d
listed_right d e =
    let k = none (wrong_part 0 4 d)
    (wrong_part 5 4 d ∷ wrong_part 10 4 d ∷ wrong_part 15 4 d ∷ wrong_part 20 4 d ∷ wrong_part 25 3 d ∷ wrong_part 28 3 d ∷ wrong_part 31 3 d
    ∷ wrong_part 34 7 d ∷ wrong_clock (clock_of (part 34 7 d)) ∷ []) e in
    record {
      cold = k.0;
      heat = k.1.0;
      power = k.1.1.0;
      flow = k.1.1.1.0;
      volume = k.1.1.1.1.0;
      inlet = k.1.1.1.1.1.0;
      outlet = k.1.1.1.1.1.1.0;
      hours = k.1.1.1.1.1.1.1.0;
      digits = k.1.1.1.1.1.1.1.1.0;
      clock = k.1.1.1.1.1.1.1.1.1.0;
    }

-- D1 to D43 of what 84 leaves
pub listed_back : (b : List ℕ) → 43 ≤ length (listed_bytes b) → wrong_listed (listed_bytes b) ≡ false → bytes_listed (tells_with b) ≡ part 0 43 (listed_bytes b)
listed_back b h e =
    let d : List ℕ = listed_bytes b in
    let k : ListedRight d = listed_right d e in
    let seven : length (part 34 7 d) ≡ 7 = length-take-le 7 (drop 34 d) (rw (length-drop 34 d) (omega arith)) in
    let state : part 41 2 d ≡ at d 41 ∷ at d 42 ∷ [] = spell 2 41 d (omega arith) in
    let values : bytes_listed (tells_with b)
    ≡ part 0 5 d ++ (part 5 5 d ++ (part 10 5 d ++ (part 15 5 d ++ (part 20 5 d ++ (part 25 3 d ++ (part 28 3 d ++ (part 31 3 d
    ++ (part 34 7 d ++ part 41 2 d)))))))) =
    ap₂ joined (value_back 0 d (omega arith) k.cold) (ap₂ joined (value_back 5 d (omega arith) k.heat)
    (ap₂ joined (value_back 10 d (omega arith) k.power) (ap₂ joined (value_back 15 d (omega arith) k.flow)
    (ap₂ joined (value_back 20 d (omega arith) k.volume) (ap₂ joined (digits_back 25 3 d (omega arith) k.inlet)
    (ap₂ joined (digits_back 28 3 d (omega arith) k.outlet) (ap₂ joined (digits_back 31 3 d (omega arith) k.hours)
    (ap₂ joined (clock_back (part 34 7 d) seven k.digits) (sym state))))))))) in
    values ∙ sym (cut d)

-- digits that are read can be written
below : (place width : ℕ) (d : List ℕ) → place + width ≤ length d → wrong_part place width d ≡ false → digits_of (part place width d) < 100 ^ width
below place width d h e =
    let n : length (part place width d) ≡ width = length-take-le width (drop place d) (rw (length-drop place d) (omega arith)) in
    subst (λ (k : ℕ). digits_of (part place width d) < 100 ^ k) n (digits_below (part place width d) e)

eight_read : (place : ℕ) (d : List ℕ) → place + 4 ≤ length d → wrong_part place 4 d ≡ false → over_eight (digits_of (part place 4 d)) ≡ false
eight_read place d h e = ap not (lt-ltb (digits_of (part place 4 d)) 100000000 (below place 4 d h e))

six_read : (place : ℕ) (d : List ℕ) → place + 3 ≤ length d → wrong_part place 3 d ≡ false → over_six (digits_of (part place 3 d)) ≡ false
six_read place d h e = ap not (lt-ltb (digits_of (part place 3 d)) 1000000 (below place 3 d h e))

pub listed_counts : (b : List ℕ) → 43 ≤ length (listed_bytes b) → wrong_listed (listed_bytes b) ≡ false → unwritten_counts (tells_with b) ≡ false
listed_counts b h e =
    let d : List ℕ = listed_bytes b in
    let k : ListedRight d = listed_right d e in
    rw (
      eight_read 0 d (omega arith) k.cold,
      eight_read 5 d (omega arith) k.heat,
      eight_read 10 d (omega arith) k.power,
      eight_read 15 d (omega arith) k.flow,
      eight_read 20 d (omega arith) k.volume,
      six_read 25 d (omega arith) k.inlet,
      six_read 28 d (omega arith) k.outlet,
      six_read 31 d (omega arith) k.hours,
    )

-- ---- from values to bytes and back

-- the digits of a value at a place, and its code behind them
abbrev ValueAt : ℕ → CjtQuantity → List ℕ → Type 0
ValueAt place q d = (part place 4 d ≡ packed 4 q.count) × (at d (place + 4) ≡ q.code)

pub record Listed (a : CjtAnswer) (d : List ℕ) : Type 0 where
  pub cold : ValueAt 0 a.cold d
  pub heat : ValueAt 5 a.heat d
  pub power : ValueAt 10 a.power d
  pub flow : ValueAt 15 a.flow d
  pub volume : ValueAt 20 a.volume d
  pub inlet : part 25 3 d ≡ packed 3 a.inlet
  pub outlet : part 28 3 d ≡ packed 3 a.outlet
  pub hours : part 31 3 d ≡ packed 3 a.hours
  pub clock : part 34 7 d ≡ bytes_of_clock a.clock
  pub first : at d 41 ≡ a.first_state
  pub second : at d 42 ≡ a.second_state

pub listed : (a : CjtAnswer) (rest : List ℕ) → Listed a (bytes_listed a ++ rest)
unfolding packed
listed a rest = record {
  cold = (refl, refl);
  heat = (refl, refl);
  power = (refl, refl);
  flow = (refl, refl);
  volume = (refl, refl);
  inlet = refl;
  outlet = refl;
  hours = refl;
  clock = refl;
  first = refl;
  second = refl;
}

pub listed_length : (a : CjtAnswer) → length (bytes_listed a) ≡ 43
unfolding packed
listed_length a = refl

module _ (place width n : ℕ) (d : List ℕ) (e : part place width d ≡ packed width n) where
  pub part_right : wrong_part place width d ≡ false
  part_right = ap (any over_nine) e ∙ packed_right width n

  pub part_read : n < 100 ^ width → digits_of (part place width d) ≡ n
  part_read h = ap digits_of e ∙ digits_packed width n h

pub eight : (n : ℕ) → over_eight n ≡ false → n < 100 ^ 4
eight n e = ltb-true n 100000000 (not-false _ e)

pub six : (n : ℕ) → over_six n ≡ false → n < 100 ^ 3
six n e = ltb-true n 1000000 (not-false _ e)

pub value_read : (place : ℕ) (q : CjtQuantity) (d : List ℕ) → ValueAt place q d → over_eight q.count ≡ false → value_from place d ≡ q
value_read place q d v h = λ i. record { count = part_read place 4 q.count d v.0 (eight q.count h) i; code = v.1 i }

-- what the rules say of the numbers of a clock
pub record Shows (c : CjtClock) : Type 0 where
  pub year : c.year < 10000
  pub month : c.month < 13
  pub day : c.day ≤ 31
  pub hour : c.hour < 24
  pub minute : c.minute < 60
  pub second : c.second < 60

pub clock_shows : (c : CjtClock) → wrong_clock c ≡ false → Shows c
clock_shows c e =
    let w = none (not (day_exists c)) (not (hour_exists c) ∷ []) e in
    let k = every (ltb c.year 10000) ((ltb 0 c.month && ltb c.month 13) ∷ (ltb 0 c.day && leb c.day (days_in c.year c.month)) ∷ [])
    (not-false (day_exists c) w.0) in
    let month = every (ltb 0 c.month) (ltb c.month 13 ∷ []) k.1.0 in
    let day = every (ltb 0 c.day) (leb c.day (days_in c.year c.month) ∷ []) k.1.1.0 in
    let time = every (ltb c.second 60) (ltb c.minute 60 ∷ ltb c.hour 24 ∷ []) (not-false (hour_exists c) w.1.0) in
    let most : days_in c.year c.month ≤ 31 = days_below c.year c.month in
    omega (arith, ltb-true, leb-true)

pub clock_read : (c : CjtClock) → wrong_clock c ≡ false → clock_of (bytes_of_clock c) ≡ c
unfolding packed
clock_read c e =
    let s : Shows c = clock_shows c e in
    let year = digits_packed 2 c.year s.year in
    let month = digits_packed 1 c.month (omega (arith, s.month)) in
    let day = digits_packed 1 c.day (omega (arith, s.day)) in
    let hour = digits_packed 1 c.hour (omega (arith, s.hour)) in
    let minute = digits_packed 1 c.minute (omega (arith, s.minute)) in
    let second = digits_packed 1 c.second (omega (arith, s.second)) in
    λ i. record { year = year i; month = month i; day = day i; hour = hour i; minute = minute i; second = second i }

pub clock_right : (c : CjtClock) → any over_nine (bytes_of_clock c) ≡ false
clock_right c =
    go (packed 1 c.second) _ (packed_right 1 c.second) (go (packed 1 c.minute) _ (packed_right 1 c.minute)
    (go (packed 1 c.hour) _ (packed_right 1 c.hour) (go (packed 1 c.day) _ (packed_right 1 c.day)
    (go (packed 1 c.month) (packed 2 c.year) (packed_right 1 c.month) (packed_right 2 c.year)))))
  where
    go : (s t : List ℕ) → any over_nine s ≡ false → any over_nine t ≡ false → any over_nine (s ++ t) ≡ false
    go s t h k = any_append over_nine s t ∙ rw (h, k)
