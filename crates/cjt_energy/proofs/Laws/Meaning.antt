-- What an energy value means as a number is what its entry means; when there is none; and that the entry can stand in a data telegram.
use Prim.Native.Nat.{ℕ, ◌*◌, ◌/◌, ◌%◌, ◌^◌, ◌≤◌, ◌<◌}
use mathlib.Core.Bool.{Bool, true, false, not, and-eq-true_iff}
use mathlib.Core.List.{List, [], ◌∷◌}
use mathlib.Core.Path.{◌≡◌, refl, sym, ◌∙◌}
use native.Mathlib.Nat.{div-add-mod'}
use native.Mathlib.Omega.{arith}
use borrow.Author.Tests.{eqb-true, eqb-false, eq-eqb, ne_eqb, lt-ltb, ltb-true, leb-true, not-true, not-false}
use lib.Dec.{ltb, leb, eqb}
use lib.IntN.{pos}
use Rattle.mbus_rules.specs.declared.Entry.{Entry}
use Rattle.mbus_rules.specs.declared.Value.TheVariants.{Number}
use Rattle.base_rules.specs.Answers.{reads, refusal, refuse}
use Rattle.mbus_rules.specs.Quantities.{quantity_of, width_of, paired, energy}
use Rattle.mbus_rules.specs.Writing.{wrong_entry}
use Rattle.base_rules.proofs.Laws.AnswerLaws.{reads_same}
use Rattle.base_rules.proofs.Laws.Tests.{by_test, passed, below}
use Rattle.base_rules.proofs.Laws.TestLaws.{none}
use Rattle.base_numbers.specs.Rounding.{apart}
use Rattle.cjt_rules.specs.declared.CjtAnswer.{CjtAnswer}
use Rattle.cjt_rules.specs.declared.CjtQuantity.{CjtQuantity}
use Rattle.cjt_rules.specs.declared.CjtTelegram.TheVariants as telegrams
use Rattle.cjt_rules.specs.CjtAddresses.{heat_type}
use Rattle.cjt_rules.specs.CjtClocks.{wrong_clock}
use Rattle.cjt_rules.specs.CjtLines.{read_cjt_line}
use Rattle.cjt_rules.specs.CjtUnits.{watt_hours, energy_code, power_code, flow_code, volume_code, wrong_units}
use Rattle.cjt_rules.specs.CjtWriting.{over_fourteen, over_eight, over_six, unwritten_counts, unwritten}
use Rattle.cjt_rules.proofs.Laws.RoundTrip.{read_then_write}
use Rattle.cjt_energy.specs.Energies.{code_power, unit_for, unit_of_kind, last_power, entry_power, code_digit, entry_digit, entry_for}
use Rattle.cjt_energy.proofs.Laws.Energies.{by_code, count_small, rest_found}

-- the count of the entry
abbrev turned : ℕ → ℕ → ℕ
turned count code = count * code_digit code / entry_digit (unit_for code)

abbrev pub entry_of : ℕ → ℕ → Entry
entry_of count code = record { structure = 0x0E; unit = unit_for code; value = Number (record { count = pos (turned count code) }) }

-- What an accepted value passed, and its entry.
pub record Turned (count code : ℕ) (e : Entry) : Type 0 where
  pub few : count < 100000000
  pub known : energy_code code ≡ true
  pub exact : count * code_digit code % entry_digit (unit_for code) ≡ 0
  pub so : entry_of count code ≡ e

pub turned_by : (count code : ℕ) (e : Entry) → entry_for count code ≡ reads e → Turned count code e
unfolding entry_for
turned_by count code e h =
    let rest : Bool = not (eqb (count * code_digit code % entry_digit (unit_for code)) 0) in
    let p = passed 84 (over_eight count) (refuse 85 (not (energy_code code)) (refuse 86 rest (reads (entry_of count code)))) e h in
    let q = passed 85 (not (energy_code code)) (refuse 86 rest (reads (entry_of count code))) e p.1 in
    let r = passed 86 rest (reads (entry_of count code)) e q.1 in
    record {
      few = ltb-true count 100000000 (not-false (ltb count 100000000) p.0);
      known = not-false (energy_code code) q.0;
      exact = eqb-true (count * code_digit code % entry_digit (unit_for code)) 0 (not-false _ r.0);
      so = reads_same r.1;
    }

-- The exact value is kept.
pub value_same : (count code : ℕ) → count * code_digit code % entry_digit (unit_for code) ≡ 0 → turned count code * entry_digit
    (unit_for code) ≡ count * code_digit code
value_same count code z =
    let whole = div-add-mod' (count * code_digit code) (entry_digit (unit_for code)) in
    omega (arith, whole, z)

-- It has at most ten digits.
pub ten_digits : (count code : ℕ) → count < 100000000 → energy_code code ≡ true → turned count code < 10000000000
ten_digits count code h k = omega (arith, count_small count code k)

-- ---- 86, and only then

third : (a b c : Bool) (e : Entry) → refuse 84 a (refuse 85 b (refuse 86 c (reads e))) ≡ refusal 86 → (a ≡ false) × (b ≡ false) × (c ≡ true)
third true b c e h = let z : ◌≡◌ {A = ℕ} 84 86 = cc in absurd (omega arith)
third false true c e h = let z : ◌≡◌ {A = ℕ} 85 86 = cc in absurd (omega arith)
third false false true e h = (refl, refl, refl)
third false false false e h = let z : ◌≡◌ {A = ℕ} 0 1 = cc in absurd (omega arith)

pub not_exact : (count code : ℕ) → entry_for count code ≡ refusal 86 → (count < 100000000) × (code ≡ 0x01) × (count % 100 ≡ 0 → ⊥)
unfolding entry_for
not_exact count code h =
    let rest : Bool = not (eqb (count * code_digit code % entry_digit (unit_for code)) 0) in
    let p = third (over_eight count) (not (energy_code code)) rest (entry_of count code) h in
    let both = (and-eq-true_iff (eqb code 0x01) (not (eqb (count % 100) 0))).0 (rest_found count code (not-false (energy_code code) p.1) ∙ p.2) in (
      ltb-true count 100000000 (not-false (ltb count 100000000) p.0),
      eqb-true code 0x01 both.0,
      eqb-false (count % 100) 0 (not-true (eqb (count % 100) 0) both.1),
    )

pub is_not_exact : (count : ℕ) → count < 100000000 → (count % 100 ≡ 0 → ⊥) → entry_for count 0x01 ≡ refusal 86
unfolding entry_for
is_not_exact count h n =
    let rest : not (eqb (count * code_digit 0x01 % entry_digit (unit_for 0x01)) 0) ≡ true =
    sym (rest_found count 0x01 refl) ∙ rw (ne_eqb (count % 100) 0 n) in
    rw (lt-ltb count 100000000 h, rest)

-- ---- the unit byte

-- Wh kinds have 00–07, J kinds 08–0F
pub kind_kept : (code : ℕ) → energy_code code ≡ true → (unit_for code < 16) × (ltb (unit_for code) 0x08 ≡ watt_hours code)
unfolding code_power unit_for
kind_kept code =
    by_code (λ (k : ℕ). (unit_for k < 16) × (ltb (unit_for k) 0x08 ≡ watt_hours k))
    (omega arith, refl) (omega arith, refl) (omega arith, refl) (omega arith, refl) (omega arith, refl) (omega arith, refl) (omega arith, refl)
    (omega arith, refl) (omega arith, refl) code

abbrev nearer : ℕ → ℕ → Bool
nearer code n = leb (apart (last_power code) (entry_power (unit_for code))) (apart (last_power code) (entry_power (unit_of_kind code n)))

-- no unit byte of the kind has a power nearer to that of the last digit
pub unit_nearest : (code n : ℕ) → energy_code code ≡ true → n < 8
    → apart (last_power code) (entry_power (unit_for code)) ≤ apart (last_power code) (entry_power (unit_of_kind code n))
unfolding code_power unit_for
unit_nearest code n k h =
    leb-true (apart (last_power code) (entry_power (unit_for code))) (apart (last_power code) (entry_power (unit_of_kind code n)))
    (by_code (λ (c : ℕ). nearer c n ≡ true)
    (below 8 (nearer 0x01) refl n h) (below 8 (nearer 0x02) refl n h) (below 8 (nearer 0x05) refl n h) (below 8 (nearer 0x08) refl n h)
    (below 8 (nearer 0x0A) refl n h) (below 8 (nearer 0x0B) refl n h) (below 8 (nearer 0x0E) refl n h) (below 8 (nearer 0x11) refl n h)
    (below 8 (nearer 0x13) refl n h) code k)

-- ---- in a data telegram

stands : (u n : ℕ) → u < 16 → n < 1000000000000 → wrong_entry (record { structure = 0x0E; unit = u; value = Number (record { count = pos n }) }) ≡ false
unfolding paired quantity_of width_of
stands u n h k =
    rw (ne_eqb u 0x6D (λ e. omega arith), eqb-true (quantity_of u) energy (below 16 (λ v. eqb (quantity_of v) energy) refl u h), lt-ltb n (100 ^ 6) (omega arith))

pub energy_stands : (count code : ℕ) → count < 100000000 → energy_code code ≡ true → wrong_entry (entry_of count code) ≡ false
energy_stands count code h known =
    stands (unit_for code) (turned count code) (kind_kept code known).0 (omega (arith, ten_digits count code h known))

-- ---- every other value has its entry

pub is_turned : (count code : ℕ) → count < 100000000 → energy_code code ≡ true → (code ≡ 0x01 → count % 100 ≡ 0)
    → entry_for count code ≡ reads (entry_of count code)
unfolding entry_for
is_turned count code h k d =
    let rest : not (eqb (count * code_digit code % entry_digit (unit_for code)) 0) ≡ false =
    sym (rest_found count code k)
    ∙ by_test (eqb code 0x01) (λ e. rw (e, eq-eqb (count % 100) 0 (d (eqb-true code 0x01 e)))) (λ e. rw e) in
    rw (lt-ltb count 100000000 h, k, rest)

-- An accepted line's cold and heat have eight digits and a code of energy.
pub record Energetic (q : CjtQuantity) : Type 0 where
  pub few : q.count < 100000000
  pub known : energy_code q.code ≡ true

energetic : (q : CjtQuantity) → over_eight q.count ≡ false → not (energy_code q.code) ≡ false → Energetic q
energetic q e f =
    record { few = ltb-true q.count 100000000 (not-false (ltb q.count 100000000) e); known = not-false (energy_code q.code) f }

pub read_energies : (s : List ℕ) (a : CjtAnswer) → read_cjt_line s ≡ reads (telegrams.Answer a) → Energetic a.cold × Energetic a.heat
unfolding unwritten
read_energies s a e =
    let w : unwritten (telegrams.Answer a) ≡ false = (read_then_write s (telegrams.Answer a) e).writable in
    let p = none (not (heat_type a.meter_type))
    (over_fourteen a.address ∷ unwritten_counts a ∷ wrong_clock a.clock ∷ wrong_units a ∷ []) w in
    let c = none (over_eight a.cold.count) (over_eight a.heat.count ∷ over_eight a.power.count ∷ over_eight a.flow.count
    ∷ over_eight a.volume.count ∷ over_six a.inlet ∷ over_six a.outlet ∷ over_six a.hours ∷ []) p.1.1.0 in
    let u = none (not (energy_code a.cold.code)) (not (energy_code a.heat.code) ∷ not (power_code a.power.code)
    ∷ not (flow_code a.flow.code) ∷ not (volume_code a.volume.code) ∷ []) p.1.1.1.1.0 in
    (energetic a.cold c.0 u.0, energetic a.heat c.1.0 u.1.0)
