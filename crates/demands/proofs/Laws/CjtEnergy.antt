-- Proofs of the statements of specs/CjtEnergy.
use Prim.Native.Nat.{ℕ, ◌*◌, ◌%◌, ◌^◌, ◌≤◌, ◌<◌}
use mathlib.Core.Bool.{false}
use mathlib.Core.Path.{◌≡◌, refl, subst}
use lib.Dec.{ltb}
use lib.IntN.{pos}
use Rattle.mbus_rules.specs.declared.Entry.{Entry}
use Rattle.mbus_rules.specs.declared.Value.TheVariants.{Number}
use Rattle.base_rules.specs.Answers.{reads}
use Rattle.mbus_rules.specs.Quantities.{quantity_of, power_of}
use Rattle.mbus_rules.specs.Writing.{wrong_entry}
use Rattle.base_numbers.specs.Rounding.{apart}
use Rattle.cjt_rules.specs.declared.CjtQuantity.{CjtQuantity}
use Rattle.cjt_rules.specs.CjtUnits.{watt_hours}
use Rattle.cjt_energy.specs.Energies.{code_power, unit_for, last_power, entry_power, entry_for, unit_of_kind}
use Rattle.cjt_energy.proofs.Laws.Meaning.{entry_of, turned_by, value_same, ten_digits, not_exact, is_not_exact, kind_kept, unit_nearest}
use Rattle.cjt_energy.proofs.Laws.Meaning.{energy_stands, is_turned, Energetic, read_energies}
use Rattle.demands.specs.CjtEnergy.{CodesAsPowers, UnitBytesAsPowers, ValueIsKept, KindIsKept, UnitIsNearest, JoulesWithDecimals}
use Rattle.demands.specs.CjtEnergy.{OnlyJoulesWithDecimals, OthersAreTurned, EnergiesOfALine, TenDigitsAtMost, StandsInData, EnergyValues}

pub codes_as_powers : CodesAsPowers
unfolding code_power
codes_as_powers = (refl, refl, refl, refl, refl, refl, refl, refl, refl)

pub unit_bytes_as_powers : UnitBytesAsPowers
unfolding power_of quantity_of
unit_bytes_as_powers = (refl, refl, refl, refl, refl, refl, refl, refl, refl, refl, refl, refl, refl, refl, refl, refl)

pub value_is_kept : ValueIsKept
value_is_kept count code e h =
    let t = turned_by count code e h in
    subst (λ (x : Entry). (n : ℕ) × (x.value ≡ Number (record { count = pos n })) × (n * 10 ^ entry_power x.unit ≡ count * 10 ^ last_power code))
    t.so (_, refl, value_same count code t.exact)

pub kind_is_kept : KindIsKept
kind_is_kept count code e h =
    let t = turned_by count code e h in
    subst (λ (x : Entry). (x.unit < 16) × (ltb x.unit 0x08 ≡ watt_hours code)) t.so (kind_kept code t.known)

pub unit_is_nearest : UnitIsNearest
unit_is_nearest count code e h n l =
    let t = turned_by count code e h in
    subst (λ (x : Entry). apart (last_power code) (entry_power x.unit) ≤ apart (last_power code) (entry_power (unit_of_kind code n))) t.so
    (unit_nearest code n t.known l)

pub joules_with_decimals : JoulesWithDecimals
joules_with_decimals = is_not_exact

pub only_joules_with_decimals : OnlyJoulesWithDecimals
only_joules_with_decimals = not_exact

pub others_are_turned : OthersAreTurned
others_are_turned count code h k d = (entry_of count code, is_turned count code h k d)

-- and so have cold and heat of every accepted line.
turned_unless : (q : CjtQuantity) → Energetic q → (q.code ≡ 0x01 → q.count % 100 ≡ 0) → (e : Entry) × (entry_for q.count q.code ≡ reads e)
turned_unless q g d = others_are_turned q.count q.code g.few g.known d

pub energies_of_a_line : EnergiesOfALine
energies_of_a_line s a e =
    let both = read_energies s a e in
    (turned_unless a.cold both.0, turned_unless a.heat both.1)

pub ten_digits_at_most : TenDigitsAtMost
ten_digits_at_most count code e h =
    let t = turned_by count code e h in
    subst (λ (x : Entry). (x.structure ≡ 0x0E) × ((n : ℕ) × (x.value ≡ Number (record { count = pos n })) × (n < 10 ^ 10)))
    t.so (refl, (_, refl, ten_digits count code t.few t.known))

pub stands_in_data : StandsInData
stands_in_data count code e h =
    let t = turned_by count code e h in
    subst (λ (x : Entry). wrong_entry x ≡ false) t.so (energy_stands count code t.few t.known)

pub energy_values : EnergyValues
unfolding entry_for unit_for code_power
energy_values = (refl, refl, refl, refl, refl, refl, refl, refl)
