-- 02, "Setting the resistance box": every answer between degrees, and which resistances are answered.
use Rattle.std.specs.Prelude.{ℕ, ◌+◌, ◌-◌, ◌*◌, ◌≤◌, ◌<◌, ◌≡◌, get_or}
use Rattle.base_rules.specs.Answers.{reads, refusal}
use Rattle.base_numbers.specs.Rounding.{NearestUp}
use Rattle.bench_resistance.specs.Resistances.{card}
use Rattle.bench_resistance.specs.Resistances.{temperature_of}
use Rattle.bench_resistance.specs.Resistances.{resistance_of}

-- Every temperature from 0 to 200 °C is answered: so many hundredths on from a whole degree, the next one included, no number of milliohm is
-- nearer to the straight line between the two that are stored, and of two as near it is the higher.
abbrev pub LineBetweenStored : Type 0
LineBetweenStored = (degree rest : ℕ) → degree < 200 → rest ≤ 100
    → (milliohm : ℕ) × (resistance_of (100 * degree + rest) ≡ reads milliohm)
    × NearestUp (get_or card degree 0 * (100 - rest) + get_or card (degree + 1) 0 * rest) 100 milliohm

-- Every temperature over 200 °C is refused by 90.
abbrev pub TooHigh : Type 0
TooHigh = (h : ℕ) → 20000 < h → resistance_of h ≡ refusal 90

-- Every resistance from the first that is stored to the last is answered, by the highest hundredth whose answer is not above it.
abbrev pub EachResistance : Type 0
EachResistance = (milliohm : ℕ) → get_or card 0 0 ≤ milliohm → milliohm ≤ get_or card 200 0
    → (h : ℕ) × (temperature_of milliohm ≡ reads h) × (h ≤ 20000)
    × ((r : ℕ) × (resistance_of h ≡ reads r) × (r ≤ milliohm))
    × ((k r : ℕ) → resistance_of k ≡ reads r → r ≤ milliohm → k ≤ h)

-- Each below the first and above the last is refused by 91.
abbrev pub OffTheCard : Type 0
OffTheCard = ((milliohm : ℕ) → milliohm < get_or card 0 0 → temperature_of milliohm ≡ refusal 91)
    × ((milliohm : ℕ) → get_or card 200 0 < milliohm → temperature_of milliohm ≡ refusal 91)
