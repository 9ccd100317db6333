-- 02, "Setting the resistance box": what holds of the card, of every answer, and of the other way round.
use Rattle.std.specs.Prelude.{ℕ, ◌+◌, ◌*◌, ◌^◌, ◌≤◌, ◌<◌, ◌≡◌, length, get_or}
use Rattle.base_rules.specs.Answers.{reads, refusal}
use Rattle.base_numbers.specs.Rounding.{apart, NearestUp}
use Rattle.bench_resistance.specs.Resistances.{exact, parts_of_one, card, resistance, resistance_of, hundredths_most, temperature_of}

-- Up to 200 °C the rule is a whole number of parts of a milliohm, and its difference does not go below 0.
abbrev pub RuleIsWhole : Type 0
RuleIsWhole = (h : ℕ) → h ≤ hundredths_most → exact h + 5775 * (h * h) ≡ 10 ^ 14 + 39083 * 10 ^ 5 * h

-- The card stores 201 resistances: for each whole degree no number of milliohm is nearer to the rule, and of two as near it is the higher.
abbrev pub CardIsTheRule : Type 0
CardIsTheRule = (length card ≡ 201) × ((degree : ℕ) → degree < 201 → NearestUp (exact (100 * degree)) parts_of_one (get_or card degree 0))

-- Every answer is less than 2 milliohm from the exact value.
abbrev pub AnswersAreNear : Type 0
AnswersAreNear = (h : ℕ) → h ≤ hundredths_most → apart (exact h) (resistance h * parts_of_one) < 2 * parts_of_one

-- A higher temperature has a higher resistance.
abbrev pub AnswersRise : Type 0
AnswersRise = (h k : ℕ) → h < k → k ≤ hundredths_most → resistance h < resistance k

-- The temperature for a temperature's resistance is that temperature.
abbrev pub ThereAndBack : Type 0
ThereAndBack = (h : ℕ) → h ≤ hundredths_most → temperature_of (resistance h) ≡ reads h

-- What is answered for a resistance is a hundredth whose answer is not above it, and no higher one is such a hundredth.
abbrev pub TheHighest : Type 0
TheHighest =
    (milliohm h : ℕ) → temperature_of milliohm ≡ reads h
    → (h ≤ hundredths_most) × (resistance h ≤ milliohm) × ((k : ℕ) → k ≤ hundredths_most → resistance k ≤ milliohm → k ≤ h)

-- 02's values, 0.19 °C on the line between stored resistances, and the edges
abbrev pub ResistanceValues : Type 0
ResistanceValues =
    (resistance_of 0 ≡ reads 1000000)
    × (resistance_of 100 ≡ reads 1003908)
    × (resistance_of 10000 ≡ reads 1385055)
    × (resistance_of 19 ≡ reads 1000743)
    × (resistance_of 20000 ≡ reads 1758560)
    × (resistance_of 20001 ≡ refusal 90)
    × (temperature_of 999999 ≡ refusal 91)
    × (temperature_of 1758561 ≡ refusal 91)
