-- 02, "Setting the resistance box": IEC 60751's rule for 0 to 200 °C, the card's 201 resistances, the straight line between degrees,
-- and the other way round. Temperatures are hundredths of a degree.
use Rattle.std.specs.Prelude.{ℕ, zero, suc, ◌+◌, ◌-◌, ◌*◌, ◌/◌, ◌%◌, ◌^◌, Bool, cond, ◌||◌, List, [], ◌∷◌, ltb, leb}
use Rattle.base_rules.specs.Answers.{Answer, reads, refuse}
use Rattle.base_numbers.specs.Rounding.{nearest}

-- 200 °C
abbrev pub hundredths_most : ℕ
hundredths_most = 20000

-- A milliohm has so many parts, and with them the rule has no fractions.
abbrev pub parts_of_one : ℕ
parts_of_one = 10 ^ 8

-- 1000 × (1 + 3.9083 × 10^−3 t − 5.775 × 10^−7 t²) ohm with t = h / 100, in parts of a milliohm
abbrev pub exact : ℕ → ℕ
exact h = 10 ^ 14 + 39083 * 10 ^ 5 * h - 5775 * (h * h)

-- what the card stores for a whole degree: in milliohm, rounded to nearest, halves up
unfoldable pub stored_for : ℕ → ℕ
stored_for degree = nearest (exact (100 * degree)) parts_of_one

-- so many of these, from a degree on
unfoldable pub stored_from : ℕ → ℕ → List ℕ
stored_from degree zero = []
stored_from degree (suc count) = stored_for degree ∷ stored_from (suc degree) count

-- 201 resistances, one for each whole degree
abbrev pub card : List ℕ
card = stored_from 0 201

-- on the straight line from one resistance to the next, so many hundredths on, rounded the same way
abbrev pub line : ℕ → ℕ → ℕ → ℕ
line low high rest = nearest (low * (100 - rest) + high * rest) 100

-- the answer for a temperature: between degrees, on the straight line between what is stored
unfoldable pub resistance : ℕ → ℕ
resistance h = line (stored_for (h / 100)) (stored_for (h / 100 + 1)) (h % 100)

-- 90: temperature over 20,000 hundredths
abbrev pub resistance_of : ℕ → Answer ℕ
resistance_of h = refuse 90 (ltb hundredths_most h) (reads (resistance h))

-- the highest hundredth, up to a most, whose answer is not above the resistance
unfoldable pub highest : ℕ → ℕ → ℕ
highest milliohm zero = 0
highest milliohm (suc most) = cond (leb (resistance (suc most)) milliohm) (suc most) (highest milliohm most)

-- below the first or above the last
abbrev pub off_card : ℕ → Bool
off_card milliohm = ltb milliohm (stored_for 0) || ltb (stored_for 200) milliohm

-- 91: resistance below the first or above the last
abbrev pub temperature_of : ℕ → Answer ℕ
temperature_of milliohm = refuse 91 (off_card milliohm) (reads (highest milliohm hundredths_most))
