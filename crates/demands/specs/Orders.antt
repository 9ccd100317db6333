-- The order of refusals: a table names the numbers in the order in which they are tried, each with what has to hold for it to apply.
use Rattle.std.specs.Prelude.{ℕ, ◌+◌, ◌%◌, ◌<◌, List, [], ◌∷◌, ◌↔◌, ◌⊎◌, ◌≡◌, length}
use Rattle.base_rules.specs.Answers.{Answer, reads, refusal}
use Rattle.base_rules.specs.Lists.{at}

-- the numbers, and when each applies
abbrev pub Table : Type 1
Table = List (ℕ × Type 0)

-- A row of this number applies, and none before it does.
abbrev pub First : Table → ℕ → Type 0
First [] n = ⊥
First (row ∷ rows) n = ((n ≡ row.0) × row.1) ⊎ ((¬ row.1) × First rows n)

-- No row applies.
abbrev pub NoneOf : Table → Type 0
NoneOf [] = Unit {0}
NoneOf (row ∷ rows) = (¬ row.1) × NoneOf rows

-- Refusal n is given exactly where a row of n applies and none before it does; nothing is refused exactly where no row applies.
pub record OrderOf {A : Type 0} (rows : Table) (a : Answer A) : Type 0 where
  pub given : (n : ℕ) → (a ≡ refusal n) ↔ First rows n
  pub accepted : ((x : A) × (a ≡ reads x)) ↔ NoneOf rows

-- The same of a number that C is answered: 256 plus n, or a number below 256.
pub record NumberOrder (rows : Table) (r : ℕ) : Type 0 where
  pub given : (n : ℕ) → (r ≡ 256 + n) ↔ First rows n
  pub accepted : (r < 256) ↔ NoneOf rows

-- some number of the list, at one of its places
abbrev pub Some : (ℕ → Type 0) → List ℕ → Type 0
Some P s = (i : ℕ) × (i < length s) × P (at s i)

-- the number is in the list
abbrev pub In : ℕ → List ℕ → Type 0
In n [] = ⊥
In n (m ∷ ms) = (n ≡ m) ⊎ In n ms

-- rows that are asked only where something holds
abbrev pub only_if : Type 0 → Table → Table
only_if C [] = []
only_if C (row ∷ rows) = (row.0, C × row.1) ∷ only_if C rows

-- The Gregorian calendar: every fourth year is a leap year, of the full hundreds only every fourth.
abbrev pub LeapYear : ℕ → Type 0
LeapYear y = (y % 4 ≡ 0) × ((¬ (y % 100 ≡ 0)) ⊎ (y % 400 ≡ 0))

-- more days than the month has
abbrev pub TooMany : ℕ → ℕ → ℕ → Type 0
TooMany year month day =
    (31 < day) ⊎ (In month (4 ∷ 6 ∷ 9 ∷ 11 ∷ []) × (30 < day)) ⊎ ((month ≡ 2) × ((29 < day) ⊎ ((28 < day) × (¬ LeapYear year))))

-- no day of the calendar
abbrev pub NoDate : ℕ → ℕ → ℕ → Type 0
NoDate year month day = (month ≡ 0) ⊎ (12 < month) ⊎ (day ≡ 0) ⊎ TooMany year month day
