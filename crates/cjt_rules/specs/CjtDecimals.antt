-- 001, the answer's table: where the point stands in each value. "××××××.××" has six digits before it and two behind.
use Rattle.std.specs.Prelude.{ℕ, ◌/◌, ◌%◌, ◌^◌}

-- digits before the point, and behind it
pub record Digits : Type 0 where
  pub before : ℕ
  pub behind : ℕ

-- cold and heat: ××××××.××
abbrev pub energy_digits : Digits
energy_digits = record { before = 6; behind = 2 }

-- power: ××××××.××
abbrev pub power_digits : Digits
power_digits = record { before = 6; behind = 2 }

-- flow: ××××.××××
abbrev pub flow_digits : Digits
flow_digits = record { before = 4; behind = 4 }

-- volume: ××××××.××
abbrev pub volume_digits : Digits
volume_digits = record { before = 6; behind = 2 }

-- inlet and outlet: ××××.××
abbrev pub temperature_digits : Digits
temperature_digits = record { before = 4; behind = 2 }

-- hours: ××××××
abbrev pub hours_digits : Digits
hours_digits = record { before = 6; behind = 0 }

-- of a count of last digits: the whole units, and what stands behind the point
abbrev pub whole_in : Digits → ℕ → ℕ
whole_in d count = count / 10 ^ d.behind

abbrev pub fraction_in : Digits → ℕ → ℕ
fraction_in d count = count % 10 ^ d.behind
