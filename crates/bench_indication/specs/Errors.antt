-- 01, "Error of indication": formulas A.1 and B.1 of 000. B.1 has one standard value: S1 = 0, S2 = Qa.
use Rattle.std.specs.Prelude.{ℕ, ◌-◌, Bool, ◌||◌, ltb, leb, eqb, ℤ, pos, ◌-ℤ◌, ◌*ℤ◌}
use Rattle.base_rules.specs.Answers.{Answer, reads, refuse}
use Rattle.base_numbers.specs.Rounding.{rounded}

-- 10^12, the largest count
abbrev pub count_most : ℕ
count_most = 1000000000000

-- 1000 times ((M2−M1) − (S2−S1)) divided by (S2−S1), in tenths of a percent, rounded. Past 62 the standard rises, and S2−S1 is a natural.
unfoldable pub error_of : ℕ → ℕ → ℕ → ℕ → ℤ
error_of m1 m2 s1 s2 = rounded (pos 1000 *ℤ ((pos m2 -ℤ pos m1) -ℤ (pos s2 -ℤ pos s1))) (s2 - s1)

-- a count is over 10^12
abbrev pub count_over : ℕ → ℕ → ℕ → ℕ → Bool
count_over m1 m2 s1 s2 = ltb count_most m1 || ltb count_most m2 || ltb count_most s1 || ltb count_most s2

-- 60: a count over 10^12; 61: the meter count falls; 62: the standard's count does not rise
abbrev pub indication_of : ℕ → ℕ → ℕ → ℕ → Answer ℤ
indication_of m1 m2 s1 s2 =
    refuse 60 (count_over m1 m2 s1 s2)
    (refuse 61 (ltb m2 m1)
    (refuse 62 (leb s2 s1)
    (reads (error_of m1 m2 s1 s2))))

-- The error of one rise against another, x against y. (Formula C.1, 02's 2026-04, has this shape too.)
unfoldable pub tenths : ℕ → ℕ → ℤ
tenths x y = rounded (pos 1000 *ℤ (pos x -ℤ pos y)) y

-- 02, 2026-04: the largest of two rises as C.1 takes them, 10^9 ml times 1,800,000 ms
abbrev pub rise_most : ℕ
rise_most = 1800000000000000

-- The error of rises of that size: 60 for a larger one, 62 where the standard's is none.
abbrev pub rise_error_of : ℕ → ℕ → Answer ℤ
rise_error_of x y = refuse 60 (ltb rise_most x || ltb rise_most y) (refuse 62 (eqb y 0) (reads (tenths x y)))
