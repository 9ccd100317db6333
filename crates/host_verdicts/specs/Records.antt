-- A verdict as a record for C: the fields of struct skarrowith_row_verdict, numbers low byte first.
use Rattle.std.specs.Prelude.{ℕ, List, ◌++◌}
use Rattle.base_numbers.specs.Numbers.{bytes_of}
use Rattle.run_verdicts.specs.declared.Verdict.{Verdict}
use Rattle.run_verdicts.specs.declared.Verdict.TheVariants.{Wake, First, Resend, Refused, Counts, LeftOver, Late, Second, Damaged, WrongKind, Unasked}

-- the number of each verdict
abbrev pub verdict_number : Verdict → ℕ
verdict_number Wake = 1
verdict_number First = 2
verdict_number Resend = 3
verdict_number (Refused n) = 4
verdict_number Counts = 5
verdict_number LeftOver = 6
verdict_number Late = 7
verdict_number Second = 8
verdict_number (Damaged n) = 9
verdict_number WrongKind = 10
verdict_number Unasked = 11

-- the number by which a line was refused or damaged, and 0 where it was neither
abbrev pub by_number : Verdict → ℕ
by_number (Refused n) = n
by_number (Damaged n) = n
by_number Wake = 0
by_number First = 0
by_number Resend = 0
by_number Counts = 0
by_number LeftOver = 0
by_number Late = 0
by_number Second = 0
by_number WrongKind = 0
by_number Unasked = 0

-- two bytes each
abbrev pub verdict_record : Verdict → List ℕ
verdict_record v = bytes_of 2 (verdict_number v) ++ bytes_of 2 (by_number v)
