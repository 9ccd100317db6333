-- 01, "The form to use in each place": the number and values for each case of the answer.
use Rattle.std.specs.Prelude.{◌-◌, List, ◌++◌, length, replicate}
use Rattle.bundle_rows.specs.Rows.{most_rows}
use Rattle.run_verdicts.specs.declared.Verdict.{Verdict}
use Rattle.run_verdicts.specs.declared.Verdict.TheVariants.{Unasked}
use Rattle.run_verdicts.specs.declared.Verdicts.{Verdicts}

-- the verdicts in the first places, and `Unasked` behind them
abbrev pub in_places : List Verdict → List Verdict
in_places verdicts = verdicts ++ replicate (most_rows - length verdicts) Unasked

-- and how many they are
abbrev pub listed : List Verdict → Verdicts
listed verdicts = record { count = length verdicts; verdicts = in_places verdicts }
