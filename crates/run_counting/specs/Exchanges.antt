-- Rows told to an exchange of 01, as a host would have told the lines.
use Rattle.std.specs.Prelude.{ℕ, Bool, List, [], ◌∷◌}
use Rattle.base_rules.specs.Answers.{Answer}
use Rattle.bench_clock.specs.declared.Clock.{Clock}
use Rattle.exchange_steps.specs.declared.Exchange.{Exchange}
use Rattle.base_rules.specs.Shown as answers
use Rattle.exchange_steps.specs.Steps.{heard_in, ends_well}
use Rattle.exchange_steps.specs.Histories.{exchange_after}
use Rattle.bundle_check.specs.Records.{Recorded}
use Rattle.run_counting.specs.Counting.{row_outline}

-- the time of a row on the line clock
abbrev pub row_clock : ℕ → Clock
row_clock t = record { 0 = t }

-- what the exchange answers to a row heard
abbrev pub row_heard : Exchange → Recorded → Answer Exchange
row_heard x k = heard_in x (row_outline k) (row_clock k.time)

-- the exchange after it was told of rows heard; a refused step leaves it as it stood
unfoldable pub told_rows : Exchange → List Recorded → Exchange
told_rows x [] = x
told_rows x (k ∷ ks) = told_rows (exchange_after x (row_heard x k)) ks

-- the exchange ends well by a row
abbrev pub ends_well_by : Exchange → Recorded → Bool
ends_well_by x k = ends_well (answers.shown (row_heard x k))
