-- What the walk along the rows makes of a row: its verdict, and the exchange of its position behind it.
use Rattle.std.specs.Prelude.{ℕ}
use Rattle.mbus_rules.specs.declared.Request.{Request}
use Rattle.mbus_rules.specs.declared.Outline.{Outline}
use Rattle.bench_clock.specs.declared.Clock.{Clock}
use Rattle.exchange_steps.specs.declared.Slot.{Slot}
use Rattle.exchange_steps.specs.declared.Slot.TheVariants.{Idle, Busy}
use Rattle.exchange_steps.specs.Steps.{begun}
use Rattle.bundle_check.specs.Records.{Recorded}
use Rattle.run_verdicts.specs.declared.Verdict.TheVariants.{First, Refused}
use Rattle.run_verdicts.specs.declared.judging.Judged.{Judged}
use Rattle.run_verdicts.specs.Verdicts.{sent_verdict, after_sent, verdict_after, slot_after}

-- a line that cannot be sent
abbrev pub unsent_as : ℕ → Judged
unsent_as n = record { verdict = Refused n; slot = Idle }

-- a request that begins an exchange
abbrev pub first_as : Request → Clock → Judged
first_as request end = record { verdict = First; slot = Busy (begun request end) }

-- a line sent
abbrev pub sent_by : Slot → Outline → Clock → Judged
sent_by b outline end = record { verdict = sent_verdict b outline end; slot = after_sent b outline end }

-- any row
abbrev pub judged_of : Slot → Recorded → Judged
judged_of b k = record { verdict = verdict_after b k; slot = slot_after b k }
