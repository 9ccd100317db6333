-- The meter that a step leaves, as a record keeps it.
use Rattle.bench_clock.specs.declared.Clock.{Clock}
use Rattle.meter_steps.specs.declared.Meter.{Meter}
use Rattle.meter_steps.specs.Meters.{Deed}

-- the meter that a step leaves
abbrev pub leaves : Clock → Deed → Meter
leaves t d = record { last = t; core = d.core }
