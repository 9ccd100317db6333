-- 01, "The simulated meter": what a read changes, and totals that never fall.
use Rattle.std.specs.Prelude.{◌≤◌}
use Rattle.bench_clock.specs.declared.Clock.{Clock}
use Rattle.meter_template.specs.declared.Pair.{Pair}
use Rattle.meter_template.specs.Templates.{raised}
use Rattle.meter_steps.specs.declared.Meter.{Meter}
use Rattle.meter_steps.specs.Meters.{mode_at, instructed_at}

-- Read: nothing but the access number and the times change. (`instructed_at` keeps the mode and its method.)
abbrev pub read_at : Clock → Meter → Meter
read_at t m = record {
  last = t;
  core = record {
    address = m.core.address;
    mode = instructed_at t (mode_at t m.core.mode);
    used = m.core.used;
    verified = m.core.verified;
    template = raised m.core.template;
  };
}

-- ---- the verification pair

pub record Rises (p q : Pair) : Type 0 where
  pub volume : p.volume ≤ q.volume
  pub energy : p.energy ≤ q.energy
