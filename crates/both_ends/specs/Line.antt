-- 02, 2026-14: an exchange and one simulated meter on a line that may lose a line or flip bits in it, but neither repeats nor reorders.
use Rattle.std.specs.Prelude.{ℕ, ◌+◌, cond, ◌&&◌, List, [], ◌∷◌, ◌++◌, eqb}
use Rattle.bench_clock.specs.declared.Clock.{Clock}
use Rattle.mbus_rules.specs.declared.Request.{Request}
use Rattle.base_rules.specs.Answers.{Answer, reads, refusal}
use Rattle.base_characters.specs.Flips.{Place, flips}
use Rattle.mbus_rules.specs.Lines.{read_line}
use Rattle.mbus_rules.specs.Outlines.{outlined}
use Rattle.mbus_rules.specs.Writing.{line_of}
use Rattle.mbus_shape.specs.Shapes.{asked_of}
use Rattle.exchange_steps.specs.declared.Exchange.{Exchange}
use Rattle.exchange_steps.specs.declared.Slot.TheVariants.{Busy}
use Rattle.exchange_steps.specs.Steps.{begun, heard_in, tick_in, send_ended_on}
use Rattle.exchange_steps.specs.Histories.{exchange_after}
use Rattle.meter_template.specs.declared.Pair.{Pair}
use Rattle.meter_steps.specs.declared.Meter.{Meter}
use Rattle.meter_steps.specs.Meters.{Said, silence, says, Deed, heard_at, measured_at, shown_meter_step}

-- ---- the two ends

-- What they answer: the exchange to a line heard, to a tick and to the end of a send of its request; the meter to a line heard and to measuring.
pub record Ends : Type 0 where
  pub heard : Exchange → List ℕ → Clock → Answer Exchange
  pub tick : Exchange → Clock → Answer Exchange
  pub sent : Exchange → Clock → Answer Exchange
  pub hears : Meter → List ℕ → Clock → Answer Deed
  pub measure : Meter → ℕ → ℕ → Clock → Answer Deed

-- 01's: lines are those of the M-Bus reader only. The end of a send is 2026-09's one operation, given the request that the exchange was begun with:
-- a resend where one is asked for, and where the exchange has ended the same request begun anew.
abbrev pub own_ends : Ends
own_ends = record {
  heard = λ x line t. heard_in x (outlined (read_line line)) t;
  tick = λ x t. tick_in x t;
  sent = λ x t. send_ended_on (Busy x) (outlined (reads (asked_of x.request))) t;
  hears = λ m line t. heard_at m line t;
  measure = λ m v e t. measured_at m v e t;
}

-- the meter that a step at t hands back
abbrev pub meter_after : Meter → Clock → Answer Deed → Meter
meter_after m t a = (shown_meter_step m t a).meter

-- ---- the line between them

-- Both ends, and the lines on their way in either direction, the oldest first. It is counted how often the verification totals were cleared.
pub record Between : Type 0 where
  pub bench : Exchange
  pub meter : Meter
  pub to_meter : List (List ℕ)
  pub to_bench : List (List ℕ)
  pub clearings : ℕ

-- What can happen. A line that arrives is the oldest on its way, with the bits at some places flipped; one that is lost is the oldest, too: so
-- none is repeated and none overtakes another.
pub data Happening : Type 0 where
  reaches_meter : Clock → List Place → Happening
  lost_to_meter : Happening
  reaches_bench : Clock → List Place → Happening
  lost_to_bench : Happening
  ticks : Clock → Happening
  send_ends : Clock → Happening
  measures : ℕ → ℕ → Clock → Happening

-- the line of a request, as the writer has it
abbrev pub request_line : Request → List ℕ
request_line request = line_of (asked_of request)

-- With a send that the exchange takes, its request's line is on its way,
abbrev pub lines_sent : Answer Exchange → List (List ℕ)
lines_sent (refusal n) = []
lines_sent (reads x) = request_line x.request ∷ []

-- and with an answer of the meter the answer's.
abbrev pub lines_said : Said → List (List ℕ)
lines_said silence = []
lines_said (says telegram) = line_of telegram ∷ []

abbrev pub lines_answered : Answer Deed → List (List ℕ)
lines_answered (refusal n) = []
lines_answered (reads d) = lines_said d.said

-- A line adds nothing to the verification totals: where they are others after it, it has cleared them.
abbrev pub cleared_by : Pair → Pair → ℕ
cleared_by p q = cond (eqb p.volume q.volume && eqb p.energy q.energy) 0 1

abbrev pub without_first : List (List ℕ) → List (List ℕ)
without_first [] = []
without_first (line ∷ rest) = rest

-- ---- what happens

abbrev pub with_bench : Between → Exchange → List (List ℕ) → List (List ℕ) → Between
with_bench w x down up = record { bench = x; meter = w.meter; to_meter = down; to_bench = up; clearings = w.clearings }

abbrev pub with_meter : Between → Meter → List (List ℕ) → List (List ℕ) → ℕ → Between
with_meter w m down up cleared = record { bench = w.bench; meter = m; to_meter = down; to_bench = up; clearings = w.clearings + cleared }

-- The meter hears a line at t, and its answer is the last on its way.
abbrev pub meter_hears : Between → Clock → List (List ℕ) → Answer Deed → Between
meter_hears w t rest a =
    with_meter w (meter_after w.meter t a) rest (w.to_bench ++ lines_answered a)
    (cleared_by w.meter.core.verified (meter_after w.meter t a).core.verified)

abbrev pub at_meter : Ends → Between → Clock → List Place → List (List ℕ) → Between
at_meter ends w t ps [] = w
at_meter ends w t ps (line ∷ rest) = meter_hears w t rest (ends.hears w.meter (flips ps line) t)

-- The bench hears a line at t.
abbrev pub at_bench : Ends → Between → Clock → List Place → List (List ℕ) → Between
at_bench ends w t ps [] = w
at_bench ends w t ps (line ∷ rest) = with_bench w (exchange_after w.bench (ends.heard w.bench (flips ps line) t)) w.to_meter rest

unfoldable pub happens : Ends → Between → Happening → Between
happens ends w (reaches_meter t ps) = at_meter ends w t ps w.to_meter
happens ends w lost_to_meter = with_bench w w.bench (without_first w.to_meter) w.to_bench
happens ends w (reaches_bench t ps) = at_bench ends w t ps w.to_bench
happens ends w lost_to_bench = with_bench w w.bench w.to_meter (without_first w.to_bench)
happens ends w (ticks t) = with_bench w (exchange_after w.bench (ends.tick w.bench t)) w.to_meter w.to_bench
happens ends w (send_ends t) =
    with_bench w (exchange_after w.bench (ends.sent w.bench t)) (w.to_meter ++ lines_sent (ends.sent w.bench t)) w.to_bench
happens ends w (measures v e t) = with_meter w (meter_after w.meter t (ends.measure w.meter v e t)) w.to_meter w.to_bench 0

unfoldable pub happened : Ends → Between → List Happening → Between
happened ends w [] = w
happened ends w (h ∷ hs) = happened ends (happens ends w h) hs

-- A send of the request has ended at t, and nothing else is on its way.
abbrev pub opening : Request → Clock → Meter → Between
opening request t m = record { bench = begun request t; meter = m; to_meter = request_line request ∷ []; to_bench = []; clearings = 0 }

-- ---- without the exchange

-- The meter with only its own measuring; its 30 minute return is tried at each of these steps.
abbrev pub alone_after : Ends → Meter → Happening → Meter
alone_after ends m (reaches_meter t ps) = m
alone_after ends m lost_to_meter = m
alone_after ends m (reaches_bench t ps) = m
alone_after ends m lost_to_bench = m
alone_after ends m (ticks t) = m
alone_after ends m (send_ends t) = m
alone_after ends m (measures v e t) = meter_after m t (ends.measure m v e t)

unfoldable pub alone : Ends → Meter → List Happening → Meter
alone ends m [] = m
alone ends m (h ∷ hs) = alone ends (alone_after ends m h) hs
