-- What a call leaves in the meter's record is read by the next call as the same meter.
use Prim.Native.Nat.{ℕ, ◌^◌, ◌≤◌, ◌<◌}
use mathlib.Core.List.{List, ◌++◌, append-nil}
use mathlib.Core.Path.{◌≡◌, refl, ap, ◌∙◌}
use native.Mathlib.Omega.{arith}
use lib.Dec.{ltb}
use lib.ListN.{length, take, drop, drop_of_length-le}
use lib.Seq.{take_at}
use Rattle.bench_clock.specs.declared.Clock.{Clock}
use Rattle.mbus_rules.specs.declared.Telegram.{Telegram}
use Rattle.base_rules.specs.Answers.{Answer, reads, refusal, follow}
use Rattle.base_rules.proofs.Laws.Tests.{passed}
use Rattle.meter_steps.specs.declared.Meter.{Meter}
use Rattle.meter_steps.specs.Meters.{Deed, set_up, heard_at, measured_at}
use Rattle.meter_record.specs.Leaving.{leaves}
use Rattle.meter_record.proofs.Laws.Keeping.{set_up_good, heard_good, measured_good}
use Rattle.meter_record.specs.MeterRecords.{meter_size, meter_bytes, meter_from}
use Rattle.meter_record.proofs.Laws.Recalling.{read_size}
use Rattle.meter_record.proofs.Laws.RecordLaws.{Good, meter_read, meter_written, seven_places}
use Rattle.base_lent.specs.Lent.{stored, needs}
use Rattle.mbus_records.specs.Telegrams.{telegram_size, telegram_from}
use Rattle.host_meter.specs.Calls.{set_up_for, line_heard_for, measure_for}

-- the record of a good meter in the first places, and alone
first_read : (out : List ℕ) (m : Meter) → Good m → meter_from (take meter_size (stored meter_bytes out (reads m))) ≡ reads m
first_read out m g =
    ap meter_from (take_at (meter_bytes m) (drop (length (meter_bytes m)) out) meter_size (read_size (meter_bytes m) m (meter_read m g))) ∙ meter_read m g

whole_read : (b : List ℕ) (m : Meter) → length b ≡ meter_size → Good m → meter_from (stored meter_bytes b (reads m)) ≡ reads m
whole_read b m h g =
    let size = read_size (meter_bytes m) m (meter_read m g) in
    let past : length b ≤ meter_size = omega arith in
    let none : drop (length (meter_bytes m)) b ≡ drop meter_size b = ap (λ (n : ℕ). drop n b) size in
    ap meter_from (ap (λ (l : List ℕ). meter_bytes m ++ l) (none ∙ drop_of_length-le b past) ∙ append-nil (meter_bytes m)) ∙ meter_read m g

-- what a step on a record comes from
record From (b : List ℕ) (step : Meter → Answer Deed) (d : Deed) : Type 0 where
  stood : Meter
  read : meter_from b ≡ reads stood
  so : step stood ≡ reads d

from : (b : List ℕ) (step : Meter → Answer Deed) (d : Deed) → follow (meter_from b) step ≡ reads d → From b step d
from b step d e = go (meter_from b) refl e
  where
    go : (a : Answer Meter) → meter_from b ≡ a → follow a step ≡ reads d → From b step d
    go (refusal n) r f = let z : ◌≡◌ {A = ℕ} 0 1 = cc in absurd (omega arith)
    go (reads m) r f = record { stood = m; read = r; so = f }

-- After set-up: the meter that begins, from the first places.
pub set_up_read_back : (out : List ℕ) (own : ℕ) (template : List ℕ) (m : Meter) → set_up_for out own template ≡ reads m
    → meter_from (take meter_size (stored meter_bytes out (reads m))) ≡ reads m
set_up_read_back out own template m e = first_read out m (go (telegram_from template) refl e)
  where
    go : (a : Answer Telegram) → telegram_from template ≡ a → follow a (λ t. needs meter_size out (set_up own t)) ≡ reads m → Good m
    go (refusal n) r f = let z : ◌≡◌ {A = ℕ} 0 1 = cc in absurd (omega arith)
    go (reads t) r f = set_up_good own t m (seven_places template t r) (passed 21 (ltb (length out) meter_size) (set_up own t) m f).1

-- After a line heard or a measure at a time of 64 bits: the meter that the step leaves.
module _ (b : List ℕ) (t : Clock) (small : t.0 < 256 ^ 8) (d : Deed) where
  pub heard_read_back : (line out : List ℕ) → line_heard_for b line t out ≡ reads d → meter_from (stored meter_bytes b (reads (leaves t d))) ≡ reads (leaves t d)
  heard_read_back line out e =
      let f = from b (λ m. needs telegram_size out (heard_at m line t)) d e in
      let m = f.stood in
      let so = (passed 21 (ltb (length out) telegram_size) (heard_at m line t) d f.so).1 in
      whole_read b (leaves t d) (read_size b m f.read) (heard_good m (meter_written b m f.read).good t small line d so)

  pub measure_read_back : (v n : ℕ) → measure_for b v n t ≡ reads d → meter_from (stored meter_bytes b (reads (leaves t d))) ≡ reads (leaves t d)
  measure_read_back v n e =
      let f = from b (λ m. measured_at m v n t) d e in
      let m = f.stood in
      whole_read b (leaves t d) (read_size b m f.read) (measured_good m (meter_written b m f.read).good t small v n d f.so)
