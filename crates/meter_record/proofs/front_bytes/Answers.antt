-- `meter_record::front_bytes` meets its contract: one record of its parts.
use Prim.Native.Nat.{ℕ}
use mathlib.Core.Path.{refl, ap, ◌∙◌}
use mathlib.Core.List.{[], ◌∷◌}
use lib.ListN.{replicate}
use Rattle.base_numbers.proofs.Laws.RecordLaws.{record_made}
use Rattle.meter_record.specs.MeterRecords.{since_of, meter_head, core_words}
use borrow.Author.Rules.{rules}
use Rattle.meter_record.proofs.front_bytes.Goals as goal

pub returns : goal.returns
returns c =
    let m = c.args.m in
    let k = m.core in
    let mode = c.mode_of-mode.ensures in
    record_made (replicate 56 0) (meter_head m.last.0 k.address k.mode) (core_words k) [] (search rules)
    (c.head_bytes-head.ensures ∙ ap (meter_head m.last.0 k.address) mode)
    (ap (λ (n : ℕ). n ∷ k.used.volume ∷ k.used.energy ∷ k.verified.volume ∷ k.verified.energy ∷ [])
    (c.since_of.ensures ∙ ap since_of mode))
    refl c.put_record.ensures
