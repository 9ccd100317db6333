-- `mbus_records::telegrams::telegram_bytes` meets its contract: one record of its parts.
use mathlib.Core.Path.{refl}
use mathlib.Core.List.{[], ◌∷◌}
use lib.ListN.{replicate}
use Rattle.base_numbers.proofs.Laws.RecordLaws.{record_made}
use Rattle.mbus_records.specs.Telegrams.{telegram_head, entries_bytes, telegram_bytes}
use borrow.Author.Rules.{rules}
use Rattle.mbus_records.proofs.telegrams.telegram_bytes.Goals as goal

pub returns : goal.returns
unfolding telegram_bytes
returns c =
    let t = c.args.t in
    record_made (replicate 136 0) (telegram_head t) (t.count ∷ []) (entries_bytes t.entries) (search rules)
    c.head_bytes.ensures refl
    c.entries_bytes.ensures c.put_record.ensures
