-- `exchange_record::exchange_bytes` meets its contract: one record of its parts.
use mathlib.Core.Path.{refl}
use mathlib.Core.List.{[], ◌∷◌}
use lib.ListN.{replicate}
use Rattle.base_numbers.proofs.Laws.RecordLaws.{record_made}
use Rattle.exchange_record.specs.Exchanges.{exchange_head, exchange_bytes}
use borrow.Author.Rules.{rules}
use Rattle.exchange_record.proofs.exchange_bytes.Goals as goal

pub returns : goal.returns
unfolding exchange_bytes
returns c =
    let x = c.args.x in
    record_made (replicate 24 0) (exchange_head x.request x.state x.sends) (x.began.0 ∷ x.last.0 ∷ []) [] (search rules)
    c.head_bytes-head.ensures refl refl c.put_record.ensures
