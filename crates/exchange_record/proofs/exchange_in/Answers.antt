-- `exchange_record::exchange_in` meets its contract.
use Rattle.exchange_record.specs.Exchanges.{exchange_in}
use Rattle.exchange_record.proofs.exchange_in.Goals as goal

pub returns : goal.returns
unfolding exchange_in
returns c =
    rw (
      c.number_at.ensures.so,
      c.number_at-2.ensures.so,
      c.state_of.ensures,
      c.request_of.ensures,
    )
