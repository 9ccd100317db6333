-- `exchange_record::head_bytes` meets its contract.
use Rattle.exchange_record.proofs.Laws.ExchangeLaws.{request_listed}
use Rattle.exchange_record.proofs.head_bytes.Goals as goal

pub returns : goal.returns
returns c = rw (c.cause_in-cause.ensures, c.state_number-number.ensures, c.request_bytes-asked.ensures)
    (request_listed c.args.request _)
