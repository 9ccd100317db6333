-- `exchange_replies::data_fits` meets its contract, request by request.
use Rattle.exchange_replies.proofs.data_fits.Goals as goal

pub returns-in-Read : goal.returns-in-Read
returns-in-Read c = rw c.in-Read.is
