-- `exchange_replies::fits` meets its contract, outline by outline.
use Rattle.exchange_replies.proofs.fits.Goals as goal

pub returns-in-Data : goal.returns-in-Data
returns-in-Data c = rw c.in-Data.is c.data_fits.ensures
