-- `bundle_check::check` meets its contract: what is asked of the rows, where the contents are whole.
use Rattle.std.proofs.Common.{rules}
use Rattle.bundle_check.proofs.Laws.Opened.{check_follows}
use Rattle.bundle_check.proofs.check.Goals as goal

pub returns-in_err-count : goal.returns-in_err-count
returns-in_err-count c = rw (check_follows c.args.bundle.now) search rules

pub returns : goal.returns
returns c = rw (check_follows c.args.bundle.now) search rules
