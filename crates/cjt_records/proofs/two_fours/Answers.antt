-- `cjt_records::two_fours` meets its contract.
use borrow.Author.Rules.{rules}
use Rattle.cjt_records.proofs.Laws.Words.{bytes_two}
use Rattle.cjt_records.proofs.two_fours.Goals as goal

pub returns : goal.returns
returns c = bytes_two 4 4 c.args.low c.args.high (search rules)
