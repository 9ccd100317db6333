-- `mbus_records::telegrams::entries_in` meets its contract.
use borrow.Author.Rules.{rules}
use Rattle.mbus_records.proofs.Laws.TelegramLaws.{entries_listed}
use Rattle.mbus_records.proofs.telegrams.entries_in.Goals as goal

pub returns : goal.returns
returns c = rw (← (entries_listed c.args.b.now)) (search rules)
