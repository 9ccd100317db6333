-- `mbus_records::telegrams::moment_word` meets its contract.
use mathlib.Core.Path.{refl}
use Rattle.mbus_records.proofs.Laws.TelegramLaws.{moment_word}
use borrow.Author.Rules.{rules}
use Rattle.mbus_records.proofs.telegrams.moment_word.Goals as goal

pub returns : goal.returns
returns c = moment_word _ (search rules) (search rules) (search rules) (search rules) (search rules) (search rules) (search rules) refl
