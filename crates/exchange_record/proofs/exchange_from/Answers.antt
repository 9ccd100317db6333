-- `exchange_record::exchange_from` meets its contract.
use mathlib.Core.Path.{sym, ap}
use Rattle.std.proofs.lemmas.Option.{MatchOption-at_none}
use Rattle.base_rules.specs.Shown.{shown}
use Rattle.exchange_record.proofs.Laws.ExchangeLaws.{other_size}
use Rattle.exchange_record.proofs.exchange_from.Goals as goal

pub returns-in_default : goal.returns-in_default
returns-in_default c = sym (ap shown (other_size c.args.b.now (MatchOption-at_none _ _ c.in_default.is c.as_array.ensures.cases)))
