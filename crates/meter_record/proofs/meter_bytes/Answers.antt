-- `meter_record::meter_bytes` meets its contract: the template behind the front.
use lib.ListN.{replicate}
use Rattle.meter_record.proofs.Laws.Recalling.{front_laid}
use borrow.Author.Rules.{rules}
use Rattle.meter_record.proofs.meter_bytes.Goals as goal

pub returns : goal.returns
returns c =
    front_laid (replicate 192 0) c.args.m
    (search rules) (search rules) (search rules)
    c.front_bytes-front.ensures
    c.telegram_bytes-template.ensures
    c.lay.ensures c.lay-2.ensures
