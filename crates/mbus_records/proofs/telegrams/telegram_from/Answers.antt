-- `mbus_records::telegrams::telegram_from` meets its contract.
use mathlib.Core.Path.{sym, ap}
use Rattle.base_rules.specs.Shown.{shown}
use Rattle.base_lent.proofs.Laws.Recorded.{record_same, record_differs}
use Rattle.mbus_records.specs.Telegrams.{telegram_bytes, telegram_in}
use Rattle.mbus_records.proofs.Laws.TelegramLaws.{telegram_size}
use Rattle.mbus_records.proofs.telegrams.telegram_from.Goals as goal

pub returns-then-b-ne-SIZE : goal.returns-then-b-ne-SIZE
returns-then-b-ne-SIZE c = sym (ap shown (telegram_size c.args.b.now c.if-b-ne-SIZE.true))

pub returns-then-is_same : goal.returns-then-is_same
returns-then-is_same c =
    sym (ap shown (record_same telegram_bytes telegram_in c.args.b.now
    c.telegram_in-telegram.ensures c.telegram_bytes-again.ensures c.is_same.ensures
    c.if-is_same.true))

pub returns : goal.returns
returns c =
    sym (ap shown (record_differs telegram_bytes telegram_in
    c.args.b.now c.telegram_in-telegram.ensures
    c.telegram_bytes-again.ensures c.is_same.ensures c.if-is_same.false))
