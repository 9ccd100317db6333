-- `host_exchange::hear` meets its contract: what the exchange answers, kept.
use borrow.Author.Rules.{rules}
use Rattle.host_exchange.proofs.Laws.CallLaws.{heard_well, heard_other, heard_line}
use borrow.Author.Tests.{eq-eqb, ne_eqb}
use Rattle.host_exchange.proofs.hear.Goals as goal

pub returns-then-well : goal.returns-then-well
returns-then-well c =
    let a = c.args in
    heard_line a.slot a.line.now a.t
    c.heard-heard.ensures
    (heard_well c.keep-answer.ensures
    (eq-eqb _ _ c.if-well.true) c.telegram_bytes-bytes.ensures (search rules)
    c.store.ensures.1)

pub returns-else-well : goal.returns-else-well
returns-else-well c =
    let a = c.args in
    heard_line a.slot a.line.now a.t c.heard-heard.ensures
    (heard_other c.keep-answer.ensures (ne_eqb _ _ c.if-well.false))
