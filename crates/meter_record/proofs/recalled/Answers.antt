-- `meter_record::recalled` meets its contract.
use lib.ListN.{length, drop, length-take}
use mathlib.Core.Path.{◌≡◌, sym, ap, ◌∙◌}
use native.Mathlib.Omega.{arith}
use borrow.Author.Rules.{rules}
use Rattle.meter_steps.specs.declared.Meter.{Meter}
use Rattle.base_rules.specs.Shown.{shown}
use Rattle.mbus_records.specs.Telegrams.{telegram_bytes}
use Rattle.meter_record.specs.MeterRecords.{recalled}
use Rattle.meter_record.proofs.Laws.Recalling.{template_in, recalled_other, recalled_unreached, recalled_same}
use mathlib.Core.Path.{ap}
use mathlib.Core.Bool.{not}
use Rattle.meter_record.proofs.recalled.Goals.{After-meter_in-meter}
use Rattle.meter_record.proofs.recalled.Goals as goal

-- the template is the one that was taken, and so its bytes are known
behind : (c : After-meter_in-meter) → telegram_bytes c.meter_in-meter.result.core.template ≡ drop 56 c.args.b.now
behind c =
    ap (λ (m : Meter). telegram_bytes m.core.template) c.meter_in-meter.ensures
    ∙ ap telegram_bytes (template_in c.args.b.now c.args.template)
    ∙ c.requires

pub slice_bounds-is_same-end : goal.slice_bounds-is_same-end
slice_bounds-is_same-end c =
    let size : length c.args.b.now ≡ 192 = search rules in
    omega (arith, length-take 56 c.args.b.now)

pub returns-then-other : goal.returns-then-other
returns-then-other c =
    let b = c.args.b.now in
    sym (ap shown (recalled_other b c.meter_in-meter.result
    (behind (goal.at.returns-then-other c).After-meter_in-meter)
    c.front_bytes-again.ensures c.is_same-same.ensures (ap not c.if-other.true)))
    ∙ ap (λ (m : Meter). shown (recalled b m)) c.meter_in-meter.ensures

pub returns-then-is_unreached : goal.returns-then-is_unreached
returns-then-is_unreached c =
    let b = c.args.b.now in
    sym (ap shown (recalled_unreached b c.meter_in-meter.result
    (behind (goal.at.returns-then-is_unreached c).After-meter_in-meter)
    c.front_bytes-again.ensures c.is_same-same.ensures
    c.is_unreached.ensures (ap not c.if-other.false) c.if-is_unreached.true))
    ∙ ap (λ (m : Meter). shown (recalled b m)) c.meter_in-meter.ensures

pub returns : goal.returns
returns c =
    let b = c.args.b.now in
    sym (ap shown (recalled_same b c.meter_in-meter.result
    (behind (goal.at.returns c).After-meter_in-meter)
    c.front_bytes-again.ensures c.is_same-same.ensures c.is_unreached.ensures
    (ap not c.if-other.false) c.if-is_unreached.false))
    ∙ ap (λ (m : Meter). shown (recalled b m)) c.meter_in-meter.ensures
