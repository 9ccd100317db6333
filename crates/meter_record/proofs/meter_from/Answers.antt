-- `meter_record::meter_from` meets its contract.
use Prim.Native.Nat.{ℕ}
use mathlib.Core.List.{List}
use mathlib.Core.Path.{◌≡◌, refl, sym, ap, ◌∙◌}
use borrow.Author.Rules.{rules}
use lib.ListN.{length}
use Rattle.std.proofs.lemmas.Option.{MatchOption-at_some, MatchOption-at_none}
use Rattle.std.proofs.lemmas.Result.{err_from_is_err_and}
use Rattle.base_rules.specs.Shown.{shown}
use Rattle.meter_record.specs.MeterRecords.{meter_from}
use Rattle.meter_record.proofs.Laws.Recalling.{meter_size, from_refused, from_accepted, from_known}
use Rattle.meter_record.proofs.meter_from.Goals as goal

pub returns-in_default : goal.returns-in_default
returns-in_default c = sym (ap shown (meter_size c.args.b.now (MatchOption-at_none _ _ c.in_default.is c.as_array.ensures.cases)))

pub returns-in_err-template : goal.returns-in_err-template
returns-in_err-template c =
    let p = err_from_is_err_and c.from_residual.result c.from_residual.ensures.1 in
    let size : length c.in-Some.b.now ≡ 192 = search rules in
    rw (p.1, p.2) (sym (ap shown (from_refused c.in-Some.b.now size c.in_err-template.ensures refl))
    ∙ ap (λ (b : List ℕ). shown (meter_from b)) (MatchOption-at_some _ _ _ c.in-Some.is c.as_array.ensures.cases).same)

pub recalled-requires : goal.recalled-requires
recalled-requires c =
    let size : length c.in-Some.b.now ≡ 192 = search rules in
    from_known c.in-Some.b.now size c.in_ok-template.ensures refl

pub returns : goal.returns
returns c =
    let size : length c.in-Some.b.now ≡ 192 = search rules in
    c.recalled.ensures ∙ sym (ap shown (from_accepted c.in-Some.b.now size c.in_ok-template.ensures refl))
    ∙ ap (λ (b : List ℕ). shown (meter_from b)) (MatchOption-at_some _ _ _ c.in-Some.is c.as_array.ensures.cases).same
