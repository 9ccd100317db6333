-- `cjt_records::cjt_from` meets its contract.
use Prim.Native.Nat.{ℕ}
use mathlib.Core.List.{List}
use mathlib.Core.Path.{sym, ap, ◌∙◌}
use Rattle.std.proofs.lemmas.Option.{MatchOption-at_some, MatchOption-at_none}
use Rattle.base_rules.specs.Shown.{shown}
use Rattle.base_lent.proofs.Laws.Recorded.{record_same, record_differs}
use Rattle.cjt_records.specs.CjtRecords.{cjt_bytes, cjt_in, cjt_from}
use Rattle.cjt_records.proofs.Laws.CjtRecordLaws.{cjt_size}
use Rattle.cjt_records.proofs.cjt_from.Goals as goal

pub returns-in_default : goal.returns-in_default
returns-in_default c = sym (ap shown (cjt_size c.args.b.now (MatchOption-at_none _ _ c.in_default.is c.as_array.ensures.cases)))

pub returns-then-same : goal.returns-then-same
returns-then-same c =
    sym (ap shown (record_same cjt_bytes cjt_in c.in-Some.b.now
    c.cjt_in-telegram.ensures c.cjt_bytes-again.ensures c.is_same-same.ensures c.if-same.true))
    ∙ ap (λ (b : List ℕ). shown (cjt_from b)) (MatchOption-at_some _ _ _ c.in-Some.is c.as_array.ensures.cases).same

pub returns : goal.returns
returns c =
    sym (ap shown (record_differs cjt_bytes cjt_in c.in-Some.b.now
    c.cjt_in-telegram.ensures c.cjt_bytes-again.ensures c.is_same-same.ensures c.if-same.false))
    ∙ ap (λ (b : List ℕ). shown (cjt_from b)) (MatchOption-at_some _ _ _ c.in-Some.is c.as_array.ensures.cases).same
