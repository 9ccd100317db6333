-- `bundle_columns::making::columns_of` meets its contract: each way out by the law of that answer.
use mathlib.Core.Path.{◌≡◌, sym, ◌∙◌}
use native.Mathlib.Omega.{arith}
use borrow.Author.Tests.{le-ltb}
use Rattle.base_rules.specs.Answers.{reads}
use Rattle.base_rules.proofs.Laws.AnswerLaws.{shown_ok}
use Rattle.bundle_check.specs.Bundles.{check_of}
use Rattle.bundle_columns.proofs.Laws.Turning.{made}
use Rattle.bundle_columns.proofs.making.columns_of.Goals.{In_ok-count}
use Rattle.bundle_columns.proofs.making.columns_of.Goals as goal

-- the count as the check gave it
counted : (c : In_ok-count) → check_of c.args.bundle.now ≡ reads c.in_ok-count.count
counted c = shown_ok (check_of c.args.bundle.now) c.in_ok-count.count (sym c.check.ensures ∙ c.in_ok-count.was)

pub put_bytes-requires : goal.put_bytes-requires
put_bytes-requires c = omega (arith, c.if-out-lt-COLUMNS_BYTES.false)

pub put_words-requires : goal.put_words-requires
put_words-requires c = omega (arith, c.if-out-lt-COLUMNS_BYTES.false, c.put_bytes.auto.out)

pub returns : goal.returns
returns c =
    let a = c.args in
    made a.bundle.now a.out.now (le-ltb _ _ c.if-out-lt-COLUMNS_BYTES.false) c.in_ok-count.count (counted (goal.at.returns c).In_ok-count)
    c.put_bytes.ensures c.put_words.ensures
