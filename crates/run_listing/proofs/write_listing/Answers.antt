-- `run_listing::write_listing` meets its contract.
use mathlib.Core.Path.{◌≡◌, sym, ◌∙◌}
use native.Mathlib.Omega.{arith}
use lib.ListN.{length}
use Rattle.bundle_check.specs.Bundles.{check_of}
use Rattle.base_rules.specs.Answers.{reads, refusal}
use Rattle.base_rules.proofs.Laws.AnswerLaws.{shown_same}
use Rattle.bundle_check.proofs.Laws.BodyLaws.{few_rows}
use Rattle.run_listing.proofs.Laws.LineLaws.{listing_written, refusal_written}
use borrow.Author.Rules.{rules}
use Rattle.run_listing.proofs.write_listing.Goals as goal

pub put_rows-requires : goal.put_rows-requires
put_rows-requires c =
    let b = c.args.bundle.now in
    let n = c.in-Ok.count in
    let e : check_of b ≡ reads n = shown_same (check_of b) (reads n) (sym c.check.ensures ∙ c.in-Ok.is) in
    let size : 24605 ≡ length c.lay.new.to = search rules in
    omega (arith, few_rows b n e)

pub returns-in-Ok : goal.returns-in-Ok
returns-in-Ok c =
    let b = c.args.bundle.now in
    let n = c.in-Ok.count in
    let e : check_of b ≡ reads n = shown_same (check_of b) (reads n) (sym c.check.ensures ∙ c.in-Ok.is) in
    let size : 24605 ≡ length c.args.out.now = search rules in
    let all = listing_written b n c.args.out.now c.put_rows.new.out e (omega (arith, size)) c.put_rows.ensures.1
    (rw c.lay.ensures at c.put_rows.ensures.2) in
    (c.put_rows.ensures.0, all.0, all.1)

pub returns-in-Err : goal.returns-in-Err
returns-in-Err c =
    let size : 24605 ≡ length c.args.out.now =
    search rules in
    let b = c.args.bundle.now in
    let k = c.in-Err.refusal.0 in
    let e : check_of b ≡ refusal k = shown_same (check_of b) (refusal k) (sym c.check.ensures ∙ c.in-Err.is) in
    let l = c.with-line.result in
    let all = refusal_written b k c.args.out.now l e (omega arith) c.with-line.ensures.whole (omega (arith, size))
    (c.with-line.ensures.so ∙ rw c.refused.ensures.so) in
    (omega arith, all.0, rw c.lay-in-Err.ensures all.1)
