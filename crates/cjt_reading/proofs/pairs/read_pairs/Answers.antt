-- `cjt_reading::pairs::read_pairs` meets its contract, as reading a line of characters does.
use Rattle.std.proofs.Common.{sym, ap, ◌∙◌, arith}
use Rattle.base_rules.specs.Shown.{shown}
use Rattle.base_characters.specs.Characters.{chars}
use Rattle.base_characters.proofs.Laws.PairLaws.{length_characters}
use Rattle.std.proofs.lemmas.Result.{err_from_is_err_and}
use Rattle.cjt_reading.proofs.Laws.TakingLaws.{none_is, taken_refused, taken_far, near_refused, near_count, near_sum, near_passed}
use Rattle.cjt_reading.proofs.pairs.read_pairs.Goals as goal

pub returns-then-count-eq0 : goal.returns-then-count-eq0
returns-then-count-eq0 c = ap shown (sym (none_is (chars c.args.bytes.now) (length_characters c.args.bytes.now
    ∙ c.if-count-eq0.true)))

pub returns-in_err-soundness_of : goal.returns-in_err-soundness_of
returns-in_err-soundness_of c =
    let size = length_characters c.args.bytes.now in
    let p = err_from_is_err_and c.from_residual.result c.from_residual.ensures.1 in
    rw (p.1, p.2, taken_refused (chars c.args.bytes.now) (omega (arith, size, c.if-count-gt-MOST.true)) c.soundness_of.ensures c.in_err-soundness_of.was)

pub returns-then-count-gt-MOST : goal.returns-then-count-gt-MOST
returns-then-count-gt-MOST c =
    let size = length_characters c.args.bytes.now in
    rw (taken_far (chars c.args.bytes.now) (omega (arith, size, c.if-count-gt-MOST.true)) c.soundness_of.ensures (omega (arith, size, c.if-count-gt-MOST.true)) c.in_ok-soundness_of.was)

pub returns-in_err-gathering : goal.returns-in_err-gathering
returns-in_err-gathering c =
    let p = err_from_is_err_and c.from_residual-in_err-gathering.result c.from_residual-in_err-gathering.ensures.1 in
    rw (
      p.1,
      p.2,
      near_refused (chars c.args.bytes.now) c.gather-gathering.new.out (sym (length_characters c.args.bytes.now)) c.if-count-eq0.false c.if-count-gt-MOST.false c.gather-gathering.ensures.0
          c.gather-gathering.ensures.1 c.in_err-gathering.was,
    )

pub slice_bounds-read_in-end : goal.slice_bounds-read_in-end
slice_bounds-read_in-end c =
    near_count (chars c.args.bytes.now)
    c.gather-gathering.new.out (sym (length_characters c.args.bytes.now))
    c.if-count-eq0.false c.if-count-gt-MOST.false
    c.gather-gathering.ensures.0 c.gather-gathering.ensures.1

pub read_in-requires : goal.read_in-requires
read_in-requires c =
    near_sum (chars c.args.bytes.now)
    c.gather-gathering.new.out (sym (length_characters c.args.bytes.now))
    c.if-count-eq0.false c.if-count-gt-MOST.false
    c.gather-gathering.ensures.0 c.gather-gathering.ensures.1

pub returns : goal.returns
returns c =
    c.read_in.ensures ∙ ap shown (near_passed (chars c.args.bytes.now)
    c.gather-gathering.new.out (sym (length_characters c.args.bytes.now))
    c.if-count-eq0.false c.if-count-gt-MOST.false
    c.gather-gathering.ensures.0 c.gather-gathering.ensures.1
    c.in_ok-gathering.was)
