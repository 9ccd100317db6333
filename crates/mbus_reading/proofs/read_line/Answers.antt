-- `mbus_reading::read_line` meets its contract: the line is taken in, then come the rules on bytes.
use mathlib.Core.Path.{refl, sym, ap, ◌∙◌}
use Rattle.std.proofs.lemmas.Result.{err_from_is_err_and}
use Rattle.base_rules.specs.Shown.{shown}
use Rattle.mbus_reading.proofs.Laws.TakingLaws.{cut_room, cut_count, taken_frame}
use Rattle.mbus_reading.proofs.read_line.Goals as goal

pub returns-in_err-sum : goal.returns-in_err-sum
returns-in_err-sum c =
    let p = err_from_is_err_and c.from_residual.result c.from_residual.ensures.1 in
    rw (p.1, p.2) (ap shown (sym c.in_err-sum.ensures))

pub slice_bounds-bytes-end : goal.slice_bounds-bytes-end
slice_bounds-bytes-end c = cut_room c.args.line.now c.take_in.new.out refl c.in_ok-sum.ensures.1

pub slice_bounds-read_in-end : goal.slice_bounds-read_in-end
slice_bounds-read_in-end c = cut_count c.args.line.now c.take_in.new.out refl c.in_ok-sum.ensures.1

pub returns : goal.returns
returns c = c.read_in.ensures ∙ ap shown (taken_frame c.args.line.now c.take_in.new.out _ refl c.in_ok-sum.ensures)
