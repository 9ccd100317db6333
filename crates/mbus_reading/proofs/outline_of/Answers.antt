-- `mbus_reading::outline_of` meets its contract: the line is taken in, then come the rules on bytes.
use mathlib.Core.Path.{refl, sym, ap, ◌∙◌}
use Rattle.mbus_rules.specs.Outlines.{outlined}
use Rattle.mbus_reading.proofs.Laws.TakingLaws.{taken_as, cut_room, cut_count, taken_frame}
use Rattle.mbus_reading.proofs.outline_of.Goals as goal

pub slice_bounds-bytes-end : goal.slice_bounds-bytes-end
slice_bounds-bytes-end c =
    let t = taken_as c.args.line.now c.take_in.new.out c.in-Ok.is c.take_in.ensures in
    cut_room c.args.line.now c.take_in.new.out refl t.1

pub slice_bounds-outline_in-end : goal.slice_bounds-outline_in-end
slice_bounds-outline_in-end c =
    let t = taken_as c.args.line.now c.take_in.new.out c.in-Ok.is c.take_in.ensures in
    cut_count c.args.line.now c.take_in.new.out refl t.1

pub returns-in-Ok : goal.returns-in-Ok
returns-in-Ok c =
    let t = taken_as c.args.line.now c.take_in.new.out c.in-Ok.is c.take_in.ensures in
    c.outline_in.ensures ∙ ap outlined (taken_frame c.args.line.now c.take_in.new.out _ refl t)

pub returns-in-Err : goal.returns-in-Err
returns-in-Err c = ap outlined (sym (taken_as c.args.line.now c.take_in.new.out c.in-Err.is c.take_in.ensures))
