-- `serial_marks::unmark` meets its contract: the loop goes along the bytes, a whole character at a time.
use mathlib.Core.Path.{sym, ◌∙◌}
use native.Mathlib.Omega.{arith}
use Rattle.serial_marks.proofs.Laws.Along.{along_none, along_length, along_inside, along_next, along_full, along_stop, behind_first}
use Rattle.serial_marks.proofs.unmark.Goals as goal

pub loop-made-init : goal.loop-made-init
loop-made-init c = along_none c.args.bytes.now c.args.characters.now

pub shape_of-characters-in_default : goal.shape_of-characters-in_default
shape_of-characters-in_default c =
    along_length c.loop-made.invariant

pub returns-in_default : goal.returns-in_default
returns-in_default c =
    along_stop c.loop-made.invariant (sym (behind_first c.args.bytes.now c.loop-made.used c.first_of.ensures) ∙ c.in_default.is)

pub offset_bounds-characters-made : goal.offset_bounds-characters-made
offset_bounds-characters-made c =
    let n = along_length c.loop-made.invariant in omega arith

pub overflow_add-used : goal.overflow_add-used
overflow_add-used c =
    omega (
      arith,
      along_inside c.loop-made.invariant
          (sym (behind_first c.args.bytes.now c.loop-made.used c.first_of.ensures) ∙ c.in-Some.is),
    )

pub loop-made-smaller : goal.loop-made-smaller
loop-made-smaller c =
    omega (arith, along_length c.loop-made.invariant)

pub loop-made-preserved : goal.loop-made-preserved
loop-made-preserved c =
    along_next c.loop-made.invariant (sym (behind_first c.args.bytes.now c.loop-made.used c.first_of.ensures) ∙ c.in-Some.is)
    (omega (arith, along_length c.loop-made.invariant))

pub shape_of-characters : goal.shape_of-characters
shape_of-characters c = along_length c.loop-made.invariant

pub returns : goal.returns
returns c = along_full c.loop-made.invariant c.loop-made-test.false
