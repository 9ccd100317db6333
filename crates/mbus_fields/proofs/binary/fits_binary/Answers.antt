-- `mbus_fields::binary::fits_binary` meets its contract: each sign by its law.
use Prim.Native.Nat.{min}
use mathlib.Core.Path.{sym, ap, ◌∙◌}
use lib.IntN.{nat_abs}
use mir.Syntax.{w64}
use mir.ValLaws.{to_z-of_z}
use Rattle.base_numbers.specs.TwosComplement.{below_zero}
use Rattle.mbus_fields.proofs.Laws.CodeLaws.{fits_below, fits_above}
use Rattle.mbus_fields.proofs.binary.fits_binary.Goals as goal

pub returns-then-below : goal.returns-then-below
returns-then-below c =
    let a = c.args in
    let t = to_z-of_z w64 a.count c.ranges.count in
    rw (c.most_of-most.ensures, c.size_of-size.ensures ∙ ap nat_abs t)
    (fits_below (min a.width 8) a.count (sym (c.is_below_zero-below.ensures ∙ ap below_zero t) ∙ c.if-below.true))

pub returns : goal.returns
returns c =
    let a = c.args in
    let t = to_z-of_z w64 a.count c.ranges.count in
    rw (c.most_of-most.ensures, c.size_of-size.ensures ∙ ap nat_abs t)
    (fits_above (min a.width 8) a.count (sym (c.is_below_zero-below.ensures ∙ ap below_zero t) ∙ c.if-below.false))
