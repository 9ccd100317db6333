-- `mbus_writable::wrong_value` meets its contract: a width is at most eight.
use Prim.Native.Nat.{min}
use mathlib.Core.Path.{◌≡◌, ap, ◌∙◌}
use native.Mathlib.Omega.{arith}
use mir.Syntax.{w64}
use mir.ValLaws.{to_z-of_z}
use Rattle.mbus_rules.specs.Quantities.{width_of}
use Rattle.base_numbers.specs.TwosComplement.{below_zero, fits_binary}
use Rattle.mbus_rules.proofs.Laws.RowLaws.{width_most}
use Rattle.mbus_writable.proofs.wrong_value.Goals as goal

pub returns-in-Binary : goal.returns-in-Binary
returns-in-Binary c =
    let st = c.args.structure in
    let t = to_z-of_z w64 c.in-Binary.w.count (record { sfits = omega arith }) in
    let w : min c.width_of.result 8 ≡ width_of st = omega (arith, c.width_of.ensures, width_most st) in
    rw (
      c.in-Binary.is,
      c.is_binary-binary.ensures,
      c.fits_binary.ensures ∙ (λ i. fits_binary (w i) (t i)),
      c.is_below_zero-in-Binary.ensures ∙ ap below_zero t,
      c.may_fall-in-Binary.ensures,
    )
