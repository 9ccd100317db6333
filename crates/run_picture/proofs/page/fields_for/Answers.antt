-- `run_picture::page::fields_for` meets its contract.
use Prim.Native.Nat.{◌+◌, ◌*◌, ◌/◌}
use mathlib.Core.Path.{◌∙◌}
use Rattle.std.proofs.Math.Nat.{max_comm}
use native.Mathlib.Nat.{div-le_self}
use native.Mathlib.Omega.{arith}
use Rattle.run_picture.proofs.page.fields_for.Goals as goal

pub overflow_add-whole : goal.overflow_add-whole
overflow_add-whole c = omega (arith, div-le_self c.args.end (240 * c.args.scale))

pub returns : goal.returns
returns c =
    let whole = div-le_self c.args.end (240 * c.args.scale) in
    (c.max.ensures ∙ max_comm (c.args.end / (240 * c.args.scale) + 1) 5, omega (arith, whole, c.max.ensures))
