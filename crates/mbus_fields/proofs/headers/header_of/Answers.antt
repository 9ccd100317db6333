-- `mbus_fields::headers::header_of` meets its contract: four bytes of digits fit the number.
use Prim.Native.Nat.{ℕ, ◌<◌}
use native.Mathlib.Omega.{arith}
use Rattle.base_rules.specs.Lists.{at}
use Rattle.base_digits.proofs.Laws.GatherLaws.{number_fits}
use Rattle.mbus_fields.proofs.headers.header_of.Goals as goal

pub overflow_cast-number : goal.overflow_cast-number
overflow_cast-number c =
    let part = c.args.part.now in
    let byte : (i : ℕ) → at part i < 256 = λ i. omega (arith, c.type_inv.part i) in
    rw c.number_of-digits.ensures (omega (arith, number_fits part byte))
