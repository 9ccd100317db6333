-- `text_stretches::width_of` meets its contract: a digit is taken off in each turn.
use native.Mathlib.Omega.{arith}
use Prim.Native.Nat.{◌/◌}
use lib.ListN.{length-append}
use Rattle.text_filling.specs.Decimals.{last_digit, digits}
use Rattle.text_filling.proofs.Laws.DecimalLaws.{decimal_few}
use Rattle.text_stretches.proofs.Laws.Stretches.{digits_less, digits_end}
use Rattle.text_stretches.proofs.width_of.Goals as goal

pub loop-rest-init : goal.loop-rest-init
loop-rest-init c =
    let n = c.args.n in
    (omega arith, omega (arith, length-append (digits (n / 10)) (last_digit n)))

pub overflow_add-size : goal.overflow_add-size
overflow_add-size c = omega (arith, c.loop-rest.invariant.0)

pub loop-rest-preserved : goal.loop-rest-preserved
loop-rest-preserved c =
    let l = c.loop-rest in
    let n = c.args.n in
    let less = digits_less l.rest c.loop-rest-test.true in
    (omega (arith, less, l.invariant.1, decimal_few 19 n (omega arith)), omega (arith, less, l.invariant.1))

pub returns : goal.returns
returns c = omega (arith, c.loop-rest.invariant.1, digits_end c.loop-rest.rest c.loop-rest-test.false)
