-- `base_characters::told_by` meets its contract.
use Rattle.std.proofs.Common.{◌≡◌, ◌%◌, ◌<◌, eqb, ltb, arith, ltb-true, le-ltb, lt-ltb, eq-eqb, ne_eqb, eqb-true}
use mathlib.Core.Bool.{and-eq-true_iff}
use borrow.Author.Tests.{eqb-false}
use Rattle.base_characters.proofs.told_by.Goals as goal

pub returns-then-flags : goal.returns-then-flags
returns-then-flags c =
    let f = c.args.flags in
    let both = (and-eq-true_iff (ltb f 512) (eqb (f % 2) 0)).0 c.if-flags.true in
    let low : f < 512 = ltb-true f 512 both.0 in
    let even : f % 2 ≡ 0 = eqb-true (f % 2) 0 both.1 in
    rw (le-ltb 511 f (omega arith), ne_eqb (f % 2) 1 (omega arith))

pub returns-then-flags-gt511 : goal.returns-then-flags-gt511
returns-then-flags-gt511 c = rw (lt-ltb _ _ c.if-flags-gt511.true)

pub returns : goal.returns
returns c =
    let f = c.args.flags in
    let low : f < 512 = omega (arith, c.if-flags-gt511.false) in
    let odd = eqb-false (f % 2) 0 (rw (lt-ltb f 512 low) at c.if-flags.false) in
    rw (le-ltb _ _ c.if-flags-gt511.false, eq-eqb (f % 2) 1 (omega (arith, odd)))
