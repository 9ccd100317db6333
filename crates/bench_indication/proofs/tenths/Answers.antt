-- `tenths` meets its contract: each sign by its law. What `nearest` gives is at most 1000 times a count, so the type holds it.
use Prim.Native.Nat.{ℕ, ◌-◌, ◌*◌, ◌^◌, ◌<◌}
use mathlib.Core.Path.{sym, ap, ◌∙◌}
use native.Mathlib.Omega.{arith}
use lib.IntN.{pos, neg_ℤ}
use mir.Syntax.{w64}
use mir.ValLaws.{to_z-of_z}
use Rattle.base_numbers.proofs.Laws.Negation.{negation_fits, negated}
use Rattle.base_numbers.proofs.Laws.Rounding.{nearest_most}
use Rattle.bench_indication.proofs.Laws.Errors.{tenths_more, tenths_less}
use Rattle.bench_indication.proofs.tenths.Goals as goal

pub returns-then-meter-standard : goal.returns-then-meter-standard
returns-then-meter-standard c =
    let a = c.args in
    let n = c.nearest.result in
    let fits : n < 2 ^ 63 = omega (arith, c.nearest.ensures, nearest_most (1000 * (a.standard - a.meter)) a.standard (omega arith)) in
    rw (negated n fits, to_z-of_z w64 (neg_ℤ (pos n)) (negation_fits n fits), tenths_less a.meter a.standard c.if-meter-standard.true)
    (ap (λ (k : ℕ). neg_ℤ (pos k)) c.nearest.ensures)

pub overflow_cast-result-2 : goal.overflow_cast-result-2
overflow_cast-result-2 c =
    let a = c.args in
    omega (arith, c.nearest-2.ensures, nearest_most (1000 * (a.meter - a.standard)) a.standard (omega arith))

pub returns : goal.returns
returns c =
    let a = c.args in
    to_z-of_z w64 (pos c.nearest-2.result) (overflow_cast-result-2 c)
    ∙ rw c.nearest-2.ensures (sym (tenths_more a.meter a.standard c.if-meter-standard.false))
