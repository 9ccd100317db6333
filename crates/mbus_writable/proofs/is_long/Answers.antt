-- `mbus_writable::is_long` meets its contract: each sign by its law.
use Prim.Native.Nat.{ℕ, ◌^◌}
use mathlib.Core.Path.{◌≡◌, sym, ap, ◌∙◌}
use lib.IntN.{nat_abs}
use mir.Syntax.{w64}
use mir.ValLaws.{to_z-of_z}
use Rattle.base_numbers.specs.TwosComplement.{below_zero}
use Rattle.mbus_rules.specs.Quantities.{width_of}
use Rattle.mbus_rules.proofs.Laws.RowLaws.{width_most}
use Rattle.mbus_writable.proofs.Laws.Sizes.{limit_some, long_below, long_above}
use Rattle.mbus_writable.proofs.is_long.Goals.{After-limit_of-limit}
use Rattle.mbus_writable.proofs.is_long.Goals as goal

pub limit_of-limit-requires : goal.limit_of-limit-requires
limit_of-limit-requires c = rw c.width_of.ensures (width_most c.args.structure)

-- the limit, by the width of the structure
limit : (c : After-limit_of-limit) → c.limit_of-limit.result ≡ 100 ^ width_of c.args.structure
limit c = c.limit_of-limit.ensures ∙ ap (λ (w : ℕ). 100 ^ w) c.width_of.ensures

pub overflow_sub-result : goal.overflow_sub-result
overflow_sub-result c =
    rw (limit (goal.at.overflow_sub-result c).After-limit_of-limit) (limit_some (width_of c.args.structure))

pub returns-then-is_below_zero : goal.returns-then-is_below_zero
returns-then-is_below_zero c =
    let a = c.args in
    let t = to_z-of_z w64 a.count c.ranges.count in
    rw (limit (goal.at.returns-then-is_below_zero c).After-limit_of-limit, c.size_of-size.ensures ∙ ap nat_abs t)
    (long_below (width_of a.structure) a.count (sym (c.is_below_zero.ensures ∙ ap below_zero t) ∙ c.if-is_below_zero.true))

pub returns : goal.returns
returns c =
    let a = c.args in
    let t = to_z-of_z w64 a.count c.ranges.count in
    rw (limit (goal.at.returns c).After-limit_of-limit, c.size_of-size.ensures ∙ ap nat_abs t)
    (long_above (width_of a.structure) a.count (sym (c.is_below_zero.ensures ∙ ap below_zero t) ∙ c.if-is_below_zero.false))
