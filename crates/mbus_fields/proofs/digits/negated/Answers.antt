-- `mbus_fields::digits::negated` meets its contract: of a size below 2 ^ 63 the signed reading is the size, and the type holds its negation.
use lib.IntN.{pos, neg_ℤ}
use mir.Syntax.{w64}
use mir.ValLaws.{to_z-of_z}
use Rattle.base_numbers.proofs.Laws.Negation.{negation_fits, negated}
use Rattle.mbus_fields.proofs.digits.negated.Goals as goal

pub overflow_sub-result : goal.overflow_sub-result
overflow_sub-result c = rw (negated c.args.size c.requires) (negation_fits c.args.size c.requires)

pub returns : goal.returns
returns c = rw (negated c.args.size c.requires) (to_z-of_z w64 (neg_ℤ (pos c.args.size)) (negation_fits c.args.size c.requires))
