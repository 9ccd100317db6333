-- `base_digits::count_of` meets its contract, step by step.
use mathlib.Core.Path.{refl}
use native.Mathlib.Omega.{arith}
use Rattle.base_digits.proofs.Laws.JoinLaws.{word_joins}
use Rattle.base_digits.proofs.count_of.Goals as goal

pub overflow_mul-twos : goal.overflow_mul-twos
overflow_mul-twos c = let j = word_joins c.args.word _ _ _ (omega arith) refl refl refl in omega (arith, j.first)

pub overflow_sub-twos : goal.overflow_sub-twos
overflow_sub-twos c = let j = word_joins c.args.word _ _ _ (omega arith) refl refl refl in omega (arith, j.first)

pub overflow_mul-fours : goal.overflow_mul-fours
overflow_mul-fours c = let j = word_joins c.args.word _ _ _ (omega arith) refl refl refl in omega (arith, j.second)

pub overflow_sub-fours : goal.overflow_sub-fours
overflow_sub-fours c = let j = word_joins c.args.word _ _ _ (omega arith) refl refl refl in omega (arith, j.second)

pub overflow_mul-eights : goal.overflow_mul-eights
overflow_mul-eights c = let j = word_joins c.args.word _ _ _ (omega arith) refl refl refl in omega (arith, j.third)

pub overflow_sub-eights : goal.overflow_sub-eights
overflow_sub-eights c = let j = word_joins c.args.word _ _ _ (omega arith) refl refl refl in omega (arith, j.third)

pub returns : goal.returns
returns c = (word_joins c.args.word _ _ _ (omega arith) refl refl refl).so
