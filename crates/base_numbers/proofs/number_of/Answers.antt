-- `base_numbers::number_of` meets its contract.
use Rattle.std.proofs.Common.{◌∙◌, ap, ◌++◌, arith, drop, length, List, ℕ, ◌∷◌, []}
use Rattle.std.specs.Int.{w64, from_le_bytes}
use Rattle.base_numbers.proofs.Laws.NumberLaws.{number_padded, number_small}
use Rattle.base_numbers.proofs.number_of.Goals as goal

pub returns : goal.returns
returns c =
    let s = c.args.s.now in
    number_small s (λ i. omega (arith, c.type_inv.s i))
    (c.from_le_bytes.ensures
    ∙ ap (λ (b : List ℕ). from_le_bytes w64 (b ++ drop (length s) (0 ∷ 0 ∷ 0 ∷ 0 ∷ 0 ∷ 0 ∷ 0 ∷ 0 ∷ []))) c.copy_from_slice.ensures.after
    ∙ number_padded s c.requires)
