-- The parity of nine bits by a count of them, as the code computes it for one character.
use Rattle.std.proofs.Common.{◌≡◌, ℕ, ◌%◌, eqb, refl, ap, ◌∙◌, mod-lt, lit<, eqb-true}
use lib.Count.{ones, ones_in}
use Rattle.base_characters.specs.Characters.{odd}
use Rattle.base_characters.proofs.Laws.CharacterLaws.{ones_low}
use Rattle.base_rules.proofs.Laws.Tests.{below}

pub counted_odd : (c : ℕ) → eqb (ones (c % 512) % 2) 1 ≡ odd c
unfolding odd ones ones_in
counted_odd c =
    ap (λ (n : ℕ). eqb (n % 2) 1)
    (eqb-true (ones (c % 512)) (ones_in 9 (c % 512)) (below 512 (λ (n : ℕ). eqb (ones n) (ones_in 9 n)) refl (c % 512) (mod-lt c (lit< tt))) ∙ ones_low 9 c)
