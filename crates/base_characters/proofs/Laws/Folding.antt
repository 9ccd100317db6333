-- The parity of nine bits by folding them onto the lowest one, as the code computes it.
use Rattle.std.proofs.Common.{◌≡◌, ℕ, ◌/◌, ◌%◌, eqb, refl, ap, ◌∙◌, mod-lt, lit<, eqb-true}
use lib.Bits.{bit_xor}
use lib.Count.{ones_in}
use Rattle.base_characters.specs.Characters.{odd}
use Rattle.base_characters.proofs.Laws.CharacterLaws.{ones_low}
use Rattle.base_rules.proofs.Laws.Tests.{below}

-- the exclusive or of a number with itself moved down
abbrev pub fold : ℕ → ℕ → ℕ
fold by x = bit_xor x (x / by)

abbrev pub folded : ℕ → ℕ
folded c = fold 2 (fold 4 (fold 16 (fold 256 c))) % 2

pub folded_ones : (c : ℕ) → folded (c % 512) ≡ ones_in 9 c % 2
unfolding ones_in
folded_ones c =
    eqb-true (folded (c % 512)) (ones_in 9 (c % 512) % 2) (below 512 (λ (n : ℕ). eqb (folded n) (ones_in 9 n % 2)) refl (c % 512) (mod-lt c (lit< tt)))
    ∙ ap (λ (n : ℕ). n % 2) (ones_low 9 c)

pub folded_odd : (c : ℕ) → eqb (folded (c % 512)) 1 ≡ odd c
unfolding odd
folded_odd c = ap (λ (n : ℕ). eqb n 1) (folded_ones c)
