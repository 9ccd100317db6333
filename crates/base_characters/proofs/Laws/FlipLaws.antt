-- Laws of flips on a line: what they do to parities, and what two of them do.
use Rattle.std.proofs.Common.{◌≡◌, ℕ, zero, suc, ◌+◌, ◌%◌, ◌<◌, false, ◌≢◌, List, [], ◌∷◌, map, length, set, refl, ap, ◌∙◌, le_of_suc-le-suc, not-suc-le-zero, arith, length-set, get_or-set_other, get_or-set_same, set-set, leb-false}
use lib.Count.{ones_in}
use borrow.Author.Tests.{eqb-false}
use Rattle.base_rules.specs.Lists.{at, any, total}
use Rattle.base_rules.proofs.Laws.Tests.{neither}
use Rattle.base_characters.specs.Characters.{odd}
use Rattle.base_characters.proofs.Laws.CharacterLaws.{flip_ones}
use Rattle.base_characters.specs.Flips.{Place, flip_bit, flip, flips, outside}

pub within_line : (s : List ℕ) (p : Place) → outside s p ≡ false → (p.character < length s) × (p.bit < 9)
within_line s p e = let both = neither _ _ e in (leb-false _ _ both.0, leb-false _ _ both.1)

-- ---- the ones of a line

ones : List ℕ → ℕ
ones s = total (map (ones_in 9) s)

ones_set : (s : List ℕ) (i v : ℕ) → i < length s → ones (set s i v) + ones_in 9 (at s i) ≡ ones s + ones_in 9 v
unfolding ones total
ones_set [] i v h = absurd (not-suc-le-zero h)
ones_set (x ∷ s) zero v h = omega arith
ones_set (x ∷ s) (suc i) v h = omega (arith, ones_set s i v (le_of_suc-le-suc h))

-- A line without an odd parity has an even number of ones.
ones_even : (s : List ℕ) → any odd s ≡ false → ones s % 2 ≡ 0
unfolding ones total any odd
ones_even [] e = refl
ones_even (x ∷ s) e =
    let both = neither (odd x) (any odd s) e in
    let even : ones_in 9 x % 2 ≢ 1 = eqb-false _ _ both.0 in
    omega (arith, ones_even s both.1)

pub length_flips : (ps : List Place) (s : List ℕ) → length (flips ps s) ≡ length s
unfolding flips
length_flips [] s = refl
length_flips (p ∷ ps) s = length-set (flips ps s) p.character _ ∙ length_flips ps s

-- Each flip makes an even number odd, and an odd one even.
ones_flips : (ps : List Place) (s : List ℕ) → any (outside s) ps ≡ false → ones (flips ps s) % 2 ≡ (ones s + length ps) % 2
unfolding flips any
ones_flips [] s e = omega arith
ones_flips (p ∷ ps) s e =
    let both = neither (outside s p) (any (outside s) ps) e in
    let inside = within_line s p both.0 in
    let c = at (flips ps s) p.character in
    let moved = ones_set (flips ps s) p.character (flip_bit p.bit c) (rw length_flips inside.0) in
    omega (arith, moved, flip_ones p.bit c inside.1, ones_flips ps s both.1)

-- So lines without an odd parity lie an even number of flips apart.
pub flips_even : (ps : List Place) (s : List ℕ) → any (outside s) ps ≡ false → any odd s ≡ false → any odd (flips ps s) ≡ false
    → length ps % 2 ≡ 0
flips_even ps s e h k = omega (arith, ones_flips ps s e, ones_even s h, ones_even (flips ps s) k)

-- ---- two flips, in one character or in two

pub flip_together : (s : List ℕ) (p q : Place) → p.character < length s → p.character ≡ q.character
    → flip p (flip q s) ≡ set s p.character (flip_bit p.bit (flip_bit q.bit (at s p.character)))
flip_together s p q h e = rw (← e, set-set, get_or-set_same)

pub flip_apart : (s : List ℕ) (p q : Place) → p.character < length s → p.character ≢ q.character
    → at (flip p (flip q s)) p.character ≡ flip_bit p.bit (at s p.character)
flip_apart s p q h n =
    get_or-set_same (flip q s) p.character _ 0 (rw length-set h)
    ∙ ap (flip_bit p.bit) (get_or-set_other s q.character p.character _ 0 n)
