-- Characters that come as bytes, two per character: how many there are, which stands at each place, and the walks over them.
use Rattle.std.proofs.Common.{◌≡◌, ℕ, zero, suc, ◌+◌, ◌*◌, ◌/◌, ◌<◌, ◌≤◌, Bool, true, false, ◌||◌, List, [], ◌∷◌, map, length, drop, sym, refl, ◌∙◌, subst, arith}
use Rattle.std.specs.Int.{w16, from_le_bytes}
use lib.ListN.{length-map, get_or-eq_default}
use Rattle.base_rules.specs.Lists.{at, any}
use Rattle.base_characters.specs.Characters.{byte_of, chars}
use Rattle.base_rules.proofs.Laws.ListLaws.{Gathered, gathered_next, gathered_all}

pub length_characters : (s : List ℕ) → length (chars s) ≡ length s / 2
unfolding chars
length_characters [] = refl
length_characters (low ∷ []) = refl
length_characters (low ∷ (high ∷ s)) = rw (length_characters s) (omega arith)

pub character_at : (s : List ℕ) (i : ℕ) → i < length s / 2 → at (chars s) i ≡ at s (2 * i) + 256 * at s (2 * i + 1)
unfolding chars
character_at [] i h = omega arith
character_at (low ∷ []) i h = omega arith
character_at (low ∷ (high ∷ s)) zero h = refl
character_at (low ∷ (high ∷ s)) (suc i) h =
    let e : 2 * suc i ≡ suc (suc (2 * i)) = omega arith in
    let f : 2 * suc i + 1 ≡ suc (suc (2 * i + 1)) = omega arith in
    rw (f, e) (character_at s i (omega arith))

-- as the library reads two bytes
pub pair_read : (s : List ℕ) (i : ℕ) → i < length s / 2 → from_le_bytes w16 (at s (2 * i) ∷ at s (2 * i + 1) ∷ []) ≡ at (chars s) i
pair_read s i h = omega (arith, character_at s i h)

pub character_none : (s : List ℕ) (i : ℕ) → length s / 2 ≤ i → at (chars s) i ≡ 0
character_none s i h = get_or-eq_default (chars s) 0 (omega (arith, length_characters s))

-- A loop that asks each character the same.
module _ {test : ℕ → Bool} (s : List ℕ) {i : ℕ} {found : Bool} (g : Gathered test (chars s) i found) where
  pub characters_next : i < length s / 2 → {c : ℕ} → c ≡ at (chars s) i → Gathered test (chars s) (i + 1) (found || test c)
  characters_next h e = rw e (gathered_next 0 g (omega (arith, length_characters s)))

  pub characters_all : length s / 2 ≤ i → found ≡ any test (chars s)
  characters_all h = gathered_all g (omega (arith, length_characters s))

-- a loop that leaves at the first hit
module _ {test : ℕ → Bool} (b : List ℕ) {i : ℕ} (g : Gathered test (chars b) i false) (h : i < length b / 2) {c : ℕ} (e : c ≡ at (chars b) i) where
  pub pairs_hit : test c ≡ true → any test (chars b) ≡ true
  pairs_hit t = sym (subst (λ (found : Bool). Gathered test (chars b) (i + 1) found) t (characters_next b g h e)).so

  pub pairs_miss : test c ≡ false → Gathered test (chars b) (i + 1) false
  pairs_miss t = subst (λ (found : Bool). Gathered test (chars b) (i + 1) found) t (characters_next b g h e)

-- the rest of the characters
pub chars_drop : (b : List ℕ) (i : ℕ) → chars (drop (2 * i) b) ≡ drop i (chars b)
unfolding chars
chars_drop b zero = refl
chars_drop [] (suc i) = let e : 2 * suc i ≡ suc (suc (2 * i)) = omega arith in rw e
chars_drop (low ∷ []) (suc i) = let e : 2 * suc i ≡ suc (suc (2 * i)) = omega arith in rw e
chars_drop (low ∷ (high ∷ b)) (suc i) = let e : 2 * suc i ≡ suc (suc (2 * i)) = omega arith in rw e (chars_drop b i)

pub length_lows : (b : List ℕ) → length (map byte_of (chars b)) ≡ length b / 2
length_lows b = length-map (chars b) byte_of ∙ length_characters b
