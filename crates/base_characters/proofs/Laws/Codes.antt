-- Lines whose bytes keep a rule that no single byte and no further byte escapes: flips are refused, beginnings and cuts are settled.
use Rattle.std.proofs.Common.{◌≡◌, ℕ, suc, ◌%◌, ◌<◌, ◌≤◌, true, false, not, eqb, ◌≢◌, ◌⊎◌, List, [], ◌∷◌, ◌++◌, map, length, take, drop, set, sym, refl, ap, ◌∙◌, subst, inl, inr, ⊎_elim, true≢false, append-nil, arith, length-set, get_or-set_same, ltb-false, eq-eqb, eqb-true}
use mathlib.Core.List.Memᴰ
use mathlib.Core.List.{flatten}
use mathlib.Core.List.{map-append, append_cancel_left, head-eq_of_cons-eq, tail-eq_of_cons-eq, nil≢cons}
use mathlib.Core.Logic.{⊎_map}
use lib.Seq.{set_split, set-get_or}
use borrow.Author.Tests.{eqb-false}
use Rattle.base_rules.specs.Lists.{at, any}
use Rattle.base_rules.proofs.Laws.Tests.{by_test, neither, none_at}
use Rattle.base_characters.specs.Characters.{over, odd, byte_of}
use Rattle.base_characters.proofs.Laws.CharacterLaws.{same_character, flip_odd, flip_twice}
use Rattle.base_characters.specs.Flips.{Place, flip, flips, outside, same_place, repeated, Places}
use Rattle.base_characters.proofs.Laws.FlipLaws.{within_line, flips_even, flip_together, flip_apart}
use Rattle.base_rules.specs.Each.{Each}

-- A sound line has no character over 511 and no odd parity, and its bytes keep a rule.
pub record Sound (Rule : List ℕ → Type 0) (s : List ℕ) : Type 0 where
  pub in_range : any over s ≡ false
  pub even : any odd s ≡ false
  pub bytes : Rule (map byte_of s)

-- What is asked. Accepted lines are sound; two lists of bytes that keep the rule and differ in one place at most are the same; the rule
-- admits no proper extension; the empty line is not accepted.
pub record Code (Accepted Rule : List ℕ → Type 0) : Type 0 where
  pub sound : (s : List ℕ) → Accepted s → Sound Rule s
  pub one_byte : (p q : List ℕ) (x y : ℕ) → x < 256 → y < 256 → Rule (p ++ x ∷ q) → Rule (p ++ y ∷ q) → x ≡ y
  pub no_longer : (b c : List ℕ) → Rule b → Rule (b ++ c) → c ≡ []
  pub not_empty : ¬ Accepted []

-- ---- lists

-- of two beginnings of one list, one begins the other
nested : (s t u v : List ℕ) → s ++ u ≡ t ++ v → ((w : List ℕ) × (t ≡ s ++ w)) ⊎ ((w : List ℕ) × (s ≡ t ++ w))
nested [] t u v e = inl (t, refl)
nested (x ∷ s) [] u v e = inr (x ∷ s, refl)
nested (x ∷ s) (y ∷ t) u v e =
    ⊎_map (λ l. (l.0, cc (head-eq_of_cons-eq e, l.1))) (λ r. (r.0, cc (head-eq_of_cons-eq e, r.1))) (nested s t u v (tail-eq_of_cons-eq e))

map_nil : (s : List ℕ) → map byte_of s ≡ [] → s ≡ []
map_nil [] e = refl
map_nil (x ∷ s) e = absurd (nil≢cons (sym e))

append_nothing : (s t : List ℕ) → s ++ t ≡ [] → s ≡ []
append_nothing [] t e = refl
append_nothing (x ∷ s) t e = absurd (nil≢cons (sym e))

bytes_set : (s : List ℕ) (i c : ℕ) → i < length s → map byte_of (set s i c) ≡ map byte_of (take i s) ++ byte_of c ∷ map byte_of (drop (suc i) s)
bytes_set s i c h = ap (map byte_of) (set_split s i c h) ∙ map-append byte_of (take i s) (c ∷ drop (suc i) s)

sound_at : {Rule : List ℕ → Type 0} (s : List ℕ) (i : ℕ) → i < length s → Sound Rule s → (at s i ≤ 511) × (odd (at s i) ≡ false)
sound_at s i h sound = (ltb-false 511 (at s i) (none_at over s 0 i sound.in_range h), none_at odd s 0 i sound.even h)

-- ---- what follows

module _ {Accepted Rule : List ℕ → Type 0} (code : Code Accepted Rule) where
  -- An accepted line with another character in one place is not accepted.
  one_character : (s : List ℕ) (i c : ℕ) → i < length s → Accepted s → Accepted (set s i c) → c ≡ at s i
  one_character s i c h a b =
      let old = code.sound s a in
      let new = code.sound (set s i c) b in
      let old-at = sound_at s i h old in
      let new-at : (c ≤ 511) × (odd c ≡ false) = rw (get_or-set_same s i c 0 h) at (sound_at (set s i c) i (rw length-set h) new) in
      let old-bytes = subst Rule (ap (map byte_of) (sym (set-get_or s i 0)) ∙ bytes_set s i (at s i) h) old.bytes in
      let new-bytes = subst Rule (bytes_set s i c h) new.bytes in
      let before = map byte_of (take i s) in
      let after = map byte_of (drop (suc i) s) in
      let byte : byte_of c ≡ byte_of (at s i) = code.one_byte before after _ _ (omega arith) (omega arith) new-bytes old-bytes in
      same_character c (at s i) new-at.0 old-at.0 byte (new-at.1 ∙ sym old-at.1)

  two_in_one : (s : List ℕ) (p q : Place) → p.character < length s → p.character ≡ q.character
      → Accepted s → Accepted (flip p (flip q s)) → same_place p q ≡ true
  two_in_one s p q h e a b =
      let back = one_character s p.character _ h a (subst Accepted (flip_together s p q h e) b) in
      rw (eq-eqb _ _ e, eq-eqb _ _ (flip_twice p.bit q.bit (at s p.character) back))

  two_in_two : (s : List ℕ) (p q : Place) → p.character < length s → p.bit < 9 → p.character ≢ q.character
      → Accepted s → ¬ Accepted (flip p (flip q s))
  two_in_two s p q h k n a b =
      let was = (sound_at s p.character h (code.sound s a)).1 in
      let is = (sound_at (flip p (flip q s)) p.character (rw (length-set, length-set) h) (code.sound _ b)).1 in
      let turned = ap odd (flip_apart s p q h n) ∙ flip_odd p.bit (at s p.character) k in
      true≢false (ap not (sym was) ∙ sym turned ∙ is)

  two_flips : (s : List ℕ) (p q : Place) → Accepted s → Places s (p ∷ q ∷ []) → ¬ Accepted (flip p (flip q s))
  unfolding any repeated
  two_flips s p q a places b =
      let inside = within_line s p (neither (outside s p) (any (outside s) (q ∷ [])) places.within).0 in
      let not-q : any (same_place p) (q ∷ []) ≡ false = (neither (any (same_place p) (q ∷ [])) (repeated (q ∷ [])) places.different).0 in
      let different : same_place p q ≡ false = (neither (same_place p q) (any (same_place p) []) not-q).0 in
      by_test (eqb p.character q.character)
      (λ e. true≢false (sym (two_in_one s p q inside.0 (eqb-true _ _ e) a b) ∙ different))
      (λ e. two_in_two s p q inside.0 inside.1 (eqb-false _ _ e) a b)

  -- An odd number of flips leaves an odd parity somewhere.
  odd_flips : (s : List ℕ) (ps : List Place) → Accepted s → Places s ps → Accepted (flips ps s) → length ps % 2 ≢ 1
  odd_flips s ps a places b n = omega (arith, flips_even ps s places.within (code.sound s a).even (code.sound (flips ps s) b).even)

  -- One, two or three different places within an accepted line: the line flipped there is not accepted.
  pub flips_refused : (s : List ℕ) (ps : List Place) → Accepted s → Places s ps → 1 ≤ length ps → length ps ≤ 3 → ¬ Accepted (flips ps s)
  unfolding flips
  flips_refused s [] a places some few b = omega arith
  flips_refused s (p ∷ []) a places some few b = odd_flips s (p ∷ []) a places b refl
  flips_refused s (p ∷ q ∷ []) a places some few b = two_flips s p q a places b
  flips_refused s (p ∷ q ∷ r ∷ []) a places some few b = odd_flips s (p ∷ q ∷ r ∷ []) a places b refl
  flips_refused s (p ∷ q ∷ r ∷ t ∷ ps) a places some few b = omega arith

  -- No accepted line is a proper beginning of another.
  pub no_proper_beginning : (s t : List ℕ) → Accepted s → Accepted (s ++ t) → t ≡ []
  no_proper_beginning s t a b =
      map_nil t (code.no_longer (map byte_of s) (map byte_of t) (code.sound s a).bytes (rw map-append at (code.sound (s ++ t) b).bytes))

  whole : (s t w : List ℕ) → Accepted s → Accepted t → t ≡ s ++ w → s ≡ t
  whole s t w a b e =
      let none : w ≡ [] = no_proper_beginning s w a (subst Accepted e b) in
      cc (append-nil s)

  one_beginning : (s t u v : List ℕ) → Accepted s → Accepted t → s ++ u ≡ t ++ v → s ≡ t
  one_beginning s t u v a b e = ⊎_elim (λ l. whole s t l.0 a b l.1) (λ r. sym (whole t s r.0 b a r.1)) (nested s t u v e)

  not_nothing : (s t : List ℕ) → Accepted s → s ++ t ≢ []
  not_nothing s t a e = code.not_empty (subst Accepted (append_nothing s t e) a)

  -- Lists of accepted lines whose joins are equal are equal.
  pub one_cut : (ss ts : List (List ℕ)) → Each Accepted ss → Each Accepted ts → flatten ss ≡ flatten ts → ss ≡ ts
  unfolding flatten
  one_cut [] [] a b e = refl
  one_cut [] (t ∷ ts) a b e = absurd (not_nothing t (flatten ts) (b t (Memᴰ.head refl)) (sym e))
  one_cut (s ∷ ss) [] a b e = absurd (not_nothing s (flatten ss) (a s (Memᴰ.head refl)) e)
  one_cut (s ∷ ss) (t ∷ ts) a b e =
      let first : s ≡ t = one_beginning s t (flatten ss) (flatten ts) (a s (Memᴰ.head refl)) (b t (Memᴰ.head refl)) e in
      let rest : flatten ss ≡ flatten ts = append_cancel_left s (flatten ss) (flatten ts) (rw (← first) at e) in
      cc (first, one_cut ss ts (λ u m. a u (Memᴰ.tail m)) (λ u m. b u (Memᴰ.tail m)) rest)
