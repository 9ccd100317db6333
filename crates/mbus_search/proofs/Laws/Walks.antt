-- What the two walks of the search hold on to.
use Rattle.std.specs.Prelude.{Result, Ok, Err}
use Rattle.std.proofs.Common.{◌≡◌, ℕ, suc, ◌+◌, ◌-◌, ◌%◌, ◌<◌, ◌≤◌, Bool, true, false, ◌||◌, leb, List, [], ◌∷◌, map, take, drop, set, sym, refl, ap, ◌∙◌, subst, ap₂, true≢false, zero-le, add-one, arith, length-drop, length-set, drop_of_length-le, length-take-le, take_all, drop-cons, get_or-take, take-suc, take-suc-set, leb-true}
use mathlib.Core.Bool.{and-eq-true_iff}
use mathlib.Core.List.{map-append}
use lib.ListN
use lib.ListN.{length-map}
use Rattle.base_rules.specs.Lists.{at, total}
use Rattle.base_characters.specs.Characters.{over, odd, byte_of}
use Rattle.base_rules.specs.Answers.{Answer, reads, refusal}
use Rattle.base_characters.proofs.Laws.Closing.{total_append}
use Rattle.base_rules.proofs.Laws.ListLaws.{Gathered, gathered_none, gathered_next, gathered_all}
use Rattle.base_rules.proofs.Laws.Tests.{by_test, none_at, neither}
use Rattle.base_characters.proofs.Laws.Codes.{Sound}
use Rattle.mbus_rules.proofs.Laws.Frames.{Framed}
use Rattle.mbus_rules.specs.Lines.{read_body, read_line}
use Rattle.mbus_shape.specs.Shapes.{frame_by}
use Rattle.mbus_shape.proofs.Laws.FirstLaws.{left_most}
use Rattle.mbus_shape.proofs.Laws.WholeLaws.{frame_whole}
use Rattle.mbus_reading.proofs.Laws.TakingLaws.{sound_line}
use Rattle.base_rules.specs.declared.refusals.Refusal.{Refusal}
use Rattle.base_rules.specs.Shown.{shown, refused_by}
use Rattle.mbus_search.specs.declared.Spot.{Spot}
use Rattle.mbus_search.specs.Searching.{accepts, length_here, spot_at, further, or_else, find_in, moved_by}
use Rattle.mbus_search.specs.Ending.{ends_in}
use Rattle.mbus_search.proofs.Laws.SearchLaws.{left_at, accepted_sound, accepted_ends, here_hit, here_none}

moved_further : (k : ℕ) (a : Answer Spot) → moved_by k (further a) ≡ moved_by (k + 1) a
moved_further k (refusal n) = refl
moved_further k (reads p) = let e : k + (p.place + 1) ≡ k + 1 + p.place = omega arith in ap (λ (x : ℕ). reads (record { place = x; length = p.length })) e

-- The walk over places: no line begins at a place before.
pub record Searched (s : List ℕ) (place : ℕ) (found : Result Spot Refusal) : Type 0 where
  pub inside : place ≤ ListN.length s
  pub nothing : found ≡ Err (refused_by 18)
  pub so : moved_by place (find_in (drop place s)) ≡ find_in s

moved_none : (a : Answer Spot) → moved_by 0 a ≡ a
moved_none (refusal n) = refl
moved_none (reads p) = let e : 0 + p.place ≡ p.place = omega arith in ap (λ (x : ℕ). reads (record { place = x; length = p.length })) e

pub searched_none : {s : List ℕ} → Searched s 0 (Err (refused_by 18))
searched_none {s} = record { inside = zero-le; nothing = refl; so = moved_none (find_in s) }

-- the rest of the capture from a place on, as the code cuts it out
pub cut_is : (s : List ℕ) (place : ℕ) → take (ListN.length s - place) (drop place s) ≡ drop place s
cut_is s place = take_all (ListN.length s - place) (drop place s) (omega (arith, length-drop place s))

find_here : (s : List ℕ) (place : ℕ) → place < ListN.length s → find_in (drop place s) ≡ or_else (length_here (drop place s))
    (further (find_in (drop (place + 1) s)))
unfolding find_in
find_here s place h =
    rw add-one
    (ap find_in (drop-cons s place 0 h) ∙ ap (λ (l : List ℕ). or_else (length_here l) (further (find_in (drop (suc place) s)))) (sym (drop-cons s place 0 h)))

pub searched_next : {s : List ℕ} {place : ℕ} {found next : Result Spot Refusal} → Searched s place found → next ≡ Err (refused_by 18) → place < ListN.length s
    → length_here (take (ListN.length s - place) (drop place s)) ≡ refusal 18 → Searched s (place + 1) next
searched_next {s} {place} w n h e = record {
  inside = omega arith;
  nothing = n;
  so =
      sym (moved_further place (find_in (drop (place + 1) s)))
      ∙ ap (moved_by place)
      (sym (find_here s place h ∙ ap (λ (a : Answer ℕ). or_else a (further (find_in (drop (place + 1) s)))) (ap length_here (sym (cut_is s place)) ∙ e)))
      ∙ w.so;
}

pub searched_all : {s : List ℕ} {place : ℕ} {found : Result Spot Refusal} → Searched s place found → ListN.length s ≤ place → found ≡ shown (find_in s)
unfolding find_in
searched_all {s} {place} w h =
    w.nothing ∙ ap shown (ap (λ (l : List ℕ). moved_by place (find_in l)) (sym (drop_of_length-le s h)) ∙ w.so)

pub searched_hit : {s : List ℕ} {place : ℕ} {found : Result Spot Refusal} → Searched s place found → place < ListN.length s → (n : ℕ)
    → length_here (take (ListN.length s - place) (drop place s)) ≡ reads n → Ok (spot_at place n) ≡ shown (find_in s)
searched_hit {s} {place} w h n e =
    let zero_more : place ≡ place + 0 = omega arith in
    ap (λ (x : ℕ). Ok (spot_at x n)) zero_more
    ∙ ap shown
    (ap (moved_by place)
    (sym (find_here s place h ∙ ap (λ (a : Answer ℕ). or_else a (further (find_in (drop (place + 1) s)))) (ap length_here (sym (cut_is s place)) ∙ e))) ∙ w.so)

-- ---- the walk over the characters of the one line that can begin here

-- a character that is over 511 or odd is in no accepted line
pub unsound_none : (s : List ℕ) (i : ℕ) → i < left_at s → (over (at s i) || odd (at s i)) ≡ true → length_here s ≡ refusal 18
unsound_none s i h e = here_none s
    (λ l p. by_test (accepts (read_line (take (left_at s) s))) (λ t. absurd (never l (accepted_sound (take (left_at s) s) t))) (λ t. t))
  where
    never : left_at s ≤ ListN.length s → Sound Framed (take (left_at s) s) → ⊥
    never l f =
        let inside : i < ListN.length (take (left_at s) s) = omega (arith, length-take-le (left_at s) s l) in
        let same : at (take (left_at s) s) i ≡ at s i = get_or-take (left_at s) s i 0 h in
        let low : over (at s i) ≡ false = ap over (sym same) ∙ none_at over (take (left_at s) s) 0 i f.in_range inside in
        let even : odd (at s i) ≡ false = ap odd (sym same) ∙ none_at odd (take (left_at s) s) 0 i f.even inside in
        true≢false (sym e ∙ ap₂ ◌||◌ low even)

-- what was gathered of its first characters: all of them sound, their bytes in the first places, and the sum
pub record Gathers (line : List ℕ) (i : ℕ) (low : List ℕ) (sum : ℕ) : Type 0 where
  pub in_range : Gathered over line i false
  pub even : Gathered odd line i false
  pub places : ListN.length low ≡ 261
  pub stored : take i low ≡ map byte_of (take i line)
  pub summed : sum ≡ total (map byte_of (take i line)) % 256

pub gathers_none : {line low : List ℕ} → ListN.length low ≡ 261 → Gathers line 0 low 0
unfolding total
gathers_none h = record { in_range = gathered_none; even = gathered_none; places = h; stored = refl; summed = refl }

both_passed : {line : List ℕ} {test : ℕ → Bool} {i : ℕ} → Gathered test line i false → i < ListN.length line → {c : ℕ} → c ≡ at line i → test c ≡ false
    → Gathered test line (i + 1) false
both_passed {line} {test} {i} g h e t =
    subst (λ (found : Bool). Gathered test line (i + 1) found) (ap test (sym e) ∙ t) (gathered_next 0 g h)

carried : (sum b t : ℕ) → sum ≡ t % 256 → (sum + b) % 256 ≡ (t + (b + 0)) % 256
carried sum b t e = omega arith

pub gathers_next : {line : List ℕ} {i : ℕ} {low : List ℕ} {sum : ℕ} → Gathers line i low sum → i < ListN.length line → i < 261 → {c : ℕ} → c ≡ at line i
    → over c ≡ false → odd c ≡ false → Gathers line (i + 1) (set low i (byte_of c)) ((sum + byte_of c) % 256)
unfolding total
gathers_next {line} {i} {low} {sum} g h room {c} e in_range even = record {
  in_range = both_passed g.in_range h e in_range;
  even = both_passed g.even h e even;
  places = length-set low i (byte_of c) ∙ g.places;
  stored = rw (add-one, take-suc line i 0 h, map-append, ← g.stored, ← e) (take-suc-set low i (byte_of c) (omega (arith, g.places)));
  summed =
      rw (add-one, take-suc line i 0 h, map-append, total_append (map byte_of (take i line)) (byte_of (at line i) ∷ []), ← e)
      (carried sum (byte_of c) (total (map byte_of (take i line))) g.summed);
}

-- of all of them: the rules on bytes are left
pub gathers_all : {line : List ℕ} {i : ℕ} {low : List ℕ} {sum : ℕ} → Gathers line i low sum → i ≡ ListN.length line → 0 < i
    → frame_by sum read_body (take i low) ≡ read_line line
gathers_all {line} {i} {low} {sum} g e some =
    let whole : take i line ≡ line = take_all i line (omega arith) in
    ap (frame_by sum read_body) (g.stored ∙ ap (map byte_of) whole)
    ∙ frame_whole read_body line (g.summed ∙ ap (λ (s : List ℕ). total (map byte_of s) % 256) whole)
    ∙ sym (sound_line line (omega arith) (sym (gathered_all g.in_range (omega arith))) (sym (gathered_all g.even (omega arith))))

pub record Walked (rest : List ℕ) (length i : ℕ) (found : Result Spot Refusal) (low : List ℕ) (sum : ℕ) : Type 0 where
  pub allowed : length ≡ left_at rest
  pub inside : i ≤ length
  pub room : length ≤ ListN.length rest
  pub none : length ≤ i → length_here rest ≡ refusal 18
  pub nothing : found ≡ Err (refused_by 18)
  pub gathers : Gathers (take length rest) i low sum

pub walked_none : {rest : List ℕ} {length : ℕ} {found : Result Spot Refusal} {low : List ℕ} → length ≡ left_at rest → length ≤ ListN.length rest → found ≡ Err (refused_by 18)
    → ListN.length low ≡ 261 → Walked rest length 0 found low 0
walked_none {rest} e h n places = record {
  allowed = e;
  inside = zero-le;
  room = h;
  none = λ l. here_none rest (λ a b. absurd (omega arith));
  nothing = n;
  gathers = gathers_none places;
}

module _ {rest : List ℕ} {length i : ℕ} {found : Result Spot Refusal} {low : List ℕ} {sum : ℕ} (w : Walked rest length i found low sum) where
  pub walked_most : length ≤ 261
  walked_most = omega (arith, w.allowed, left_most rest)

  -- not at its end
  pub walked_on : (i ≡ length → ⊥) → i < length
  walked_on n = omega (arith, w.inside)

  pub walked_places : (x : ℕ) → length ≤ ListN.length (set low i x)
  walked_places x = omega (arith, walked_most, w.gathers.places, length-set low i x)

-- one more character, which is sound
module _ {rest : List ℕ} {length i : ℕ} {found : Result Spot Refusal} {low : List ℕ} {sum : ℕ} (w : Walked rest length i found low sum) (h : i < length) where
  pub walked_room : i < 261
  walked_room = omega (arith, walked_most w)

  module _ {c : ℕ} {isOdd : Bool} (e : c ≡ at rest i) (o : isOdd ≡ odd c) (s : (over c || isOdd) ≡ false) where
    next : Gathers (take length rest) (i + 1) (set low i (byte_of c)) ((sum + byte_of c) % 256)
    next =
        let both = neither (over c) isOdd s in
        gathers_next w.gathers (omega (arith, length-take-le length rest w.room)) walked_room (e ∙ sym (get_or-take length rest i 0 h)) both.0
        (sym o ∙ both.1)

    pub walked_next : (i + 1 ≡ length → ⊥) → Walked rest length (i + 1) found (set low i (byte_of c)) ((sum + byte_of c) % 256)
    walked_next n = record {
      allowed = w.allowed;
      inside = omega arith;
      room = w.room;
      none = λ l. absurd (n (omega arith));
      nothing = w.nothing;
      gathers = next;
    }

    module _ {accepted : Bool} (end : i + 1 ≡ length)
        (q : accepted ≡ accepts (frame_by ((sum + byte_of c) % 256) read_body (take length (set low i (byte_of c))))) where
      read_here : accepts (read_line (take (left_at rest) rest)) ≡ accepted
      read_here =
          ap (λ (n : ℕ). accepts (read_line (take n rest))) (sym w.allowed)
          ∙ ap accepts (sym (gathers_all next (end ∙ sym (length-take-le length rest w.room)) (omega arith)))
          ∙ ap (λ (n : ℕ). accepts (frame_by ((sum + byte_of c) % 256) read_body (take n (set low i (byte_of c))))) end ∙ sym q

      pub walked-refused : accepted ≡ false → Walked rest length (i + 1) found (set low i (byte_of c)) ((sum + byte_of c) % 256)
      walked-refused f = record {
        allowed = w.allowed;
        inside = omega arith;
        room = w.room;
        none = λ l. here_none rest (λ a b. read_here ∙ f);
        nothing = w.nothing;
        gathers = next;
      }

      pub walked-hit : accepted ≡ true → length_here rest ≡ reads length
      walked-hit t = here_hit rest (omega (arith, w.allowed)) (omega (arith, w.allowed, w.room)) (read_here ∙ t) ∙ ap reads (sym w.allowed)

  pub walked_unsound : {isOdd : Bool} → isOdd ≡ odd (at rest i) → (over (at rest i) || isOdd) ≡ true → length_here rest ≡ refusal 18
  walked_unsound o e = unsound_none rest i (omega (arith, w.allowed)) (ap (λ (t : Bool). over (at rest i) || t) (sym o) ∙ e)

-- no length: no line begins here
pub walked_no : (rest : List ℕ) {length : ℕ} → length ≡ left_at rest → (0 < length → ⊥) → length_here rest ≡ refusal 18
walked_no rest e n = here_none rest (λ l p. absurd (n (omega arith)))

module _ (rest : List ℕ) {length : ℕ} (e : length ≡ left_at rest) {ended : Bool} (d : ended ≡ ends_in length (map byte_of rest)) where
  -- nor does one that is not whole, or does not end in 16
  pub walked_open : ended ≡ false → length_here rest ≡ refusal 18
  walked_open f = here_none rest (λ l p. by_test (accepts (read_line (take (left_at rest) rest)))
      (λ t. absurd (true≢false (sym (accepted_ends rest (left_at rest) l t) ∙ ap (λ (n : ℕ). ends_in n (map byte_of rest)) (sym e) ∙ sym d ∙ f))) (λ t. t))

  -- where it ends, all of it is there
  pub ended_inside : ended ≡ true → length ≤ ListN.length rest
  ended_inside t =
      let all = ListN.length (map byte_of rest) in
      omega (arith, length-map rest byte_of, leb-true length all ((and-eq-true_iff (leb length all) _).0 (sym d ∙ t)).0)
