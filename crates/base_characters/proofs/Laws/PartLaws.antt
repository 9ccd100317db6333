-- Parts of a line that are walked over by loops of their own, and put together.
use Rattle.std.proofs.Common.{◌≡◌, ℕ, zero, suc, ◌+◌, ◌-◌, ◌*◌, ◌/◌, ◌%◌, ◌<◌, ◌≤◌, ltb, List, [], ◌∷◌, ◌++◌, map, length, take, drop, set, sym, refl, ap, ◌∙◌, subst, ap₂, append_assoc, add-zero, mul-zero, mul-one, add-one, arith, length-drop, take-append-drop, length-take-le, get_or-drop, take_all, get_or-take, take-suc, take-take, drop-drop, ltb-false, ltb-true}
use Prim.Native.Nat.{min}
use mathlib.Core.List.{map-append}
use Rattle.std.proofs.lemmas.List.{take_min}
use lib.Bits.{bit_or}
use lib.ListN.{length-map}
use lib.Seq.{drop-append-add, drop-append-le}
use Rattle.base_rules.specs.Lists.{at, total}
use Rattle.base_characters.specs.Characters.{byte_of}
use Rattle.base_characters.proofs.Laws.Closing.{total_append}
use Rattle.base_characters.proofs.Laws.CharacterLaws.{at_bytes}
use Rattle.base_rules.proofs.Laws.ListLaws.{map_take, map_drop}
use Rattle.base_rules.proofs.Laws.Tests.{by_test}
use Rattle.base_lent.proofs.Laws.Copying.{Copied, copied_none, copied_next, copied_whole, copied_fits, copied_on, laid_length}
use Rattle.base_lent.specs.Copying.{copied, laid}
use Rattle.base_characters.specs.Gathering.{Flagged, Parted, gathered_by, gathered}
use Rattle.base_characters.proofs.Laws.FlagLaws.{flagged_none, flagged_next, flagged_append, flagged_idle, flagged_told}

-- ---- what is gathered

last_is : (x : ℕ) → total (x ∷ []) ≡ x
unfolding total
last_is x = omega arith

-- the whole character is added, of which modulo 256 the byte alone counts
pub low_byte : (x : ℕ) → x % 65536 % 256 ≡ x % 256
low_byte x = omega arith

added : (sum t b : ℕ) → sum % 256 ≡ t % 256 → (sum + b) % 256 ≡ (t + b) % 256
added sum t b e = omega arith

low_added : (t c : ℕ) → (t + c) % 256 ≡ (t + c % 256) % 256
low_added t c = omega arith

carried : (sum c t : ℕ) → sum % 256 ≡ t % 256 → (sum + c) % 65536 % 256 ≡ (t + c % 256) % 256
carried sum c t e = low_byte (sum + c) ∙ added sum t c e ∙ low_added t c

both_added : (a b s t : ℕ) → a % 256 ≡ s % 256 → b % 256 ≡ t % 256 → (a + b) % 256 ≡ (s + t) % 256
both_added a b s t e f = omega arith

pub parted_none : Parted [] 0 0
unfolding total
parted_none = record { flagged = flagged_none; summed = refl }

pub parted_next : (s : List ℕ) {i flags sum : ℕ} → Parted (take i s) flags sum → i < length s → {c flag : ℕ} → c ≡ at s i → Flagged (c ∷ []) flag
    → Parted (take (i + 1) s) (bit_or flags flag) ((sum + c) % 65536)
parted_next s {i} {flags} {sum} p h {c} e f = record {
  flagged = flagged_next s p.flagged h e f;
  summed =
      rw (add-one, take-suc s i 0 h, ← e, map-append, total_append (map byte_of (take i s)) (byte_of c ∷ []), last_is (byte_of c))
      (carried sum c (total (map byte_of (take i s))) p.summed);
}

pub parted_idle : {s : List ℕ} {flags sum : ℕ} → Parted s flags sum → {c flag : ℕ} → c ≡ 0 → Flagged (c ∷ []) flag
    → Parted s (bit_or flags flag) ((sum + c) % 65536)
parted_idle {s} {flags} {sum} p {c} {flag} e f = record {
  flagged = flagged_idle p.flagged (subst (λ (x : ℕ). Flagged (x ∷ []) flag) e f);
  summed = low_byte (sum + c) ∙ ap (λ (x : ℕ). (sum + x) % 256) e ∙ ap (λ (x : ℕ). x % 256) (add-zero sum) ∙ p.summed;
}

pub parted_append : {s t : List ℕ} {f g a b : ℕ} → Parted s f a → Parted t g b → Parted (s ++ t) (bit_or f g) (a + b)
parted_append {s} {t} {f} {g} {a} {b} p q = record {
  flagged = flagged_append p.flagged q.flagged;
  summed =
      rw (map-append, total_append (map byte_of s) (map byte_of t))
      (both_added a b (total (map byte_of s)) (total (map byte_of t)) p.summed q.summed);
}

pub parted_told : {s : List ℕ} {flags sum : ℕ} → Parted s flags sum → gathered_by flags sum ≡ gathered s
parted_told p = λ k. record { outcome = flagged_told p.flagged k; sum = p.summed k }

-- ---- the characters from one place up to another

module _ (l : List ℕ) (from : ℕ) {count : ℕ} (to : count ≤ length l) where
  pub part_length : length (drop from (take count l)) ≡ count - from
  part_length = length-drop from (take count l) ∙ ap (λ (n : ℕ). n - from) (length-take-le count l to)

  pub part_at : (i : ℕ) → from + i < count → at (drop from (take count l)) i ≡ at l (from + i)
  part_at i h = get_or-drop from (take count l) i 0 ∙ get_or-take count l (from + i) 0 h

-- ---- those behind the whole blocks of sixteen, in a block that ends with the last of them

-- what was gathered of them in so many places of the block, and stored of all that the block has
pub record Last (s : List ℕ) (count : ℕ) (low : List ℕ) (j flags sum : ℕ) (now : List ℕ) : Type 0 where
  pub parted : Parted (take (count % 16 + j - 16) (drop (count / 16 * 16) s)) flags sum
  pub stored : Copied low (count - 16) (map byte_of (drop (count - 16) s)) j now

-- of a character 0 or 1 times is taken
pub times_one : (d k : ℕ) → k < 2 → d * k ≤ d
times_one d zero h = omega (arith, mul-zero d)
times_one d (suc zero) h = omega (arith, mul-one d)
times_one d (suc (suc k)) h = absurd (omega arith)

module _ (s : List ℕ) {count : ℕ} (size : length s ≡ count) (most : 16 ≤ count) where
  abbrev rest : List ℕ
  rest = drop (count / 16 * 16) s

  length_rest : length rest ≡ count % 16
  length_rest = length-drop (count / 16 * 16) s ∙ ap (λ (n : ℕ). n - count / 16 * 16) size ∙ omega arith

  module _ {j flags sum : ℕ} (h : j < 16) (p : Parted (take (count % 16 + j - 16) rest) flags sum) {d c flag : ℕ} (ed : d ≡ at s (count - 16 + j))
      (ec : c ≡ d * ((count % 16 + 16 + j) / 32)) (f : Flagged (c ∷ []) flag) where
    before : count % 16 + j < 16 → Parted (take (count % 16 + (j + 1) - 16) rest) (bit_or flags flag) ((sum + c) % 65536)
    before low =
        let none : (count % 16 + 16 + j) / 32 ≡ 0 = omega arith in
        let same : count % 16 + (j + 1) - 16 ≡ count % 16 + j - 16 = omega arith in
        rw same (parted_idle p (ec ∙ ap (λ (k : ℕ). d * k) none ∙ mul-zero d) f)

    behind : 16 ≤ count % 16 + j → Parted (take (count % 16 + (j + 1) - 16) rest) (bit_or flags flag) ((sum + c) % 65536)
    behind high =
        let one : (count % 16 + 16 + j) / 32 ≡ 1 = omega arith in
        let next : count % 16 + (j + 1) - 16 ≡ count % 16 + j - 16 + 1 = omega arith in
        let place : count - 16 + j ≡ count / 16 * 16 + (count % 16 + j - 16) = omega arith in
        let here : d ≡ at rest (count % 16 + j - 16) = ed ∙ ap (at s) place ∙ sym (get_or-drop (count / 16 * 16) s (count % 16 + j - 16) 0) in
        let kept : c ≡ d = ec ∙ ap (λ (k : ℕ). d * k) one ∙ mul-one d in
        rw next (parted_next rest p (omega (arith, length_rest)) (kept ∙ here) f)

    last_next : Parted (take (count % 16 + (j + 1) - 16) rest) (bit_or flags flag) ((sum + c) % 65536)
    last_next = by_test (ltb (count % 16 + j) 16) (λ t. before (ltb-true (count % 16 + j) 16 t)) (λ t. behind (ltb-false (count % 16 + j) 16 t))

  block_size : length (map byte_of (drop (count - 16) s)) ≡ 16
  block_size = length-map (drop (count - 16) s) byte_of ∙ length-drop (count - 16) s ∙ ap (λ (n : ℕ). n - (count - 16)) size ∙ omega arith

  pub last_none : {low : List ℕ} → count ≤ length low → Last s count low 0 0 0 low
  last_none room =
      let none : count % 16 + 0 - 16 ≡ 0 = omega arith in
      record { parted = rw none parted_none; stored = copied_none (omega (arith, block_size)) }

  pub last_turn : {low : List ℕ} {j flags sum : ℕ} {now : List ℕ} → Last s count low j flags sum now → j < 16 → {d c flag : ℕ} → d ≡ at s (count - 16 + j)
      → c ≡ d * ((count % 16 + 16 + j) / 32) → Flagged (c ∷ []) flag
      → Last s count low (j + 1) (bit_or flags flag) ((sum + c) % 65536) (set now (count - 16 + j) (byte_of d))
  last_turn w h {d} ed ec f = record {
    parted = last_next h w.parted ed ec f;
    stored = copied_next w.stored 0 (omega (arith, block_size))
        (ap byte_of (ed ∙ sym (get_or-drop (count - 16) s _ 0)) ∙ sym (at_bytes (drop (count - 16) s) _));
  }

  pub last_all : {low : List ℕ} {j flags sum : ℕ} {now : List ℕ} → Last s count low j flags sum now → 16 ≤ j
      → Parted rest flags sum × (now ≡ copied low (count - 16) (map byte_of (drop (count - 16) s)))
  last_all {j = j} w h =
      let all : length rest ≤ count % 16 + j - 16 = omega (arith, length_rest) in
      (rw (take_all (count % 16 + j - 16) rest all) at w.parted, copied_whole w.stored (omega (arith, block_size)))

-- ---- both parts

-- What is behind is stored first, and from a place on that lies in the first characters.
pub stored_over : (d b : List ℕ) (from whole : ℕ) → from ≤ whole → whole ≤ length b → length b ≤ length d
    → copied (copied d from (drop from b)) 0 (take whole b) ≡ copied d 0 b
stored_over d b from whole le most room =
    ap (λ (l : List ℕ). copied l 0 (take whole b)) (copied_fits d from (drop from b) fits)
    ∙ copied_fits (laid d from (drop from b)) 0 (take whole b) (omega (arith, size, first))
    ∙ ap (λ (n : ℕ). take whole b ++ drop n (laid d from (drop from b))) first
    ∙ ap (λ (l : List ℕ). take whole b ++ l) behind
    ∙ sym (append_assoc (take whole b) (drop whole b) (drop (length (drop from b)) (drop from d)))
    ∙ ap₂ ◌++◌ (take-append-drop whole b) (drop-drop (length (drop from b)) from d ∙ ap (λ (n : ℕ). drop n d) end)
    ∙ sym (copied_fits d 0 b (omega arith))
  where
    tail : length (drop from b) ≡ length b - from
    tail = length-drop from b

    end : from + length (drop from b) ≡ length b
    end = omega (arith, tail)

    fits : from + length (drop from b) ≤ length d
    fits = omega (arith, tail)

    size : length (laid d from (drop from b)) ≡ length d
    size = laid_length d (drop from b) from fits

    first : length (take whole b) ≡ whole
    first = length-take-le whole b most

    behind : drop whole (laid d from (drop from b)) ≡ drop whole b ++ drop (length (drop from b)) (drop from d)
    behind =
        let front : length (take from d) ≡ from = length-take-le from d (omega arith) in
        let far : whole ≡ length (take from d) + (whole - from) = omega (arith, front) in
        let again : from + (whole - from) ≡ whole = omega arith in
        ap (λ (n : ℕ). drop n (laid d from (drop from b))) far
        ∙ drop-append-add (take from d) (drop from b ++ drop (length (drop from b)) (drop from d)) (whole - from)
        ∙ drop-append-le (whole - from) (drop from b) (drop (length (drop from b)) (drop from d)) (omega (arith, tail))
        ∙ ap (λ (l : List ℕ). l ++ drop (length (drop from b)) (drop from d)) (drop-drop (whole - from) from b ∙ ap (λ (n : ℕ). drop n b) again)

-- or after them
pub stored_on : (d b : List ℕ) (whole : ℕ) → whole ≤ length b → length b ≤ length d → copied (copied d 0 (take whole b)) whole (drop whole b) ≡ copied d 0 b
stored_on d b whole most room =
    copied_on d (take whole b) (drop whole b) whole (length-take-le whole b most) (omega (arith, length-drop whole b))
    ∙ ap (copied d 0) (take-append-drop whole b)

-- The first of so many characters and those behind them are all, as they were told and as they were stored.
module _ (l : List ℕ) {whole count : ℕ} (le : whole ≤ count) (to : count ≤ length l) where
  first_is : take whole (take count l) ≡ take whole l
  first_is = take-take whole count l le

  pub parts_told : {f g a b : ℕ} → Parted (take whole l) f a → Parted (drop whole (take count l)) g b → gathered_by (bit_or f g) (a + b) ≡ gathered (take count l)
  parts_told {f} {g} {a} {b} p q =
      let first : Parted (take whole (take count l)) f a = rw first_is p in
      parted_told (subst (λ (t : List ℕ). Parted t (bit_or f g) (a + b)) (take-append-drop whole (take count l)) (parted_append first q))

  bytes_length : length (map byte_of (take count l)) ≡ count
  bytes_length = length-map (take count l) byte_of ∙ length-take-le count l to

  first_bytes : map byte_of (take whole l) ≡ take whole (map byte_of (take count l))
  first_bytes = ap (map byte_of) (sym first_is) ∙ map_take byte_of whole (take count l)

  module _ (d : List ℕ) (room : count ≤ length d) {x y : List ℕ} where
    pub parts_on : x ≡ copied d 0 (map byte_of (take whole l)) → y ≡ copied x whole (map byte_of (drop whole (take count l)))
        → y ≡ copied d 0 (map byte_of (take count l))
    parts_on e f =
        f
        ∙ ap₂ (λ (a b : List ℕ). copied a whole b) (e ∙ ap (copied d 0) first_bytes) (map_drop byte_of whole (take count l))
        ∙ stored_on d (map byte_of (take count l)) whole (omega (arith, bytes_length)) (omega (arith, bytes_length))

    pub parts_over : (from : ℕ) → from ≤ whole → x ≡ copied d from (map byte_of (drop from (take count l))) → y ≡ copied x 0 (map byte_of (take whole l))
        → y ≡ copied d 0 (map byte_of (take count l))
    parts_over from before e f =
        f
        ∙ ap₂ (λ (a b : List ℕ). copied a 0 b) (e ∙ ap (copied d from) (map_drop byte_of from (take count l))) first_bytes
        ∙ stored_over d (map byte_of (take count l)) from whole before (omega (arith, bytes_length)) (omega (arith, bytes_length))

-- As many characters as there are places: the lower of the two counts.
pub fewer_all : (l d : List ℕ) {n : ℕ} → n ≡ min (length l) (length d) → (n ≤ length l) × (n ≤ length d) × (take n l ≡ take (length d) l)
fewer_all l d {n} e =
    let turned : n ≡ min (length d) (length l) = omega arith in
    (omega arith, omega arith, ap (λ (k : ℕ). take k l) turned ∙ take_min (length d) l)
