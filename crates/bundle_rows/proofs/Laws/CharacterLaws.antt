-- A row's body as the bundle has it, and the loop that writes its characters into the first places that are lent.
use Prim.Native.Nat.{ℕ, ◌+◌, ◌-◌, ◌/◌, ◌≤◌, ◌<◌, min}
use mathlib.Core.List.{List, []}
use mathlib.Core.Path.{◌≡◌, sym, ap, ◌∙◌}
use native.Mathlib.Nat.{zero-add, add-sub_cancel_left}
use native.Mathlib.Omega.{arith}
use lib.ListN.{length, take, drop, set, length-take, length-drop, drop_of_length-le}
use lib.Seq.{take_all, take-nil, take_at, get_or-take}
use Rattle.base_rules.specs.Lists.{at}
use Rattle.base_characters.specs.Characters.{chars}
use Rattle.base_lent.proofs.Laws.Copying.{Copied, copied_none, copied_next, copied_length, copied_all}
use Rattle.base_characters.proofs.Laws.PairLaws.{length_characters}
use Rattle.bundle_rows.specs.Rows.{unchecked_row, body_in, unchecked_characters, Puts}
use Rattle.bundle_rows.specs.declared.Row.{Row}

-- ---- a body that begins past the end, one that is cut, and a whole one
module _ (b : List ℕ) (r : Row) where
  pub body_past : length b < r.offset → [] ≡ body_in b r
  body_past h = let past : length b ≤ r.offset = omega arith in rw (drop_of_length-le b past, take-nil r.length)

  pub body_cut : length b - r.offset < r.length → take (length b - r.offset) (drop r.offset b) ≡ body_in b r
  body_cut h =
      let size : length (drop r.offset b) ≡ length b - r.offset = length-drop r.offset b in
      take_all (length b - r.offset) (drop r.offset b) (omega arith) ∙ sym (take_all r.length (drop r.offset b) (omega arith))

  pub body_whole : take (r.offset + r.length - r.offset) (drop r.offset b) ≡ body_in b r
  body_whole = rw (add-sub_cancel_left r.offset r.length)

-- with places enough, all of its characters
pub characters_whole : (b : List ℕ) (i places : ℕ) → (unchecked_row b i).length / 2 ≤ places
    → unchecked_characters b i places ≡ chars (body_in b (unchecked_row b i))
unfolding unchecked_characters
characters_whole b i places h =
    let r : Row = unchecked_row b i in
    take_all places (chars (body_in b r)) (omega (arith, length_characters (body_in b r), length-take r.length (drop r.offset b)))

-- never more than there are places for
pub characters_few : (b : List ℕ) (i places : ℕ) → length (unchecked_characters b i places) ≤ places
unfolding unchecked_characters
characters_few b i places = omega (arith, length-take places (chars (body_in b (unchecked_row b i))))

-- what stands in the first places is the line
pub puts_taken : {line before after : List ℕ} {r : ℕ} → Puts line before r after → take r after ≡ line
puts_taken {line} {before} {after} {r} p = rw p.holds (take_at line (drop (length line) before) r (sym p.count))

-- ---- the loop
pub record Putting (bytes before : List ℕ) (count i : ℕ) (after : List ℕ) : Type 0 where
  pub all : count ≡ length (take (length before) (chars bytes))
  pub few : count ≤ length before
  pub copied : Copied before 0 (take (length before) (chars bytes)) i after
  pub same : length after ≡ length before

module _ {bytes before : List ℕ} {count : ℕ} where
  pub putting_none : count ≡ min (length before) (length bytes / 2) → Putting bytes before count 0 before
  putting_none e =
      let size : length (take (length before) (chars bytes)) ≡ min (length before) (length bytes / 2) =
      length-take (length before) (chars bytes) ∙ ap (λ (n : ℕ). min (length before) n) (length_characters bytes) in
      record { all = e ∙ sym size; few = omega arith; copied = copied_none (omega arith); same = omega arith }

  module _ {i : ℕ} {after : List ℕ} (g : Putting bytes before count i after) where
    pub putting_next : i < count → {c : ℕ} → c ≡ at (chars bytes) i → Putting bytes before count (i + 1) (set after i c)
    putting_next h {c} e =
        let more : i < length (take (length before) (chars bytes)) = omega (arith, g.all) in
        let on : Copied before 0 (take (length before) (chars bytes)) (i + 1) (set after i c) =
        rw (zero-add i) at (copied_next g.copied 0 more (e ∙ sym (get_or-take (length before) (chars bytes) i 0 (omega (arith, g.few))))) in
        record { all = g.all; few = g.few; copied = on; same = copied_length on }

    pub putting_all : count ≤ i → Puts (take (length before) (chars bytes)) before count after
    putting_all h = record { count = g.all; holds = copied_all g.copied (omega (arith, g.all)) }
