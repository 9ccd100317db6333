-- Along the bytes: the loop's invariant, from the first place to the end.
use Prim.Native.Nat.{ℕ, suc, ◌+◌, ◌-◌, ◌≤◌, ◌<◌, zero-le}
use mathlib.Core.List.{List, [], ◌∷◌}
use mathlib.Core.Path.{◌≡◌, sym, ap, ap₂, subst, ◌∙◌}
use native.Mathlib.Nat.{zero-add, add_assoc, sub-zero}
use native.Mathlib.Numerals.{add-one}
use native.Mathlib.Omega.{arith}
use lib.ListN.{length, get_or, take, drop, set, length-drop}
use Rattle.std.proofs.Common.{take_all}
use lib.Seq.{drop-drop, drop-cons}
use Rattle.base_lent.proofs.Laws.Copying.{Copied, copied_none, copied_next, copied_length, copied_all}
use Rattle.serial_marks.specs.Unmarking.{whole, first, Unmarking, unmarked_in, Unmarks}
use Rattle.std.specs.Prelude.{Option, Some, None}
use Rattle.serial_marks.specs.declared.Whole.{Whole}
use Rattle.serial_marks.proofs.Laws.FirstLaws.{first_on}
use Rattle.serial_marks.proofs.Laws.UnmarkingLaws.{nothing, after, stop, step, no_room, within_both}

-- So many bytes are used and characters made and stored; what is made of the rest is what is left of the answer.
pub record Along (bytes d : List ℕ) (used made : ℕ) (now : List ℕ) : Type 0 where
  pub stored : Copied d 0 (unmarked_in (length d) bytes).characters made now
  pub inside : used ≤ length bytes
  pub rest : drop made (unmarked_in (length d) bytes).characters ≡ (unmarked_in (length d - made) (drop used bytes)).characters
  pub count : (unmarked_in (length d) bytes).used ≡ used + (unmarked_in (length d - made) (drop used bytes)).used

pub along_none : (bytes d : List ℕ) → Along bytes d 0 0 d
along_none bytes d =
    record {
      stored = copied_none (rw zero-add (within_both (length d) bytes).places);
      inside = zero-le;
      rest = rw sub-zero;
      count = rw (sub-zero, zero-add);
    }

-- the bytes from a place on, as the code cuts them out
behind : (s : List ℕ) (used : ℕ) → take (length s - used) (drop used s) ≡ drop used s
behind s used = take_all (length s - used) (drop used s) (omega (arith, length-drop used s))

pub behind_first : (s : List ℕ) (used : ℕ) {f : Option Whole} → f ≡ first (take (length s - used) (drop used s)) → f ≡ first (drop used s)
behind_first s used e = e ∙ ap first (behind s used)

-- the head and the tail of what is left of a list
cut : (s : List ℕ) (m c : ℕ) (t : List ℕ) → drop m s ≡ c ∷ t → (m < length s) × (c ≡ get_or s m 0) × (drop (m + 1) s ≡ t)
cut s m c t e =
    let h : m < length s = omega (arith, length-drop m s, ap length e) in
    let split : get_or s m 0 ∷ drop (suc m) s ≡ c ∷ t = sym (drop-cons s m 0 h) ∙ e in
    (h, (cc), rw add-one (cc))

module _ {bytes d : List ℕ} {used made : ℕ} {now : List ℕ} (g : Along bytes d used made now) where
  pub along_length : length now ≡ length d
  along_length = copied_length g.stored

  module _ {n c : ℕ} (e : first (drop used bytes) ≡ Some (whole n c)) where
    pub along_inside : used + n ≤ length bytes
    along_inside =
        let size : n ≤ length (drop used bytes) = (first_on (drop used bytes) [] e).1.inside in
        let inside : used ≤ length bytes = g.inside in
        omega (arith, length-drop used bytes)

    pub along_next : made < length d → Along bytes d (used + n) (made + 1) (set now made c)
    along_next h =
        let left : ℕ = length d - (made + 1) in
        let more : length d - made ≡ suc left = omega arith in
        let on : unmarked_in (length d - made) (drop used bytes) ≡ after n (c ∷ []) (unmarked_in left (drop (used + n) bytes)) =
        rw more (step left (drop used bytes) e ∙ ap (λ (l : List ℕ). after n (c ∷ []) (unmarked_in left l)) (drop-drop n used bytes)) in
        let parts = cut (unmarked_in (length d) bytes).characters made c (unmarked_in left (drop (used + n) bytes)).characters
        (g.rest ∙ ap (λ (u : Unmarking). u.characters) on) in
        record {
          stored = rw (zero-add made) at (copied_next g.stored 0 parts.0 parts.1);
          inside = along_inside;
          rest = parts.2;
          count = g.count ∙ ap (λ (u : Unmarking). used + u.used) on ∙ sym (add_assoc used n (unmarked_in left (drop (used + n) bytes)).used);
        }

  -- nothing more is made of the rest: that is all
  pub along_end : unmarked_in (length d - made) (drop used bytes) ≡ nothing → Unmarks bytes d now (record { used = used; made = made })
  along_end e =
      let none : drop made (unmarked_in (length d) bytes).characters ≡ [] = g.rest ∙ ap (λ (u : Unmarking). u.characters) e in
      let inside : made ≤ length (unmarked_in (length d) bytes).characters = g.stored.inside in
      let past : length (unmarked_in (length d) bytes).characters ≤ made =
      omega (arith, length-drop made (unmarked_in (length d) bytes).characters, ap length none) in
      let all : made ≡ length (unmarked_in (length d) bytes).characters = omega arith in
      let used_all : used ≡ (unmarked_in (length d) bytes).used = omega (arith, g.count, ap (λ (u : Unmarking). u.used) e) in
      record {
        answer = ap₂ (λ (u m : ℕ). record { used = u; made = m }) used_all all;
        left = copied_all g.stored past;
      }

  -- there is no room for more
  pub along_full : length d ≤ made → Unmarks bytes d now (record { used = used; made = length now })
  along_full h =
      let none : length d - made ≡ 0 = omega arith in
      let most : length (unmarked_in (length d) bytes).characters ≤ length d = (within_both (length d) bytes).places in
      let inside : made ≤ length (unmarked_in (length d) bytes).characters = g.stored.inside in
      let full : made ≡ length now = omega (arith, along_length) in
      subst (λ (m : ℕ). Unmarks bytes d now (record { used = used; made = m })) full (along_end (rw none (no_room (drop used bytes))))

  pub along_stop : first (drop used bytes) ≡ None → Unmarks bytes d now (record { used = used; made = made })
  along_stop e = along_end (stop (length d - made) (drop used bytes) e)
