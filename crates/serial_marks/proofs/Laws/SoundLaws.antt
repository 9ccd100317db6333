-- Laws of the characters that are made of bytes: each is 0 to 511, and those of even parity were passed on as such.
use Prim.Native.Nat.{ℕ, zero, suc, ◌<◌}
use mathlib.Core.Bool.{Bool, true, false, cond, ◌||◌, true≢false}
use mathlib.Core.List.{List, [], ◌∷◌, ◌++◌}
use mathlib.Core.Path.{◌≡◌, refl, sym, ap₂, ◌∙◌}
use borrow.Author.Tests.{eqb-true, le-ltb}
use lib.Count.{ones_in}
use lib.Dec.{eqb, lit<}
use lib.ListN.{take, drop}
use lib.Seq.{take-add}
use Rattle.base_rules.specs.Lists.{any}
use Rattle.base_characters.specs.Characters.{over, odd, carrier}
use Rattle.base_rules.specs.Bytes.{Bytes}
use Rattle.base_rules.proofs.Laws.ByteLaws.{bytes_drop}
use Rattle.base_characters.proofs.Laws.CharacterLaws.{byte_carrier, carrier_even, carrier_in_range}
use Rattle.base_rules.proofs.Laws.Tests.{neither}
use Rattle.base_lent.specs.Pieces.{pieces}
use Rattle.serial_marks.specs.Marks.{port_marked, wronged}
use Rattle.serial_marks.specs.Unmarking.{whole, first, after_mark, after_zero, Unmarking, unmarked_in}
use Rattle.std.specs.Prelude.{Option, Some, None}
use Rattle.serial_marks.specs.declared.Whole.{Whole}
use Rattle.serial_marks.proofs.Laws.MarkLaws.{wronged_odd, wronged_in_range}
use Rattle.serial_marks.proofs.Laws.FirstLaws.{by_first}
use Rattle.serial_marks.proofs.Laws.UnmarkingLaws.{stop, step, no_room}

-- The character is in range, and where its parity is even the bytes are those by which it is passed on.
record Sound (n c : ℕ) (s : List ℕ) : Type 0 where
  range : over c ≡ false
  passed : odd c ≡ false → take n s ≡ port_marked c

Right : Option Whole → List ℕ → Type 0
Right None s = Unit {0}
Right (Some w) s = Sound w.size w.character s

right_either : (s : List ℕ) (t : Bool) (a b : Option Whole) → (t ≡ true → Right a s) → (t ≡ false → Right b s) → Right (cond t a b) s
right_either s true a b ha hb = ha refl
right_either s false a b ha hb = hb refl

-- a wrong parity is none that is even
wrong_sound : (n b : ℕ) (s : List ℕ) → b < 256 → Sound n (wronged b) s
wrong_sound n b s h =
    record { range = le-ltb 511 (wronged b) (wronged_in_range b h); passed = λ e. absurd (true≢false (sym (wronged_odd b h) ∙ e)) }

ff_marked : port_marked (carrier 0xFF) ≡ 0xFF ∷ 0xFF ∷ []
unfolding carrier odd ones_in
ff_marked = refl

plain_marked : (b : ℕ) → b < 256 → eqb b 0xFF ≡ false → port_marked (carrier b) ≡ b ∷ []
plain_marked b h e = rw (carrier_even b h, byte_carrier b h, e)

zero_right : (x y : ℕ) (s : List ℕ) → Bytes s → Right (after_zero s) (x ∷ y ∷ s)
unfolding Right
zero_right x y [] h = tt
zero_right x y (b ∷ s) h = wrong_sound 3 b (x ∷ y ∷ b ∷ s) h.0

mark_right : (x : ℕ) (s : List ℕ) → x ≡ 0xFF → Bytes s → Right (after_mark s) (x ∷ s)
unfolding Right
mark_right x [] e h = tt
mark_right x (b ∷ s) e h =
    right_either (x ∷ b ∷ s) (eqb b 0xFF) (Some (whole 2 (carrier 0xFF))) (cond (eqb b 0x00) (after_zero s) (Some (whole 1 (wronged 0xFF))))
    (λ m. record {
      range = carrier_in_range 0xFF (lit< tt);
      passed = λ o. ap₂ (λ (p q : ℕ). p ∷ q ∷ []) e (eqb-true b 0xFF m) ∙ sym ff_marked;
    })
    (λ m. right_either (x ∷ b ∷ s) (eqb b 0x00) (after_zero s) (Some (whole 1 (wronged 0xFF))) (λ z. zero_right x b s h.1)
    (λ z. wrong_sound 1 0xFF (x ∷ b ∷ s) (lit< tt)))

first_right : (s : List ℕ) → Bytes s → Right (first s) s
unfolding Right
first_right [] h = tt
first_right (b ∷ s) h =
    right_either (b ∷ s) (eqb b 0xFF) (after_mark s) (Some (whole 1 (carrier b))) (λ m. mark_right b s (eqb-true b 0xFF m) h.1)
    (λ m. record { range = carrier_in_range b h.0; passed = λ o. sym (plain_marked b h.0 m) })

first_sound : (s : List ℕ) → Bytes s → {n c : ℕ} → first s ≡ Some (whole n c) → Sound n c s
unfolding Right
first_sound s h e = rw e at (first_right s h)

-- Every character that is made of bytes is 0 to 511.
pub made_in_range : (room : ℕ) (s : List ℕ) → Bytes s → any over (unmarked_in room s).characters ≡ false
unfolding any
made_in_range zero s h = rw (no_room s)
made_in_range (suc room) s h =
    by_first s (λ e. rw (stop (suc room) s e))
    (λ n c e. rw (step room s e, (first_sound s h e).range) (made_in_range room (drop n s) (bytes_drop n s h)))

-- Where all parities are even, the bytes used are the marked bytes of the characters: none of them was marked as wrong.
pub passed_as_marked : (room : ℕ) (s : List ℕ) → Bytes s → any odd (unmarked_in room s).characters ≡ false
    → pieces port_marked (unmarked_in room s).characters ≡ take (unmarked_in room s).used s
unfolding any
passed_as_marked zero s h o = rw (no_room s)
passed_as_marked (suc room) s h o =
    by_first s (λ e. rw (stop (suc room) s e))
    (λ n c e.
    let u : Unmarking = unmarked_in room (drop n s) in
    let all : odd c || any odd u.characters ≡ false = rw (step room s e) at o in
    let both = neither (odd c) (any odd u.characters) all in
    rw (step room s e)
    (ap₂ (λ (p q : List ℕ). p ++ q) (sym ((first_sound s h e).passed both.0)) (passed_as_marked room (drop n s) (bytes_drop n s h) both.1)
    ∙ sym (take-add n u.used s)))
