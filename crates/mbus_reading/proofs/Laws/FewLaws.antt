-- Few characters that come as bytes, walked over up to the first that is not sound.
use Prim.Native.Nat.{ℕ, ◌+◌, ◌*◌, ◌/◌, ◌≤◌, ◌<◌}
use mathlib.Core.Bool.{Bool, true, false, cond}
use mathlib.Core.List.{List, map}
use mathlib.Core.Path.{◌≡◌, refl, sym, ap, ◌∙◌}
use native.Mathlib.Omega.{arith}
use borrow.Author.Tests.{ne_eqb}
use lib.ListN.{length, take, drop, set, length-map}
use lib.Seq.{take_at}
use Rattle.std.specs.Prelude.{Ok}
use Rattle.mbus_rules.specs.declared.Telegram.{Telegram}
use Rattle.mbus_rules.specs.declared.Outline.{Outline}
use Rattle.base_rules.specs.Lists.{at, any}
use Rattle.base_rules.proofs.Laws.ListLaws.{Gathered, gathered_none}
use Rattle.base_characters.proofs.Laws.CharacterLaws.{at_bytes}
use Rattle.base_characters.specs.Characters.{over, odd, byte_of, chars}
use Rattle.base_rules.specs.Answers.{refusal, refuse}
use Rattle.mbus_rules.specs.Lines.{is_long, read_frame, read_line}
use Rattle.mbus_rules.specs.Outlines.{outlined}
use Rattle.base_lent.proofs.Laws.Copying.{Copied, copied_all}
use Rattle.base_characters.proofs.Laws.PairLaws.{length_characters, length_lows, chars_drop, characters_all, pairs_hit, pairs_miss}
use Rattle.base_characters.proofs.Laws.StoreLaws.{stored_none, stored_next}
use Rattle.mbus_shape.specs.Shapes.{shape_body}
use Rattle.mbus_shape.proofs.Laws.LeftLaws.{brief_few}
use Rattle.mbus_reading.specs.Taking.{TakenFew}
use Rattle.mbus_reading.proofs.Laws.TakingLaws.{sound_line}

pub record Walked (b : List ℕ) (low : List ℕ) (i : ℕ) (now : List ℕ) : Type 0 where
  pub some : 0 < length (chars b)
  pub in_range : Gathered over (chars b) i false
  pub even : Gathered odd (chars b) i false
  pub stored : Copied low 0 (map byte_of (chars b)) i now

pub walked_none : {b low : List ℕ} → (0 < length b / 2) × (length b / 2 ≤ length low) → Walked b low 0 low
walked_none {b} h = record {
  some = omega (arith, length_characters b, h.0);
  in_range = gathered_none;
  even = gathered_none;
  stored = stored_none (omega (arith, length_lows b, h.1));
}

module _ {b low : List ℕ} {i : ℕ} {now : List ℕ} (w : Walked b low i now) where
  -- a character over 511 is refused by 2
  pub walked_over : i < length b / 2 → {c : ℕ} → c ≡ at (chars b) i → over c ≡ true → read_line (chars b) ≡ refusal 2
  unfolding read_line
  walked_over h e t = rw (ne_eqb (length (chars b)) 0 (omega (arith, w.some)), pairs_hit b w.in_range h e t)

  -- an odd one by 3, if none of the rest is over 511
  pub walked_odd : i < length b / 2 → {c : ℕ} → c ≡ at (chars b) i → {isOdd is_over : Bool} → isOdd ≡ odd c → isOdd ≡ true
      → is_over ≡ any over (chars (drop (2 * i) b)) → read_line (chars b) ≡ refusal (cond is_over 2 3)
  unfolding read_line
  walked_odd h e {isOdd} {is_over} o t r =
      let range : any over (chars b) ≡ is_over = sym (r ∙ ap (any over) (chars_drop b i) ∙ w.in_range.so) in
      let parity : any odd (chars b) ≡ true = pairs_hit b w.even h e (sym o ∙ t) in
      rw (ne_eqb (length (chars b)) 0 (omega (arith, w.some)), range, parity) (either is_over)
    where
      either : (over : Bool) → refuse {A = Telegram} 2 over (refusal 3) ≡ refusal (cond over 2 3)
      either true = refl
      either false = refl

  pub walked_next : i < length b / 2 → {c : ℕ} {isOdd : Bool} → c ≡ at (chars b) i → over c ≡ false → isOdd ≡ odd c → isOdd ≡ false
      → Walked b low (i + 1) (set now i (byte_of c))
  walked_next h e in_range o even = record {
    some = w.some;
    in_range = pairs_miss b w.in_range h e in_range;
    even = pairs_miss b w.even h e (sym o ∙ even);
    stored = stored_next w.stored (omega (arith, length_lows b)) (ap byte_of e ∙ sym (at_bytes (chars b) i));
  }

  pub walked_all : length b / 2 ≤ i → TakenFew (chars b) now (Ok tt)
  walked_all h = (
    sound_line (chars b) w.some (sym (characters_all b w.in_range h)) (sym (characters_all b w.even h)),
    ap (take (length (chars b))) (copied_all w.stored (omega (arith, length_lows b)))
        ∙ take_at (map byte_of (chars b)) (drop (length (map byte_of (chars b))) low) (length (chars b)) (length-map (chars b) byte_of),
  )

-- few characters have no header and no entries: the shape is the outline
pub few_is : (s low : List ℕ) {n : ℕ} {v : Outline} → length s ≤ 5 → n ≡ length s → TakenFew s low (Ok tt)
    → v ≡ outlined (refuse 5 (is_long (take n low)) (read_frame shape_body (take n low))) → v ≡ outlined (read_line s)
few_is s low h en t e =
    e ∙ ap (λ (k : ℕ). outlined (refuse 5 (is_long (take k low)) (read_frame shape_body (take k low)))) en
    ∙ ap (λ (b : List ℕ). outlined (refuse 5 (is_long b) (read_frame shape_body b))) t.1
    ∙ brief_few (map byte_of s) (rw (length-map s byte_of) (omega arith)) ∙ ap outlined (sym t.0)
