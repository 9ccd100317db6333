-- The shape of a line, form by form.
use Rattle.std.proofs.Common.{◌≡◌, ℕ, ◌+◌, ◌-◌, ◌%◌, ◌≤◌, Bool, true, false, cond, not, ◌||◌, eqb, ltb, List, [], ◌∷◌, length, take, drop, sym, refl, ◌∙◌, arith, ltb-false, le-ltb, eq-eqb, ne_eqb}
use Rattle.mbus_rules.specs.declared.Telegram.{Telegram}
use Rattle.mbus_rules.specs.declared.Outline.{Outline}
use Rattle.mbus_rules.specs.declared.Outline.TheVariants.{Refused, Ack}
use Rattle.base_rules.specs.Lists.{at, total}
use Rattle.base_rules.specs.Answers.{Answer, refuse}
use Rattle.mbus_rules.proofs.Laws.Chain.{after_short}
use Rattle.mbus_rules.specs.Lines.{is_long, wrong_count, read_short, read_frame}
use Rattle.base_rules.proofs.Laws.Tests.{neither, not_different}
use Rattle.mbus_rules.specs.Outlines.{outlined}
use Rattle.mbus_shape.specs.Shapes.{shape_long, shape_body, end_wrong, sum_wrong, whole_wrong, frame_by}
use Rattle.mbus_shape.specs.Counts.{ShortCount, LongCount}

-- the outline of a chain of refusals
abbrev pub pick : ℕ → Bool → Outline → Outline
pick n test next = cond test (Refused n) next

pub outlined_refuse : (n : ℕ) (test : Bool) (a : Answer Telegram) → outlined (refuse n test a) ≡ pick n test (outlined a)
outlined_refuse n true a = refl
outlined_refuse n false a = refl

-- 7 and 8 of the short form, as the code asks them
abbrev pub closing : ℕ → List ℕ → Outline → Outline
closing sum b next = pick 7 (end_wrong b) (pick 8 (sum_wrong sum b) next)

-- the sum of C and A
two_sum : (b : List ℕ) → 3 ≤ length b → total (take 2 (drop 1 b)) ≡ at b 1 + at b 2
unfolding total
two_sum [] h = absurd (omega arith)
two_sum (f ∷ []) h = absurd (omega arith)
two_sum (f ∷ c ∷ []) h = absurd (omega arith)
two_sum (f ∷ c ∷ a ∷ b) h = omega arith

two_are : (b : List ℕ) → 3 ≤ length b → take 2 (drop 1 b) ≡ at b 1 ∷ at b 2 ∷ []
two_are [] h = absurd (omega arith)
two_are (f ∷ []) h = absurd (omega arith)
two_are (f ∷ c ∷ []) h = absurd (omega arith)
two_are (f ∷ c ∷ a ∷ b) h = refl

pub short_is : {b : List ℕ} → ShortCount b
    → outlined (read_frame shape_body b) ≡ closing ((at b 1 + at b 2) % 256) b (outlined (read_short (at b 1 ∷ at b 2 ∷ [])))
unfolding shape_body
short_is {b} h =
    let three : 3 ≤ length b = omega (arith, h.five) in
    rw (after_short shape_body b h.first, outlined_refuse, outlined_refuse, outlined_refuse, eq-eqb (length b) 5 h.five, two_sum b three, h.first)
    (rw (two_are b three))

pub long_is : {b : List ℕ} (sum : ℕ) → LongCount b
    → outlined (frame_by sum shape_body b)
    ≡ pick 6 (not (eqb (at b 1) (at b 2)) || not (eqb (at b 3) 0x68))
    (pick 7 (end_wrong b) (pick 8 (whole_wrong sum b) (outlined (shape_long (take (length b - 2 - 4) (drop 4 b))))))
unfolding shape_body
long_is {b} sum h =
    let six : length b - 6 ≡ length b - 2 - 4 = omega arith in
    let count : (ltb (length b) 6 || not (eqb (length b) (at b 1 + 6))) ≡ false = rw (le-ltb (length b) 6 h.six, eq-eqb (length b) (at b 1 + 6) h.count)
    in
    rw (h.first, count, six, outlined_refuse, outlined_refuse, outlined_refuse)

-- ---- the rules 4 and 5, form by form

module _ (b : List ℕ) where
  abbrev brief : Answer Telegram
  brief = refuse 5 (is_long b) (read_frame shape_body b)

  pub brief_long : at b 0 ≡ 0x68 → Refused 5 ≡ outlined brief
  brief_long e = rw e

  pub brief_ack : at b 0 ≡ 0xE5 → length b ≡ 1 → Ack ≡ outlined brief
  unfolding shape_body
  brief_ack e one = rw (e, one)

  pub brief_more : at b 0 ≡ 0xE5 → (length b ≡ 1 → ⊥) → Refused 5 ≡ outlined brief
  brief_more e many = rw (e, ne_eqb (length b) 1 many)

  pub brief_other : (at b 0 ≡ 0x68 → ⊥) → (at b 0 ≡ 0xE5 → ⊥) → (at b 0 ≡ 0x10 → ⊥) → Refused 4 ≡ outlined brief
  brief_other k n m = rw (ne_eqb (at b 0) 0x68 k, ne_eqb (at b 0) 0xE5 n, ne_eqb (at b 0) 0x10 m)

  pub brief_count : at b 0 ≡ 0x10 → (length b ≡ 5 → ⊥) → Refused 5 ≡ outlined brief
  brief_count e many = rw (e, ne_eqb (length b) 5 many)

  pub brief_short : at b 0 ≡ 0x10 → outlined (read_frame shape_body b) ≡ outlined brief
  brief_short e = rw e

  -- where the first byte is not 68, what is too short for the long form is all
  pub brief_is : (sum : ℕ) → (at b 0 ≡ 0x68 → ⊥) → outlined brief ≡ outlined (frame_by sum shape_body b)
  brief_is sum k = rw (ne_eqb (at b 0) 0x68 k)

module _ (b : List ℕ) (first : at b 0 ≡ 0x68) {wrong : Bool} (e : wrong ≡ wrong_count b) where
  pub length_five : (sum : ℕ) → wrong ≡ true → Refused 5 ≡ outlined (frame_by sum shape_body b)
  length_five sum five =
      let count : (ltb (length b) 6 || not (eqb (length b) (at b 1 + 6))) ≡ true = rw first at (sym e ∙ five) in
      rw (first, count)

  pub long_count : wrong ≡ false → LongCount b
  long_count passed =
      let both = neither (ltb (length b) 6) (not (eqb (length b) (at b 1 + 6))) (rw first at (sym e ∙ passed)) in
      record {
        first = first;
        six = ltb-false (length b) 6 both.0;
        count = not_different (length b) (at b 1 + 6) both.1;
      }
