-- Demand 3 for CJ/T 188: flips, beginnings and cuts of accepted lines, FE bytes in front of them included.
use Prim.Native.Nat.{ℕ, zero, suc, ◌+◌, ◌-◌, ◌≤◌, ◌<◌}
use native.Mathlib.Omega.{arith}
use mathlib.Core.Bool.{Bool, true, false, not, ◌||◌, true≢false}
use mathlib.Core.List.{List, [], ◌∷◌, ◌++◌, map, flatten}
use mathlib.Core.Logic.{◌⊎◌, inl, inr, ⊎_elim}
use mathlib.Core.Path.{◌≡◌, refl, sym, ap, ◌∙◌}
use borrow.Author.Tests.{eqb-true, not-false}
use lib.Dec.{eqb, lit≤}
use lib.ListN.{length, get_or-append}
use Rattle.base_rules.specs.Lists.{at, any}
use Rattle.base_characters.specs.Characters.{over, odd, byte_of}
use Rattle.base_rules.specs.Answers.{reads, refusal}
use Rattle.base_characters.specs.Flips.{Place, flips, Places}
use Rattle.base_rules.specs.Each.{Each}
use Rattle.base_rules.proofs.Laws.Tests.{by_test, passed, not_different}
use Rattle.base_rules.proofs.Laws.TestLaws.{none, all_passed}
use Rattle.base_characters.proofs.Laws.Closing.{Closed, closed_byte, none_added}
use Rattle.base_characters.proofs.Laws.Codes
use Rattle.base_characters.proofs.Laws.Codes.{Sound, Code}
use Rattle.cjt_rules.specs.declared.CjtTelegram.{CjtTelegram}
use Rattle.cjt_rules.specs.CjtFrames.{past_fe, asks_length, tells_length, wrong_frame, wrong_frame_sum}
use Rattle.cjt_rules.specs.CjtAddresses.{wrong_party}
use Rattle.cjt_rules.specs.CjtLines.{wrong_mark, read_listed, read_cjt_frame, read_cjt_line, CjtAccepted}

-- What 80 leaves of the bytes behind the FE bytes,
pub record Shaped (b : List ℕ) : Type 0 where
  pub start : at b 0 ≡ 0x68
  pub length_byte : (at b 10 ≡ 0x03) ⊎ (at b 10 ≡ 0x2E)
  pub count : length b ≡ at b 10 + 13
  pub end : at b (length b - 1) ≡ 0x16

-- and 81.
pub record Framed (b : List ℕ) : Type 0 where
  pub start : at b 0 ≡ 0x68
  pub length_byte : (at b 10 ≡ 0x03) ⊎ (at b 10 ≡ 0x2E)
  pub count : length b ≡ at b 10 + 13
  pub closed : Closed 0 b

one_of : (asks tells : Bool) → not (asks || tells) ≡ false → (asks ≡ true) ⊎ (tells ≡ true)
one_of true tells e = inl refl
one_of false tells e = inr (not-false tells e)

pub shaped_by : (b : List ℕ) → wrong_frame b ≡ false → Shaped b
shaped_by b f =
    let k = none (not (eqb (at b 0) 0x68))
    (not (asks_length b || tells_length b) ∷ not (eqb (length b) (at b 10 + 13)) ∷ not (eqb (at b (length b - 1)) 0x16) ∷ []) f in
    record {
      start = not_different _ _ k.0;
      length_byte = ⊎_elim (λ e. inl (eqb-true _ _ e)) (λ e. inr (eqb-true _ _ e)) (one_of (asks_length b) (tells_length b) k.1.0);
      count = not_different _ _ k.1.1.0;
      end = not_different _ _ k.1.1.1.0;
    }

pub framed_by : (b : List ℕ) → wrong_frame b ≡ false → wrong_frame_sum b ≡ false → Framed b
framed_by b f s =
    let k : Shaped b = shaped_by b f in
    record { start = k.start; length_byte = k.length_byte; count = k.count; closed = record { end = k.end; sum = not_different _ _ s } }

pub framed : (b : List ℕ) (t : CjtTelegram) → read_cjt_frame b ≡ reads t → Framed b
unfolding read_cjt_frame
framed b t e =
    let k = all_passed ((80, wrong_frame b) ∷ (81, wrong_frame_sum b) ∷ (82, wrong_party b) ∷ (83, wrong_mark b) ∷ []) (read_listed b) e in
    framed_by b k.0.0 k.0.1.0

-- ---- one byte changed, and bytes added, behind the FE bytes

-- a request has 16 bytes, an answer 59
sixteen_or_59 : (b : List ℕ) → (at b 10 ≡ 0x03) ⊎ (at b 10 ≡ 0x2E) → length b ≡ at b 10 + 13 → (length b ≡ 16) ⊎ (length b ≡ 59)
sixteen_or_59 b l n = ⊎_elim (λ e. inl (n ∙ ap (λ (k : ℕ). k + 13) e)) (λ e. inr (n ∙ ap (λ (k : ℕ). k + 13) e)) l

pub counts : (b : List ℕ) → Framed b → (length b ≡ 16) ⊎ (length b ≡ 59)
counts b f = sixteen_or_59 b f.length_byte f.count

pub shaped_counts : (b : List ℕ) → Shaped b → (length b ≡ 16) ⊎ (length b ≡ 59)
shaped_counts b f = sixteen_or_59 b f.length_byte f.count

-- every byte is settled by the others, since the sum begins with the first
framed_byte : (p q : List ℕ) (x y : ℕ) → x < 256 → y < 256 → Framed (p ++ x ∷ q) → Framed (p ++ y ∷ q) → x ≡ y
framed_byte p q x y hx hy u v = closed_byte 0 p q x y hx hy (omega arith) u.closed v.closed

framed_longer : (b c : List ℕ) → Framed b → Framed (b ++ c) → c ≡ []
framed_longer b c u v =
    let same : at (b ++ c) 10 ≡ at b 10 = get_or-append b c 0 10 (omega (arith, u.count)) in
    none_added b c (v.count ∙ ap (λ (n : ℕ). n + 13) same ∙ sym u.count)

-- ---- with FE bytes in front

pub past_count : (left : ℕ) (b : List ℕ) → (length (past_fe left b) ≤ length b) × (length b ≤ length (past_fe left b) + left)
unfolding past_fe
past_count zero b = (omega arith, omega arith)
past_count (suc left) [] = (omega arith, omega arith)
past_count (suc left) (x ∷ b) =
    by_test (eqb x 0xFE) (λ e. let h = past_count left b in rw e (omega arith, omega arith)) (λ e. rw e (omega arith, omega arith))

-- the counts of lines lie further apart than five
same_front : (left : ℕ) (q : List ℕ) (y : ℕ) → left ≤ 4 → Framed (past_fe left q) → Framed (y ∷ q) → ⊥
same_front left q y h u v =
    let n = past_count left q in
    ⊎_elim (λ a. ⊎_elim (λ b. omega arith) (λ b. omega arith) (counts (y ∷ q) v))
    (λ a. ⊎_elim (λ b. omega arith) (λ b. omega arith) (counts (y ∷ q) v)) (counts (past_fe left q) u)

past_byte : (left : ℕ) (p q : List ℕ) (x y : ℕ) → left ≤ 5 → x < 256 → y < 256
    → Framed (past_fe left (p ++ x ∷ q)) → Framed (past_fe left (p ++ y ∷ q)) → x ≡ y
unfolding past_fe
past_byte zero p q x y h hx hy u v = framed_byte p q x y hx hy u v
past_byte (suc left) [] q x y h hx hy u v =
    by_test (eqb x 0xFE)
    (λ e. by_test (eqb y 0xFE) (λ f. eqb-true _ _ e ∙ sym (eqb-true _ _ f)) (λ f. absurd (same_front left q y (omega arith) (rw e at u) (rw f at v))))
    (λ e. by_test (eqb y 0xFE) (λ f. absurd (same_front left q x (omega arith) (rw f at v) (rw e at u)))
    (λ f. framed_byte [] q x y hx hy (rw e at u) (rw f at v)))
past_byte (suc left) (z ∷ p) q x y h hx hy u v =
    by_test (eqb z 0xFE) (λ e. past_byte left p q x y (omega arith) hx hy (rw e at u) (rw e at v))
    (λ e. framed_byte (z ∷ p) q x y hx hy (rw e at u) (rw e at v))

none_framed : Framed [] → ⊥
none_framed f = omega (arith, f.count)

past_longer : (left : ℕ) (b c : List ℕ) → Framed (past_fe left b) → Framed (past_fe left (b ++ c)) → c ≡ []
unfolding past_fe
past_longer zero b c u v = framed_longer b c u v
past_longer (suc left) [] c u v = absurd (none_framed u)
past_longer (suc left) (z ∷ b) c u v =
    by_test (eqb z 0xFE) (λ e. past_longer left b c (rw e at u) (rw e at v)) (λ e. framed_longer (z ∷ b) c (rw e at u) (rw e at v))

-- ---- what is asked of a code

abbrev Rule : List ℕ → Type 0
Rule b = Framed (past_fe 5 b)

sound : (s : List ℕ) → CjtAccepted s → Sound Rule s
unfolding read_cjt_line
sound s a =
    let k = all_passed ((1, eqb (length s) 0) ∷ (2, any over s) ∷ (3, any odd s) ∷ []) (read_cjt_frame (past_fe 5 (map byte_of s))) a.1 in
    record { in_range = k.0.1.0; even = k.0.1.1.0; bytes = framed (past_fe 5 (map byte_of s)) a.0 k.1 }

not_empty : ¬ CjtAccepted []
unfolding read_cjt_line
not_empty a = true≢false (passed 1 true (refusal 1) a.0 a.1).0

pub cjt_code : Code CjtAccepted Rule
cjt_code = record { sound = sound; one_byte = λ p q x y. past_byte 5 p q x y (lit≤ tt); no_longer = past_longer 5; not_empty = not_empty }

-- For every accepted line and every one, two or three different places within it, the line flipped there is not accepted.
pub flips_refused : (s : List ℕ) (ps : List Place) → CjtAccepted s → Places s ps → 1 ≤ length ps → length ps ≤ 3 → ¬ CjtAccepted (flips ps s)
flips_refused = Codes.flips_refused cjt_code

-- No accepted line is a proper beginning of another.
pub no_proper_beginning : (s t : List ℕ) → CjtAccepted s → CjtAccepted (s ++ t) → t ≡ []
no_proper_beginning = Codes.no_proper_beginning cjt_code

-- Lists of accepted lines whose joins are equal are equal.
pub one_cut : (ss ts : List (List ℕ)) → Each CjtAccepted ss → Each CjtAccepted ts → flatten ss ≡ flatten ts → ss ≡ ts
one_cut = Codes.one_cut cjt_code
