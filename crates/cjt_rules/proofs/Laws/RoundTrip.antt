-- Demand 2 for CJ/T 188: every accepted line is none to five FE bytes and what is written for its reading, and every telegram that can be
-- written reads back as itself.
use Prim.Native.Nat.{ℕ, zero, suc, ◌≤◌, zero-le}
use native.Mathlib.Omega.{arith}
use mathlib.Core.Bool.{true, false, true≢false}
use mathlib.Core.List.{List, [], ◌∷◌, ◌++◌, map}
use mathlib.Core.Logic.{◌↔◌, ◌≢◌}
use mathlib.Core.Path.{◌≡◌, refl, sym, ap, ◌∙◌}
use borrow.Author.Tests.{eqb-true, ne_eqb, le-ltb}
use lib.Dec.{eqb}
use lib.Count.{ones_in}
use lib.ListN.{length, length-map}
use Rattle.base_rules.specs.Lists.{at, any}
use Rattle.base_rules.specs.Bytes.{Bytes}
use Rattle.base_characters.specs.Characters.{over, odd, byte_of, carrier}
use Rattle.base_rules.specs.Answers.{reads, refusal}
use Rattle.base_characters.proofs.Laws.CharacterLaws.{bytes_of_lem, even_line, Carried, carried}
use Rattle.base_rules.proofs.Laws.Tests.{by_test}
use Rattle.base_rules.proofs.Laws.TestLaws.{all_passed, all_passing}
use Rattle.cjt_rules.specs.declared.CjtRequest.{CjtRequest}
use Rattle.cjt_rules.specs.declared.CjtAnswer.{CjtAnswer}
use Rattle.cjt_rules.specs.declared.CjtTelegram.{CjtTelegram}
use Rattle.cjt_rules.specs.declared.CjtTelegram.TheVariants as telegrams
use Rattle.cjt_rules.specs.CjtFrames.{past_fe}
use Rattle.cjt_rules.specs.CjtLines.{read_cjt_frame, read_cjt_line}
use Rattle.cjt_rules.specs.CjtWriting.{bytes_of_telegram, cjt_line_of, unwritten, write_cjt_line}
use Rattle.cjt_rules.specs.CjtSizes.{CjtSized}
use Rattle.cjt_rules.proofs.Laws.FrontLaws.{front, past_nothing, front_changes_nothing}
use Rattle.cjt_rules.proofs.Laws.BodyLaws.{Round, frame_round}
use Rattle.cjt_rules.proofs.Laws.WrittenLaws.{Reads, telegram_reads, request_length, answer_length}

-- ---- from an accepted line to the line that is written

past_bytes : (left : ℕ) (b : List ℕ) → Bytes b → Bytes (past_fe left b)
unfolding past_fe
past_bytes zero b h = h
past_bytes (suc left) [] h = tt
past_bytes (suc left) (x ∷ b) h = by_test (eqb x 0xFE) (λ e. rw e (past_bytes left b h.1)) (λ e. rw e h)

-- what is skipped is FE, as often as may be
skipped : (left : ℕ) (b : List ℕ) → (n : ℕ) × (n ≤ left) × (map carrier b ≡ front n ++ map carrier (past_fe left b))
unfolding past_fe
skipped zero b = (0, zero-le, refl)
skipped (suc left) [] = (0, zero-le, refl)
skipped (suc left) (x ∷ b) =
    by_test (eqb x 0xFE)
    (λ e.
    let r = skipped left b in
    (suc r.0, omega (arith, r.1), rw e (ap (λ (y : ℕ). carrier y ∷ map carrier b) (eqb-true x 0xFE e) ∙ ap (λ (l : List ℕ). carrier 0xFE ∷ l) r.2)))
    (λ e. (0, zero-le, rw e))

-- Every accepted line is what is written for its reading, to the character, behind none to five FE bytes, and its reading can be written.
pub record Rewritten (s : List ℕ) (t : CjtTelegram) : Type 0 where
  pub skips : ℕ
  pub few : skips ≤ 5
  pub same : s ≡ front skips ++ cjt_line_of t
  pub writable : unwritten t ≡ false
  pub sized : CjtSized t

pub read_then_write : (s : List ℕ) (t : CjtTelegram) → read_cjt_line s ≡ reads t → Rewritten s t
unfolding read_cjt_line cjt_line_of
read_then_write s t r =
    let b : List ℕ = map byte_of s in
    let k = all_passed ((1, eqb (length s) 0) ∷ (2, any over s) ∷ (3, any odd s) ∷ []) (read_cjt_frame (past_fe 5 b)) r in
    let o : Round (past_fe 5 b) t = frame_round (past_fe 5 b) t (past_bytes 5 b (bytes_of_lem s)) k.1 in
    let n = skipped 5 b in
    record {
      skips = n.0;
      few = n.1;
      same = even_line s k.0.1.0 k.0.1.1.0 ∙ n.2 ∙ ap (λ (l : List ℕ). front n.0 ++ map carrier l) o.back;
      writable = o.writable;
      sized = o.sized;
    }

-- ---- from a telegram that can be written to its line and back

past_start : (b : List ℕ) → at b 0 ≡ 0x68 → past_fe 5 b ≡ b
past_start [] e = absurd (omega arith)
past_start (x ∷ b) e = past_nothing 5 x b (ne_eqb x 0xFE (omega arith))

pub write_then_read : (t : CjtTelegram) → CjtSized t → unwritten t ≡ false → read_cjt_line (cjt_line_of t) ≡ reads t
unfolding read_cjt_line cjt_line_of
write_then_read t z w =
    let b : List ℕ = bytes_of_telegram t in
    let r : Reads b t = telegram_reads t z w in
    let c : Carried b = carried b r.bytes in
    let n : length (map carrier b) ≡ length b = length-map b carrier in
    all_passing ((1, eqb (length (map carrier b)) 0) ∷ (2, any over (map carrier b)) ∷ (3, any odd (map carrier b)) ∷ [])
    (read_cjt_frame (past_fe 5 (map byte_of (map carrier b))))
    (ne_eqb (length (map carrier b)) 0 (omega (arith, r.begun)), (c.range, (c.even, tt)))
    ∙ ap (λ (l : List ℕ). read_cjt_frame (past_fe 5 l)) c.back ∙ ap read_cjt_frame (past_start b r.start) ∙ r.back

start_is_68 : carrier 0x68 ≢ carrier 0xFE
unfolding carrier ones_in
start_is_68 e = omega (arith, e)

front_then_line : (n : ℕ) (t : CjtTelegram) → n ≤ 5 → read_cjt_line (front n ++ cjt_line_of t) ≡ read_cjt_line (cjt_line_of t)
unfolding cjt_line_of
front_then_line n (telegrams.Request q) h = front_changes_nothing n (carrier 0x68) _ h start_is_68
front_then_line n (telegrams.Answer a) h = front_changes_nothing n (carrier 0x68) _ h start_is_68

-- A line reads as a telegram exactly where the telegram can be written and the line is none to five FE bytes and its line.
pub accepted_lines : (s : List ℕ) (t : CjtTelegram)
    → (read_cjt_line s ≡ reads t) ↔ ((n : ℕ) × (n ≤ 5) × (s ≡ front n ++ cjt_line_of t) × CjtSized t × (unwritten t ≡ false))
accepted_lines s t = (
  λ r. let k : Rewritten s t = read_then_write s t r in (k.skips, k.few, k.same, k.sized, k.writable),
  λ k. ap read_cjt_line k.2 ∙ front_then_line k.0 t k.1 ∙ write_then_read t k.3 k.4,
)

-- 20: no accepted line reads as this telegram.
pub refusal_20 : (t : CjtTelegram) → CjtSized t → (unwritten t ≡ true) ↔ ((s : List ℕ) → read_cjt_line s ≡ reads t → ⊥)
refusal_20 t z = (
  λ w s r. true≢false (sym w ∙ (read_then_write s t r).writable),
  λ none. by_test (unwritten t) (λ w. w) (λ w. absurd (none (cjt_line_of t) (write_then_read t z w))),
)

-- ---- the writer

pub enough_places : (t : CjtTelegram) (places : ℕ) → unwritten t ≡ false → length (cjt_line_of t) ≤ places → write_cjt_line t places ≡ reads (cjt_line_of t)
enough_places t places u h = rw (u, le-ltb places (length (cjt_line_of t)) h)

no_front : (n : ℕ) (s l : List ℕ) → at s 0 ≢ carrier 0xFE → s ≡ front n ++ l → s ≡ l
no_front zero s l h e = e
no_front (suc n) s l h e = absurd (h (ap (λ (r : List ℕ). at r 0) e))

-- An accepted line without FE in front, read and written, gives the same characters.
pub written_again : (s : List ℕ) (t : CjtTelegram) (places : ℕ) → at s 0 ≢ carrier 0xFE → read_cjt_line s ≡ reads t → length s ≤ places
    → write_cjt_line t places ≡ reads s
written_again s t places bare r h =
    let again : Rewritten s t = read_then_write s t r in
    let same : s ≡ cjt_line_of t = no_front again.skips s (cjt_line_of t) bare again.same in
    enough_places t places again.writable (rw (← same) h) ∙ ap reads (sym same)

-- Within 20 and 21 the lower goes first.
pub lower_first : (t : CjtTelegram) (places : ℕ) → unwritten t ≡ true → write_cjt_line t places ≡ refusal 20
lower_first t places w = rw w

-- A request has 16 characters, an answer 59.
pub request_line : (q : CjtRequest) → length (cjt_line_of (telegrams.Request q)) ≡ 16
unfolding cjt_line_of
request_line q = length-map (bytes_of_telegram (telegrams.Request q)) carrier ∙ request_length q

pub answer_line : (a : CjtAnswer) → length (cjt_line_of (telegrams.Answer a)) ≡ 59
unfolding cjt_line_of
answer_line a = length-map (bytes_of_telegram (telegrams.Answer a)) carrier ∙ answer_length a
