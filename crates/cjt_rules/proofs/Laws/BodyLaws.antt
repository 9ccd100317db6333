-- The bytes of a line both ways: what is read of them, and what is written of a telegram.
use Prim.Native.Nat.{ℕ, ◌+◌, ◌-◌, ◌/◌, ◌%◌, ◌^◌, ◌<◌, ◌≤◌}
use native.Mathlib.Omega.{arith}
use mathlib.Core.Bool.{Bool, true, false, cond, not, ◌&&◌, and-true, true≢false, false≢true}
use mathlib.Core.List.{List, [], ◌∷◌, ◌++◌}
use mathlib.Core.Logic.{◌⊎◌, ⊎_elim}
use mathlib.Core.Path.{◌≡◌, refl, sym, ap, ap₂, subst, ◌∙◌}
use borrow.Author.Tests.{eqb-true, eq-eqb, ne_eqb, lt-ltb, ltb-false, not-false}
use lib.Dec.{eqb, ltb}
use lib.ListN.{length, take, drop, replicate, length-drop}
use lib.Seq.{length-take-le}
use Rattle.base_rules.specs.Lists.{at, any}
use Rattle.base_rules.specs.Bytes.{Bytes}
use Rattle.base_rules.specs.Answers.{reads}
use Rattle.base_digits.specs.Digits.{over_nine, digits_of, packed}
use Rattle.base_rules.proofs.Laws.AnswerLaws.{reads_same}
use Rattle.base_rules.proofs.Laws.ByteLaws.{byte_at, bytes_drop, spell}
use Rattle.base_digits.proofs.Laws.DigitLaws.{packed_digits, digits_below}
use Rattle.base_rules.proofs.Laws.Tests.{by_test, not_different, neither}
use Rattle.base_rules.proofs.Laws.TestLaws.{none, all_passed}
use Rattle.cjt_rules.specs.declared.CjtTelegram.{CjtTelegram}
use Rattle.cjt_rules.specs.declared.CjtTelegram.TheVariants as telegrams
use Rattle.cjt_rules.specs.CjtFrames.{asks_length, wrong_frame, wrong_frame_sum}
use Rattle.cjt_rules.specs.CjtAddresses.{heat_type, party_bytes, party_of, not_aa, all_aa, wrong_party}
use Rattle.cjt_rules.specs.CjtUnits.{wrong_units}
use Rattle.cjt_rules.specs.CjtLines.{wrong_mark, asks_with, listed_bytes, tells_with, wrong_listed, read_listed, read_cjt_frame}
use Rattle.cjt_rules.specs.CjtWriting.{bytes_of_party, frame_of, bytes_of_telegram, over_fourteen, unwritten_party, unwritten}
use Rattle.cjt_rules.specs.CjtSizes.{CjtSized}
use Rattle.cjt_rules.proofs.Laws.FrameCode.{Framed, framed_by}
use Rattle.cjt_rules.proofs.Laws.FrameParts.{join, framed_is}
use Rattle.cjt_rules.proofs.Laws.ListedLaws.{listed_right, listed_back, listed_counts}

-- ---- addresses

-- seven AA
pub all_aa_lem : (a : List ℕ) → all_aa a ≡ true → a ≡ replicate (length a) 0xAA
unfolding any
all_aa_lem [] e = refl
all_aa_lem (x ∷ a) e =
    let k = neither (not_aa x) (any not_aa a) (not_true_false (any not_aa (x ∷ a)) e) in
    ap₂ (λ (y : ℕ) (l : List ℕ). y ∷ l) (not_different x 0xAA k.0) (all_aa_lem a (ap not k.1))
  where
    not_true_false : (t : Bool) → not t ≡ true → t ≡ false
    not_true_false true h = absurd (false≢true h)
    not_true_false false h = refl

-- digits are no AA
pub no_aa : (a : List ℕ) → 0 < length a → any over_nine a ≡ false → all_aa a ≡ false
unfolding any
no_aa [] some e = absurd (omega arith)
no_aa (x ∷ a) some e =
    let k = none (ltb 9 (x % 16)) (ltb 9 (x / 16) ∷ []) (neither (over_nine x) (any over_nine a) e).0 in
    let other : eqb x 0xAA ≡ false = ne_eqb x 0xAA (omega (arith, ltb-false)) in
    rw other

fourteen : (a : List ℕ) → length a ≡ 7 → any over_nine a ≡ false → over_fourteen (digits_of a) ≡ false
fourteen a n e =
    let h : digits_of a < 100 ^ 7 = rw n at (digits_below a e) in
    rw (lt-ltb (digits_of a) 100000000000000 h)

-- an address of digits
digits_address : (a : List ℕ) → length a ≡ 7 → any over_nine a ≡ false → packed 7 (digits_of a) ≡ a
digits_address a n e = ap (λ (k : ℕ). packed k (digits_of a)) (sym n) ∙ packed_digits a e

-- the address of a request, from seven bytes and back
record PartyRead (a : List ℕ) : Type 0 where
  pub back : bytes_of_party (party_of a) ≡ a
  pub written : unwritten_party (party_of a) ≡ false

party_read : (a : List ℕ) → length a ≡ 7 → any over_nine a && not (all_aa a) ≡ false → PartyRead a
party_read a n e =
    by_test (all_aa a) (λ all. record { back = rw all (ap (λ (k : ℕ). replicate k 0xAA) (sym n) ∙ sym (all_aa_lem a all)); written = rw all })
    (λ some.
    let right : any over_nine a ≡ false = sym (and-true (any over_nine a)) ∙ rw some at e in
    record { back = rw some (digits_address a n right); written = rw some (fourteen a n right) })

-- ---- from bytes to a telegram and back

pub record Round (b : List ℕ) (t : CjtTelegram) : Type 0 where
  pub back : b ≡ bytes_of_telegram t
  pub writable : unwritten t ≡ false
  pub sized : CjtSized t

module _ (b : List ℕ) (bytes : Bytes b) (f : Framed b) (party : wrong_party b ≡ false) (mark : wrong_mark b ≡ false) where
  type_known : heat_type (at b 1) ≡ true
  type_known = not-false (heat_type (at b 1)) (neither (not (heat_type (at b 1))) (any over_nine (party_bytes b) && not (asks_length b && all_aa
      (party_bytes b))) party).0

  party_known : any over_nine (party_bytes b) && not (asks_length b && all_aa (party_bytes b)) ≡ false
  party_known = (neither (not (heat_type (at b 1))) (any over_nine (party_bytes b) && not (asks_length b && all_aa (party_bytes b))) party).1

  party_seven : length (party_bytes b) ≡ 7
  party_seven = length-take-le 7 (drop 2 b) (rw (length-drop 2 b) (omega (arith, f.count)))

  -- the data with their mark, and what follows the serial number
  data_is : (m : ℕ) → at b 10 ≡ m + 3 → take (at b 10) (drop 11 b) ≡ 0x1F ∷ 0x90 ∷ at b 13 ∷ take m (drop 14 b)
  data_is m e =
      let k = none (not (eqb (at b 11) 0x1F)) (not (eqb (at b 12) 0x90) ∷ not (eqb (at b 9) (cond (asks_length b) 0x01 0x81)) ∷ []) mark in
      let head : take 3 (drop 11 b) ≡ 0x1F ∷ 0x90 ∷ at b 13 ∷ [] =
      spell 3 11 b (omega (arith, f.count)) ∙ rw (not_different (at b 11) 0x1F k.0, not_different (at b 12) 0x90 k.1.0) in
      let width : at b 10 ≡ 3 + m = omega arith in
      ap (λ (n : ℕ). take n (drop 11 b)) width ∙ join 11 3 m b ∙ ap (λ (l : List ℕ). l ++ take m (drop 14 b)) head

  control_is : at b 9 ≡ cond (asks_length b) 0x01 0x81
  control_is =
      let k = none (not (eqb (at b 11) 0x1F)) (not (eqb (at b 12) 0x90) ∷ not (eqb (at b 9) (cond (asks_length b) 0x01 0x81)) ∷ []) mark in
      not_different (at b 9) (cond (asks_length b) 0x01 0x81) k.1.1.0

  request_round : asks_length b ≡ true → Round b (telegrams.Request (asks_with b))
  unfolding unwritten
  request_round e =
      let p : PartyRead (party_bytes b) = party_read (party_bytes b) party_seven (rw e at party_known) in
      let control : at b 9 ≡ 0x01 = control_is ∙ ap (λ (t : Bool). cond t 0x01 0x81) e in
      record {
        back = framed_is b f ∙ rw (control, data_is 0 (eqb-true (at b 10) 0x03 e)) (ap (λ (l : List ℕ). frame_of (at b 1) l 0x01
            (0x1F ∷ 0x90 ∷ at b 13 ∷ [])) (sym p.back));
        writable = rw (type_known, p.written);
        sized = byte_at b bytes 13;
      }

  tells_size : asks_length b ≡ false → at b 10 ≡ 43 + 3
  tells_size e = ⊎_elim (λ h. absurd (true≢false (sym (eq-eqb (at b 10) 0x03 h) ∙ e))) (λ h. h) f.length_byte

  listed_there : asks_length b ≡ false → 43 ≤ length (listed_bytes b)
  listed_there e = let n = tells_size e in rw (length-drop 14 b) (omega (arith, f.count))

  answer_round : asks_length b ≡ false → wrong_listed (listed_bytes b) ≡ false → wrong_units (tells_with b) ≡ false → Round b (telegrams.Answer (tells_with b))
  unfolding unwritten
  answer_round e right units =
      let there : 43 ≤ length (listed_bytes b) = listed_there e in
      let party : any over_nine (party_bytes b) ≡ false = sym (and-true (any over_nine (party_bytes b))) ∙ rw e at party_known in
      let control : at b 9 ≡ 0x81 = control_is ∙ ap (λ (t : Bool). cond t 0x01 0x81) e in
      record {
        back = framed_is b f ∙ rw (control, data_is 43 (tells_size e))
            (ap₂ (λ (p l : List ℕ). frame_of (at b 1) p 0x81 (0x1F ∷ 0x90 ∷ at b 13 ∷ l)) (sym (digits_address (party_bytes b) party_seven party))
            (sym (listed_back b there right)));
        writable = rw (type_known, fourteen (party_bytes b) party_seven party, listed_counts b there right, (listed_right (listed_bytes b) right).clock, units);
        sized = record {
          serial = byte_at b bytes 13;
          first = byte_at (drop 14 b) (bytes_drop 14 b bytes) 41;
          second = byte_at (drop 14 b) (bytes_drop 14 b bytes) 42;
        };
      }

pub frame_round : (b : List ℕ) (t : CjtTelegram) → Bytes b → read_cjt_frame b ≡ reads t → Round b t
unfolding read_cjt_frame
frame_round b t bytes r =
    let k = all_passed ((80, wrong_frame b) ∷ (81, wrong_frame_sum b) ∷ (82, wrong_party b) ∷ (83, wrong_mark b) ∷ []) (read_listed b) r in
    let f : Framed b = framed_by b k.0.0 k.0.1.0 in
    let party : wrong_party b ≡ false = k.0.1.1.0 in
    let mark : wrong_mark b ≡ false = k.0.1.1.1.0 in
    by_test (asks_length b) (λ e. subst (Round b) (reads_same (rw e at k.1)) (request_round b bytes f party mark e))
    (λ e.
    let l = all_passed ((84, wrong_listed (listed_bytes b)) ∷ (85, wrong_units (tells_with b)) ∷ []) (reads (telegrams.Answer (tells_with b))) (rw e at k.1) in
    subst (Round b) (reads_same l.1) (answer_round b bytes f party mark e l.0.0 l.0.1.0))
