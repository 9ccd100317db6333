-- Proofs of the statements of specs/CjtPromises.
use Prim.Native.Nat.{ℕ}
use mathlib.Core.Bool.{Bool, true, false, cond}
use mathlib.Core.List.{List, [], ◌∷◌, map}
use mathlib.Core.Path.{refl, ap, ◌∙◌}
use lib.Dec.{ltb, eqb}
use lib.ListN.{length}
use Rattle.base_lent.specs.Lent.{stored}
use Rattle.base_rules.specs.Lists.{any}
use Rattle.base_characters.specs.Characters.{over, odd, byte_of}
use Rattle.base_rules.proofs.Laws.AnswerLaws.{shown_same}
use Rattle.base_rules.specs.Answers.{Answer, reads, refusal, refuse}
use Rattle.cjt_rules.specs.declared.CjtTelegram.{CjtTelegram}
use Rattle.cjt_rules.specs.declared.CjtTelegram.TheVariants as telegrams
use Rattle.cjt_rules.specs.CjtFrames.{past_fe, asks_length, wrong_frame, wrong_frame_sum}
use Rattle.cjt_rules.specs.CjtAddresses.{wrong_party}
use Rattle.cjt_rules.specs.CjtUnits.{wrong_units}
use Rattle.cjt_rules.specs.CjtLines.{wrong_mark, asks_with, listed_bytes, tells_with, wrong_listed, read_cjt_frame, read_cjt_line}
use Rattle.cjt_rules.specs.CjtWriting.{cjt_line_of, unwritten}
use Rattle.demands.specs.Refusals.{By}
use Rattle.demands.proofs.Laws.Settled.{two_equations}
use Rattle.demands.specs.CjtPromises.{cjt_numbers, CjtReadingBy, CjtWritingBy, CjtWritingUnchanged, WritesSettled, CjtReadingApart}

frame_by : (b : List ℕ) → By cjt_numbers (read_cjt_frame b)
unfolding By read_cjt_frame any
frame_by b =
    chain (wrong_frame b) (wrong_frame_sum b) (wrong_party b) (wrong_mark b) (asks_length b) (wrong_listed (listed_bytes b)) (wrong_units (tells_with b))
    (telegrams.Request (asks_with b)) (telegrams.Answer (tells_with b))
  where
    chain : (a b c d e f g : Bool) (t u : CjtTelegram)
        → By cjt_numbers (refuse 80 a (refuse 81 b (refuse 82 c (refuse 83 d (cond e (reads t) (refuse 84 f (refuse 85 g (reads u))))))))
    chain true b c d e f g t u = refl
    chain false true c d e f g t u = refl
    chain false false true d e f g t u = refl
    chain false false false true e f g t u = refl
    chain false false false false true f g t u = tt
    chain false false false false false true g t u = refl
    chain false false false false false false true t u = refl
    chain false false false false false false false t u = tt

pub cjt_reading_by : CjtReadingBy
unfolding By read_cjt_line any
cjt_reading_by s = chain (eqb (length s) 0) (any over s) (any odd s) (read_cjt_frame (past_fe 5 (map byte_of s))) (frame_by (past_fe 5 (map byte_of s)))
  where
    chain : (a b c : Bool) (next : Answer CjtTelegram) → By cjt_numbers next → By cjt_numbers (refuse 1 a (refuse 2 b (refuse 3 c next)))
    chain true b c next k = refl
    chain false true c next k = refl
    chain false false true next k = refl
    chain false false false next k = k

pub cjt_writing_by : CjtWritingBy
unfolding By any
cjt_writing_by t places = chain (unwritten t) (ltb places (length (cjt_line_of t))) (cjt_line_of t)
  where
    chain : (a b : Bool) (s : List ℕ) → By (20 ∷ 21 ∷ []) (refuse 20 a (refuse 21 b (reads s)))
    chain true b s = refl
    chain false true s = refl
    chain false false s = tt

pub cjt_writing_unchanged : CjtWritingUnchanged
cjt_writing_unchanged n t before after r e p = p.places ∙ ap (stored (λ (line : List ℕ). line) before) e

pub writes_settled : WritesSettled
writes_settled a before x y p q = two_equations _ _ x y (p.answer, p.places) (q.answer, q.places)

pub cjt_reading_apart : CjtReadingApart
cjt_reading_apart = shown_same
