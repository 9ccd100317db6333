-- The rows of an accepted bundle, one after the other.
use Prim.Native.Nat.{ℕ, suc, ◌+◌, ◌/◌, ◌≤◌, ◌<◌}
use mathlib.Core.List.{List, [], ◌∷◌}
use mathlib.Core.Path.{◌≡◌, ap, ◌∙◌}
use native.Mathlib.Numerals.{add-one}
use native.Mathlib.Omega.{arith}
use lib.ListN.{length, drop, drop_of_length-le, length-drop}
use lib.Seq.{drop-cons, length-take-le}
use Rattle.base_rules.specs.Answers.{reads}
use Rattle.base_characters.specs.Characters.{chars}
use Rattle.base_characters.proofs.Laws.PairLaws.{length_characters}
use Rattle.bundle_rows.specs.declared.Row.{Row}
use Rattle.bundle_rows.specs.Rows.{body_in}
use Rattle.bundle_check.specs.Bundles.{check_of}
use Rattle.bundle_check.specs.Records.{Recorded, records_of, blank_record}
use Rattle.bundle_check.proofs.Laws.BodyLaws.{unchecked_right}
use Rattle.run_counting.specs.Ears.{row_in}
use Rattle.run_counting.proofs.Laws.Walking.{record_there, length_records}

pub rest_rows : (b : List ℕ) (i n : ℕ) → check_of b ≡ reads n → i < n → drop i (records_of b) ≡ row_in b i ∷ drop (i + 1) (records_of b)
rest_rows b i n e h =
    rw add-one
    (drop-cons (records_of b) i blank_record (omega (arith, length_records b n e))
    ∙ ap (λ (k : Recorded). k ∷ drop (suc i) (records_of b)) (record_there b i n e h))

pub no_rows : (b : List ℕ) (i n : ℕ) → check_of b ≡ reads n → n ≤ i → drop i (records_of b) ≡ []
no_rows b i n e h = drop_of_length-le (records_of b) {i = i} (omega (arith, length_records b n e))

pub near_position : (b : List ℕ) (i n : ℕ) → check_of b ≡ reads n → i < n → (row_in b i).position < 49
near_position b i n e h = omega (arith, (unchecked_right b i n e h).position_most)

-- a body that lies in the bundle has the characters that its row says
pub body_length : (b : List ℕ) (r : Row) → r.offset + r.length ≤ length b → length (body_in b r) ≡ r.length
body_length b r h = length-take-le r.length (drop r.offset b) (omega (arith, length-drop r.offset b))

pub body_characters : (b : List ℕ) (r : Row) → r.offset + r.length ≤ length b → length (chars (body_in b r)) ≡ r.length / 2
body_characters b r h = length_characters (body_in b r) ∙ ap (λ (n : ℕ). n / 2) (body_length b r h)
