-- The numbers of the rows that count, and the rows: how many there are, which, and how large the numbers.
use Prim.Native.Nat.{ℕ, zero, suc, ◌+◌, ◌≤◌, ◌<◌, zero-le}
use mathlib.Core.Bool.{Bool, true, false, cond}
use mathlib.Core.List.{List, [], ◌∷◌, ◌++◌, map, append_assoc}
use mathlib.Core.Path.{◌≡◌, refl, ◌∙◌}
use native.Mathlib.Nat.{not-suc-le-zero}
use native.Mathlib.Omega.{arith}
use lib.ListN.{length, get_or, length-append}
use lib.Seq.{get_or-append_seam}
use Rattle.bundle_check.specs.Records.{Recorded, blank_record}
use Rattle.run_counting.specs.Counting.{looked, counts, onward, kept_if, looked_at, counted_after, answers_of, numbers_from, numbers_of}

-- ---- no more than there are rows, and each the number of a row

-- what one row adds
module _ {A : Type 0} (i : A) (now after : List A) where
  abbrev one_plus : Bool → Bool → List A
  one_plus look count = cond look (kept_if count i now) after

  one_longer : (look count : Bool) (n : ℕ) → length now ≤ n → length after ≤ n → length (one_plus look count) ≤ suc n
  one_longer true true n h l = omega arith
  one_longer true false n h l = omega arith
  one_longer false count n h l = omega arith

pub few_numbers : (position i : ℕ) (stretch ks : List Recorded) → length (numbers_from position i stretch ks) ≤ length ks
unfolding numbers_from
few_numbers position i stretch [] = zero-le
few_numbers position i stretch (k ∷ ks) =
    one_longer i (numbers_from position (suc i) (onward stretch k) ks) (numbers_from position (suc i) stretch ks) (looked position k) (counts stretch k)
    (length ks) (few_numbers position (suc i) (onward stretch k) ks) (few_numbers position (suc i) stretch ks)

-- every number of a list is below a bound
abbrev pub Below : ℕ → List ℕ → Type 0
Below n l = (j : ℕ) → j < length l → get_or l j 0 < n

one_below : (i n : ℕ) (now after : List ℕ) (look count : Bool) → i < n → Below n now → Below n after → Below n (one_plus i now after look count)
one_below i n now after true true h a b zero l = h
one_below i n now after true true h a b (suc j) l = a j (omega arith)
one_below i n now after true false h a b j l = a j l
one_below i n now after false count h a b j l = b j l

pub numbers_below : (position i n : ℕ) (stretch ks : List Recorded) → i + length ks ≤ n → Below n (numbers_from position i stretch ks)
unfolding numbers_from
numbers_below position i n stretch [] h = λ j l. absurd (not-suc-le-zero l)
numbers_below position i n stretch (k ∷ ks) h =
    one_below i n (numbers_from position (suc i) (onward stretch k) ks) (numbers_from position (suc i) stretch ks) (looked position k) (counts stretch k)
    (omega arith) (numbers_below position (suc i) n (onward stretch k) ks (omega arith)) (numbers_below position (suc i) n stretch ks (omega arith))

-- ---- the rows of the numbers are the answers

abbrev rows_at : List Recorded → List ℕ → List Recorded
rows_at ks numbers = map (λ (j : ℕ). get_or ks j blank_record) numbers

-- what one row adds to the numbers is what it adds to the answers
one_row : (ks : List Recorded) (i : ℕ) (k : Recorded) (now after : List ℕ) (a b : List Recorded) (look count : Bool)
    → get_or ks i blank_record ≡ k → rows_at ks now ≡ a → rows_at ks after ≡ b
    → rows_at ks (one_plus i now after look count) ≡ one_plus k a b look count
one_row ks i k now after a b true true e f g = rw (e, f)
one_row ks i k now after a b true false e f g = f
one_row ks i k now after a b false count e f g = g

-- the same answers, whether the row is looked at first or as it comes
looked_first : (position : ℕ) (stretch : List Recorded) (k : Recorded) (ks : List Recorded) (look : Bool)
    → one_plus k (counted_after (onward stretch k) ks) (counted_after stretch ks) look (counts stretch k) ≡ counted_after stretch (kept_if look k ks)
unfolding counted_after
looked_first position stretch k ks true = refl
looked_first position stretch k ks false = refl

rows_from : (position : ℕ) (front stretch ks : List Recorded)
    → rows_at (front ++ ks) (numbers_from position (length front) stretch ks) ≡ counted_after stretch (looked_at position ks)
unfolding numbers_from counted_after looked_at
rows_from position front stretch [] = refl
rows_from position front stretch (k ∷ ks) =
    one_row (front ++ (k ∷ ks)) (length front) k (numbers_from position (suc (length front)) (onward stretch k) ks)
    (numbers_from position (suc (length front)) stretch ks) (counted_after (onward stretch k) (looked_at position ks))
    (counted_after stretch (looked_at position ks)) (looked position k) (counts stretch k) (get_or-append_seam front k ks blank_record)
    (later (onward stretch k) (rows_from position (front ++ (k ∷ [])) (onward stretch k) ks))
    (later stretch (rows_from position (front ++ (k ∷ [])) stretch ks))
    ∙ looked_first position stretch k (looked_at position ks) (looked position k)
  where
    later : (stretch : List Recorded)
        → rows_at ((front ++ (k ∷ [])) ++ ks) (numbers_from position (length (front ++ (k ∷ []))) stretch ks) ≡ counted_after stretch (looked_at position ks)
        → rows_at (front ++ (k ∷ ks)) (numbers_from position (suc (length front)) stretch ks) ≡ counted_after stretch (looked_at position ks)
    later stretch e =
        let size : length (front ++ (k ∷ [])) ≡ suc (length front) = omega (arith, length-append front (k ∷ [])) in
        rw (size, append_assoc front (k ∷ []) ks) at e

pub rows_are : (position : ℕ) (ks : List Recorded) → map (λ (j : ℕ). get_or ks j blank_record) (numbers_of position ks) ≡ answers_of position ks
rows_are position ks = rows_from position [] [] ks
