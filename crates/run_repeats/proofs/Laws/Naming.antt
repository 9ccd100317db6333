-- What the number for a row tells: the lowest earlier row with its reading, or that there is none.
use Prim.Native.Nat.{ℕ, zero, suc, ◌+◌, ◌<◌}
use mathlib.Core.Bool.{true, false}
use mathlib.Core.List.{List, [], ◌∷◌, ◌++◌, append-nil, append_assoc}
use mathlib.Core.Path.{◌≡◌, sym, ap, ◌∙◌}
use native.Mathlib.Omega.{arith}
use lib.ListN.{length, get_or, take}
use lib.Seq.{get_or-take, length-take-le}
use Rattle.base_rules.proofs.Laws.Tests.{by_test}
use Rattle.bundle_check.specs.Records.{Recorded, blank_record}
use Rattle.run_repeats.specs.Repeats.{same_reading, first_same, earlier_after, earlier_rows}

-- the number for a row, of the rows before it
earlier_from : (before ks : List Recorded) (i : ℕ) → i < length ks
    → get_or (earlier_after before ks) i 0 ≡ first_same 0 (before ++ take i ks) (get_or ks i blank_record)
unfolding earlier_after
earlier_from before [] i h = absurd (omega arith)
earlier_from before (k ∷ ks) zero h = ap (λ (l : List Recorded). first_same 0 l k) (sym (append-nil before))
earlier_from before (k ∷ ks) (suc i) h =
    earlier_from (before ++ (k ∷ [])) ks i (omega arith)
    ∙ ap (λ (l : List Recorded). first_same 0 l (get_or ks i blank_record)) (append_assoc before (k ∷ []) (take i ks))

pub earlier_at : (ks : List Recorded) (i : ℕ) → i < length ks → get_or (earlier_rows ks) i 0 ≡ first_same 0 (take i ks) (get_or ks i blank_record)
earlier_at ks i h = earlier_from [] ks i h

-- what is named is one of the rows, and the first of them that gives the same reading
pub record Named (from : ℕ) (js : List Recorded) (k : Recorded) (m : ℕ) : Type 0 where
  pub place : ℕ
  pub at : m ≡ from + place
  pub inside : place < length js
  pub same : same_reading (get_or js place blank_record) k ≡ true
  pub first : (l : ℕ) → l < place → same_reading (get_or js l blank_record) k ≡ false

-- the next row is it
here : (from : ℕ) (j : Recorded) (js : List Recorded) (k : Recorded) (m : ℕ) → same_reading j k ≡ true → suc from ≡ suc m → Named from (j ∷ js) k m
here from j js k m s e = record { place = 0; at = omega arith; inside = omega arith; same = s; first = λ l h. absurd (omega arith) }

-- one more row that is not
beside : (j : Recorded) (js : List Recorded) (k : Recorded) (n : ℕ) → same_reading j k ≡ false
    → ((l : ℕ) → l < n → same_reading (get_or js l blank_record) k ≡ false) → (l : ℕ) → l < suc n → same_reading (get_or (j ∷ js) l blank_record) k ≡ false
beside j js k n s g zero h = s
beside j js k n s g (suc l) h = g l (omega arith)

further : (from : ℕ) (j : Recorded) (js : List Recorded) (k : Recorded) (m : ℕ) → same_reading j k ≡ false → Named (suc from) js k m → Named from (j ∷ js) k m
further from j js k m s r = record {
  place = suc r.place;
  at = omega (arith, r.at);
  inside = omega (arith, r.inside);
  same = r.same;
  first = beside j js k r.place s r.first;
}

named : (from : ℕ) (js : List Recorded) (k : Recorded) (m : ℕ) → first_same from js k ≡ suc m → Named from js k m
unfolding first_same
named from [] k m e = absurd (omega arith)
named from (j ∷ js) k m e =
    by_test (same_reading j k)
    (λ s. here from j js k m s (rw s at e))
    (λ s. further from j js k m s (named (suc from) js k m (rw s at e)))

none_named : (from : ℕ) (js : List Recorded) (k : Recorded) → first_same from js k ≡ 0 → (l : ℕ) → l < length js
    → same_reading (get_or js l blank_record) k ≡ false
unfolding first_same
none_named from [] k e l h = absurd (omega arith)
none_named from (j ∷ js) k e l h =
    by_test (same_reading j k)
    (λ s. let z : suc from ≡ 0 = rw s at e in absurd (omega arith))
    (λ s. beside j js k (length js) s (none_named (suc from) js k (rw s at e)) l h)

-- ---- of all rows

module _ (ks : List Recorded) (i : ℕ) (inside : i < length ks) where
  abbrev row : ℕ → Recorded
  row l = get_or ks l blank_record

  before_row : (l : ℕ) → l < i → get_or (take i ks) l blank_record ≡ row l
  before_row l h = get_or-take i ks l blank_record h

  few : length (take i ks) ≡ i
  few = length-take-le i ks (omega arith)

  pub earlier_named : (m : ℕ) → get_or (earlier_rows ks) i 0 ≡ suc m
      → (m < i) × (same_reading (row m) (row i) ≡ true) × ((l : ℕ) → l < m → same_reading (row l) (row i) ≡ false)
  earlier_named m e =
      let n = named 0 (take i ks) (row i) m (sym (earlier_at ks i inside) ∙ e) in
      let is : m ≡ n.place = omega (arith, n.at) in
      let low : m < i = omega (arith, n.inside, few) in (
        low,
        rw (← before_row m low, is) n.same,
        λ l h. rw (← before_row l (omega arith)) (n.first l (omega arith)),
      )

  pub none_earlier : get_or (earlier_rows ks) i 0 ≡ 0 → (l : ℕ) → l < i → same_reading (row l) (row i) ≡ false
  none_earlier e l h =
      rw (← before_row l h) (none_named 0 (take i ks) (row i) (sym (earlier_at ks i inside) ∙ e) l (omega (arith, few)))
