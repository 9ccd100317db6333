-- The loop that looks for the lowest earlier row that gives the same reading as row i.
use Prim.Native.Nat.{ℕ, suc, ◌+◌, ◌≤◌, ◌<◌, zero-le}
use mathlib.Core.Bool.{Bool, true, false, cond, and-false}
use mathlib.Core.List.{List, [], ◌∷◌}
use mathlib.Core.Path.{◌≡◌, refl, sym, ap, ◌∙◌}
use native.Mathlib.Numerals.{add-one}
use native.Mathlib.Omega.{arith}
use lib.ListN.{length, get_or, take, drop, drop_of_length-le}
use lib.Seq.{drop-cons, get_or-take, length-take-le}
use Rattle.base_rules.specs.Lists.{total}
use Rattle.base_rules.proofs.Laws.Tests.{by_test}
use Rattle.base_rules.proofs.Laws.TestLaws.{every}
use Rattle.base_lent.specs.Same.{same}
use Rattle.base_lent.proofs.Laws.Same.{same_equal}
use Rattle.bundle_check.specs.Records.{Recorded, records_of, blank_record}
use Rattle.run_counting.specs.Ears.{row_in}
use Rattle.run_counting.proofs.Laws.Walking.{record_there, length_records}
use Rattle.run_repeats.specs.Repeats.{gives_reading, number_part, entries_part, same_parts, same_reading, first_same}
use Rattle.run_repeats.specs.Marks.{row_mark, Marked, DataAt}
use Rattle.run_repeats.proofs.Laws.DataLines.{gives_at}

-- a row that gives no reading has no earlier one
pub none_gives : (i : ℕ) (js : List Recorded) (k : Recorded) → gives_reading k ≡ false → first_same i js k ≡ 0
unfolding first_same same_reading
none_gives i [] k e = refl
none_gives i (j ∷ js) k e = rw (e, and-false (gives_reading j)) (none_gives (suc i) js k e)

-- none of the first j rows gives the same reading
pub record Looking (b : List ℕ) (i j : ℕ) : Type 0 where
  pub inside : j ≤ i
  pub so : first_same j (drop j (take i (records_of b))) (row_in b i) ≡ first_same 0 (take i (records_of b)) (row_in b i)

pub looking_none : {b : List ℕ} {i : ℕ} → Looking b i 0
looking_none = record { inside = zero-le; so = refl }

-- ---- what marks tell

-- a row whose mark is not 0 gives a reading
mark_gives : (k : Recorded) → (row_mark k ≡ 0 → ⊥) → gives_reading k ≡ true
unfolding row_mark
mark_gives k f = by_test (gives_reading k) (λ e. e) (λ e. absurd (f (rw e)))

mark_none : (k : Recorded) → row_mark k ≡ 0 → gives_reading k ≡ false
unfolding row_mark
mark_none k f = by_test (gives_reading k) (λ e. let z : 1 + total (entries_part k.body) ≡ 0 = rw e at f in absurd (omega arith)) (λ e. e)

-- rows that give the same reading have the same mark
same_marks : (j k : Recorded) → same_reading j k ≡ true → row_mark j ≡ row_mark k
unfolding row_mark same_reading same_parts
same_marks j k e =
    let p = every (gives_reading j) (gives_reading k ∷ same_parts j.body k.body ∷ []) e in
    let q = every (same (number_part j.body) (number_part k.body)) (same (entries_part j.body) (entries_part k.body) ∷ []) p.1.1.0 in
    rw (p.0, p.1.0, same_equal (entries_part j.body) (entries_part k.body) q.1.0)

module _ {b : List ℕ} {n i : ℕ} {marks : List ℕ} (m : Marked b n marks) (inside : i < n) where
  marked_gives : (j : ℕ) → j < n → (get_or marks j 0 ≡ 0 → ⊥) → gives_reading (row_in b j) ≡ true
  marked_gives j h f = mark_gives (row_in b j) (λ e. f (m.so j h ∙ e))

  -- a marked row lies in the bundle and is long enough
  pub marked_data : (j : ℕ) → j < n → (get_or marks j 0 ≡ 0 → ⊥) → DataAt b j
  marked_data j h f = gives_at b j n m.accepted h (marked_gives j h f)

  pub looking_unmarked : get_or marks i 0 ≡ 0 → 0 ≡ first_same 0 (take i (records_of b)) (row_in b i)
  looking_unmarked e = sym (none_gives 0 (take i (records_of b)) (row_in b i) (mark_none (row_in b i) (sym (m.so i inside) ∙ e)))

  -- one row held against row i, by its mark
  pub same_unlike : {j : ℕ} → j < n → (get_or marks j 0 ≡ get_or marks i 0 → ⊥) → false ≡ same_reading (row_in b j) (row_in b i)
  same_unlike {j} h f =
      sym (by_test (same_reading (row_in b j) (row_in b i))
      (λ e. absurd (f (m.so j h ∙ same_marks (row_in b j) (row_in b i) e ∙ sym (m.so i inside)))) (λ e. e))

  pub same_marked : {j : ℕ} → j < n → (get_or marks j 0 ≡ 0 → ⊥) → (get_or marks i 0 ≡ 0 → ⊥) → {alike : Bool}
      → alike ≡ same_parts (row_in b j).body (row_in b i).body → alike ≡ same_reading (row_in b j) (row_in b i)
  unfolding same_reading
  same_marked {j} h e f a = rw (marked_gives j h e, marked_gives i inside f) a

  module _ {j : ℕ} (g : Looking b i j) (h : j < i) where
    next_row : drop j (take i (records_of b)) ≡ row_in b j ∷ drop (suc j) (take i (records_of b))
    next_row =
        let all : length (records_of b) ≡ n = length_records b n m.accepted in
        drop-cons (take i (records_of b)) j blank_record (omega (arith, length-take-le i (records_of b) (omega arith)))
        ∙ ap (λ (k : Recorded). k ∷ drop (suc j) (take i (records_of b)))
        (get_or-take i (records_of b) j blank_record h ∙ record_there b j n m.accepted (omega arith))

    -- what is left to look at decides, by the next row
    on : (t : Bool) → same_reading (row_in b j) (row_in b i) ≡ t
        → cond t (suc j) (first_same (suc j) (drop (suc j) (take i (records_of b))) (row_in b i)) ≡ first_same 0 (take i (records_of b)) (row_in b i)
    unfolding first_same
    on t e =
        ap (λ (u : Bool). cond u (suc j) (first_same (suc j) (drop (suc j) (take i (records_of b))) (row_in b i))) (sym e)
        ∙ ap (λ (l : List Recorded). first_same j l (row_in b i)) (sym next_row) ∙ g.so

    module _ {alike : Bool} (a : alike ≡ same_reading (row_in b j) (row_in b i)) where
      pub looking-hit : alike ≡ true → j + 1 ≡ first_same 0 (take i (records_of b)) (row_in b i)
      looking-hit e = add-one j ∙ on true (sym a ∙ e)

      pub looking-miss : alike ≡ false → Looking b i (j + 1)
      looking-miss e = record { inside = omega arith; so = rw add-one (on false (sym a ∙ e)) }

  pub looking_all : {j : ℕ} → Looking b i j → i ≤ j → 0 ≡ first_same 0 (take i (records_of b)) (row_in b i)
  unfolding first_same
  looking_all {j} g h =
      let all : length (records_of b) ≡ n = length_records b n m.accepted in
      let none : drop j (take i (records_of b)) ≡ [] =
      drop_of_length-le (take i (records_of b)) {i = j} (omega (arith, length-take-le i (records_of b) (omega arith))) in
      ap (λ (l : List Recorded). first_same j l (row_in b i)) (sym none) ∙ g.so
