-- What adding answers, by the tests of the old bundle and of the new row.
use Prim.Native.Nat.{ℕ, zero, suc, ◌+◌, ◌-◌, ◌≤◌, ◌<◌}
use mathlib.Core.Bool.{Bool, true, false}
use mathlib.Core.List.{List, [], ◌∷◌}
use mathlib.Core.Path.{◌≡◌, refl, sym, ap, ◌∙◌}
use native.Mathlib.Omega.{arith}
use borrow.Author.Tests.{le-ltb, leb-false, ltb-false}
use lib.Dec.{ltb, leb}
use lib.ListN.{length, get_or, take, drop}
use Rattle.base_rules.specs.Answers.{reads, refusal}
use Rattle.base_characters.specs.Characters.{over, chars}
use Rattle.base_rules.specs.Lists.{any}
use Rattle.base_rules.proofs.Laws.TestLaws.{none}
use Rattle.bundle_rows.proofs.Laws.RowLaws.{length_rows}
use Rattle.bundle_rows.specs.Rows.{most_rows, rows_of, blank_row, unchecked_row}
use Rattle.bundle_rows.specs.declared.Row.{Row}
use Rattle.bundle_check.proofs.Laws.Accepted.{accepted_sound, row_there}
use Rattle.bundle_check.specs.Bundles.{most_bytes, count_of, contents_of, check_of}
use Rattle.bundle_check.specs.Records.{Recorded, row_for}
use Rattle.bundle_check.specs.RowRules.{wrong_row, row_time}
use Rattle.bundle_check.specs.Walks.{end_of}
use Rattle.bundle_adding.specs.Adding.{last_time, grown, no_room, add_of}

-- Law: where there are rows, the last time is that of the last one.
pub last_row : (s i : ℕ) (rows : List Row) (d : Row) → length rows ≡ suc i → end_of row_time s rows ≡ (get_or rows i d).time
unfolding end_of
last_row s i [] d e = let never : ⊥ = omega arith in absurd never
last_row s zero (r ∷ []) d e = refl
last_row s zero (r ∷ (q ∷ rows)) d e = let never : ⊥ = omega arith in absurd never
last_row s (suc i) (r ∷ []) d e = let never : ⊥ = omega arith in absurd never
last_row s (suc i) (r ∷ (q ∷ rows)) d e = last_row r.time i (q ∷ rows) d (omega arith)

module _ (b : List ℕ) (n : ℕ) (e : check_of b ≡ reads n) where
  pub last_none : n ≡ 0 → 0 ≡ last_time (contents_of b)
  unfolding end_of rows_of
  last_none z = rw (sym (accepted_sound b n e).1 ∙ z)

  pub last_there : 0 < n → (unchecked_row b (n - 1)).time ≡ last_time (contents_of b)
  last_there h =
      ap (λ (r : Row). r.time) (row_there b (n - 1) n e (omega arith))
      ∙ sym (last_row 0 (n - 1) (contents_of b) blank_row (omega (arith, length_rows (count_of b) (drop 2 b), (accepted_sound b n e).1)))

-- What is answered: past the buffer, the check's refusal, or what the tests of the new row say.
module _ (buffer : List ℕ) (filled : ℕ) (k : Recorded) where
  pub add_past : ltb (length buffer) filled ≡ true → add_of buffer filled k ≡ refusal 30
  unfolding add_of
  add_past p = rw p

  pub add_refused : (n : ℕ) → filled ≤ length buffer → check_of (take filled buffer) ≡ refusal n → add_of buffer filled k ≡ refusal n
  unfolding add_of
  add_refused n h e = rw (le-ltb (length buffer) filled h, e)

  module _ (n : ℕ) (h : filled ≤ length buffer) (e : check_of (take filled buffer) ≡ reads n) where
    abbrev wrong : Bool
    wrong = wrong_row (last_time (contents_of (take filled buffer))) (row_for (filled + 12) k)

    abbrev wide : Bool
    wide = any over (chars k.body)

    pub add_wrong : wrong ≡ true → add_of buffer filled k ≡ refusal 34
    unfolding add_of
    add_wrong p = rw (le-ltb (length buffer) filled h, e, p)

    pub add_wide : wrong ≡ false → wide ≡ true → add_of buffer filled k ≡ refusal 37
    unfolding add_of
    add_wide p q = rw (le-ltb (length buffer) filled h, e, p, q)

    pub add_full : wrong ≡ false → wide ≡ false → no_room buffer n (grown filled k) ≡ true → add_of buffer filled k ≡ refusal 38
    unfolding add_of
    add_full p q r = rw (le-ltb (length buffer) filled h, e, p, q, r)

    pub add_grown : wrong ≡ false → wide ≡ false → no_room buffer n (grown filled k) ≡ false → add_of buffer filled k ≡ reads (grown filled k)
    unfolding add_of
    add_grown p q r = rw (le-ltb (length buffer) filled h, e, p, q, r)

-- what is left where there is room
pub room_left : (buffer : List ℕ) (n m : ℕ) → no_room buffer n m ≡ false → (n < most_rows) × (m ≤ length buffer) × (m ≤ most_bytes)
room_left buffer n m e =
    let p = none (leb most_rows n) (ltb (length buffer) m ∷ (ltb most_bytes m ∷ [])) e in
    (leb-false most_rows n p.0, ltb-false (length buffer) m p.1.0, ltb-false most_bytes m p.1.1.0)
