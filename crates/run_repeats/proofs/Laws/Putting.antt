-- The loop that puts the number for each row into its place.
use Prim.Native.Nat.{ℕ, suc, ◌+◌, ◌≤◌, ◌<◌, zero-le}
use mathlib.Core.List.{List, [], ◌∷◌, ◌++◌, append-nil, append_assoc}
use mathlib.Core.Path.{◌≡◌, refl, sym, ap, ap₂, ◌∙◌}
use native.Mathlib.Numerals.{add-one}
use native.Mathlib.Omega.{arith}
use lib.ListN.{length, take, drop, set, length-set, drop_of_length-le, take-append-drop}
use lib.Seq.{take-suc, take-suc-set, drop-set-lt, drop-drop}
use Rattle.base_rules.specs.Answers.{reads}
use Rattle.base_lent.specs.Copying.{laid}
use Rattle.bundle_check.specs.Bundles.{check_of}
use Rattle.bundle_check.specs.Records.{Recorded, records_of, blank_record}
use Rattle.run_counting.specs.Ears.{row_in}
use Rattle.run_counting.proofs.Laws.Walking.{record_there, length_records, rows_from}
use Rattle.run_repeats.specs.Repeats.{first_same, earlier_after, earlier_rows}

-- a number for each row
pub length_earlier : (before ks : List Recorded) → length (earlier_after before ks) ≡ length ks
unfolding earlier_after
length_earlier before [] = refl
length_earlier before (k ∷ ks) = ap suc (length_earlier (before ++ (k ∷ [])) ks)

-- so many numbers are put
pub record Putting (b before : List ℕ) (n i : ℕ) (rows : List ℕ) : Type 0 where
  pub accepted : check_of b ≡ reads n
  pub inside : i ≤ n
  pub room : n ≤ length before
  pub size : length rows ≡ length before
  pub so : take i rows ++ earlier_after (take i (records_of b)) (drop i (records_of b)) ≡ earlier_rows (records_of b)
  pub rest : drop i rows ≡ drop i before

module _ {b before : List ℕ} {n : ℕ} where
  pub putting_none : check_of b ≡ reads n → n ≤ length before → Putting b before n 0 before
  putting_none e h = record { accepted = e; inside = zero-le; room = h; size = refl; so = refl; rest = refl }

  module _ {i : ℕ} {rows : List ℕ} (g : Putting b before n i rows) where
    pub putting_next : i < n → {r : ℕ} → r ≡ first_same 0 (take i (records_of b)) (row_in b i) → Putting b before n (i + 1) (set rows i r)
    unfolding earlier_after
    putting_next h {r} e =
        let ks : List Recorded = records_of b in
        let room : n ≤ length rows = omega (arith, g.room, g.size) in
        let size : length ks ≡ n = length_records b n g.accepted in
        let upto : take (suc i) ks ≡ take i ks ++ (row_in b i ∷ []) =
        take-suc ks i blank_record (omega arith) ∙ ap (λ (k : Recorded). take i ks ++ (k ∷ [])) (record_there b i n g.accepted h) in
        let now : take (suc i) (set rows i r) ≡ take i rows ++ (r ∷ []) = take-suc-set rows i r (omega arith) in
        record {
          accepted = g.accepted;
          inside = omega arith;
          room = g.room;
          size = length-set rows i r ∙ g.size;
          so =
              rw add-one
              (ap₂ (λ (x : List ℕ) (l : List Recorded). x ++ earlier_after l (drop (suc i) ks)) now upto
              ∙ append_assoc (take i rows) (r ∷ []) (earlier_after (take i ks ++ (row_in b i ∷ [])) (drop (suc i) ks))
              ∙ ap (λ (m : ℕ). take i rows ++ (m ∷ earlier_after (take i ks ++ (row_in b i ∷ [])) (drop (suc i) ks))) e
              ∙ ap (λ (l : List Recorded). take i rows ++ earlier_after (take i ks) l) (sym (rows_from b i n g.accepted h)) ∙ g.so);
          rest =
              drop-set-lt (i + 1) rows i r (omega arith) ∙ sym (drop-drop 1 i rows) ∙ ap (drop 1) g.rest ∙ drop-drop 1 i before;
        }

    pub putting_all : n ≤ i → rows ≡ laid before 0 (earlier_rows (records_of b))
    unfolding earlier_after
    putting_all h =
        let ks : List Recorded = records_of b in
        let size : length ks ≡ n = length_records b n g.accepted in
        let none : drop i ks ≡ [] = drop_of_length-le ks {i = i} (omega arith) in
        let all : take i rows ≡ earlier_rows ks =
        sym (append-nil (take i rows)) ∙ ap (λ (l : List Recorded). take i rows ++ earlier_after (take i ks) l) (sym none) ∙ g.so in
        let inside : i ≤ n = g.inside in
        let count : i ≡ length (earlier_rows ks) = omega (arith, length_earlier [] ks) in
        sym (take-append-drop i rows) ∙ ap₂ (λ (x y : List ℕ). x ++ y) all (g.rest ∙ ap (λ (m : ℕ). drop m before) count)
