-- Laws of `specs/Inserting`: what the place is, that what is left is accepted, and that insertions of distinct times commute.
use Prim.Native.Nat.{ℕ, zero, suc, ◌-◌, ◌≤◌, ◌<◌, zero-le}
use mathlib.Core.Bool.{true, false}
use mathlib.Core.List.{List, [], ◌∷◌, ◌++◌}
use mathlib.Core.Path.{◌≡◌, refl, sym, ap, ◌∙◌}
use native.Mathlib.Nat.{le_refl}
use native.Mathlib.Omega.{arith}
use borrow.Author.Tests.{ltb-true, ltb-false, lt-ltb, le-ltb}
use lib.Dec.{ltb}
use lib.ListN.{length, get_or, take, drop, get_or-map}
use lib.Seq.{take-length, drop-length}
use Rattle.base_rules.specs.Answers.{reads}
use Rattle.base_rules.proofs.Laws.Tests.{by_test, neither}
use Rattle.bundle_rows.specs.Lists.{All}
use Rattle.bundle_rows.specs.Fields.{wrong_field}
use Rattle.bundle_rows.specs.Rows.{blank_row, unchecked_row}
use Rattle.bundle_rows.specs.declared.Row.{Row}
use Rattle.bundle_check.specs.Bundles.{contents_of, check_of}
use Rattle.bundle_check.specs.Records.{Recorded, blank_record, record_time, records_of}
use Rattle.bundle_check.specs.Walks.{some_wrong, end_of}
use Rattle.bundle_check.proofs.Laws.Accepted.{accepted_sound, row_there}
use Rattle.bundle_check.proofs.Laws.HoldingLaws.{record_for, records_held}
use Rattle.bundle_check.proofs.Laws.RecordLaws.{wrong_record}
use Rattle.bundle_adding.specs.Inserting.{place_behind, place_for, put_at}

-- ---- rows by time

-- each time is not below the one before
abbrev pub InOrder : ℕ → List Recorded → Type 0
InOrder t [] = Unit {0}
InOrder t (k ∷ ks) = (t ≤ k.time) × InOrder k.time ks

pub in_order : (t : ℕ) (ks : List Recorded) → some_wrong wrong_record record_time t ks ≡ false → InOrder t ks
unfolding some_wrong
in_order t [] e = tt
in_order t (k ∷ ks) e =
    let p = neither (wrong_record t k) (some_wrong wrong_record record_time k.time ks) e in
    let q = neither (wrong_field k.position k.direction (length k.body)) (ltb k.time t) p.0 in
    (ltb-false k.time t q.1, in_order k.time ks p.1)

abbrev pub Later : ℕ → Recorded → Type 0
Later t k = t < k.time

abbrev pub NotLater : ℕ → Recorded → Type 0
NotLater t k = k.time ≤ t

pub all_later : (t u : ℕ) (ks : List Recorded) → t < u → InOrder u ks → All (Later t) ks
all_later t u [] h o = tt
all_later t u (k ∷ ks) h o = (omega (arith, o.0), all_later t k.time ks (omega (arith, o.0)) o.1)

later_at : (t : ℕ) (ks : List Recorded) (i : ℕ) → All (Later t) ks → i < length ks → t < (get_or ks i blank_record).time
later_at t [] i a h = absurd (omega arith)
later_at t (k ∷ ks) zero a h = a.0
later_at t (k ∷ ks) (suc i) a h = later_at t ks i a.1 (omega arith)

-- ---- the place: in front of all where all are later, and one on behind one that is not
pub none_behind : (t : ℕ) (ks : List Recorded) (n : ℕ) → All (Later t) ks → n ≤ length ks → place_behind t ks n ≡ 0
unfolding place_behind
none_behind t ks zero a h = refl
none_behind t ks (suc n) a h =
    rw (lt-ltb t (get_or ks n blank_record).time (later_at t ks n a (omega arith))) (none_behind t ks n a (omega arith))

pub one_on : (t : ℕ) (k : Recorded) (ks : List Recorded) (n : ℕ) → k.time ≤ t → place_behind t (k ∷ ks) (suc n) ≡ suc (place_behind t ks n)
unfolding place_behind
one_on t k ks zero h = rw (le-ltb t k.time h)
one_on t k ks (suc n) h =
    by_test (ltb t (get_or ks n blank_record).time) (λ e. rw e (one_on t k ks n h)) (λ e. rw e)

-- what stands in front of it is not later, and what stands behind it is
pub place_parts : (t u : ℕ) (ks : List Recorded) → InOrder u ks
    → All (NotLater t) (take (place_behind t ks (length ks)) ks) × All (Later t) (drop (place_behind t ks (length ks)) ks)
unfolding place_behind
place_parts t u [] o = (tt, tt)
place_parts t u (k ∷ ks) o =
    by_test (ltb t k.time)
    (λ e.
    let all : All (Later t) (k ∷ ks) = (ltb-true t k.time e, all_later t k.time ks (ltb-true t k.time e) o.1) in
    rw (none_behind t (k ∷ ks) (suc (length ks)) all (omega arith)) (tt, all))
    (λ e.
    let p = place_parts t k.time ks o.1 in
    rw (one_on t k ks (length ks) (ltb-false t k.time e)) ((ltb-false t k.time e, p.0), p.1))

pub place_inside : (t : ℕ) (ks : List Recorded) (n : ℕ) → place_behind t ks n ≤ n
unfolding place_behind
place_inside t ks zero = zero-le
place_inside t ks (suc n) =
    by_test (ltb t (get_or ks n blank_record).time) (λ e. rw e (omega (arith, place_inside t ks n))) (λ e. rw e (le_refl (suc n)))

-- ---- the loop that looks for it, from the end down
pub record Looking (b : List ℕ) (n t i : ℕ) : Type 0 where
  pub inside : i ≤ n
  pub so : place_behind t (records_of b) i ≡ place_behind t (records_of b) n

module _ (b : List ℕ) (n t : ℕ) (c : check_of b ≡ reads n) where
  time_there : (i : ℕ) → i < n → (unchecked_row b i).time ≡ (get_or (records_of b) i blank_record).time
  time_there i h =
      ap (λ (r : Row). r.time) (row_there b i n c h)
      ∙ ap (λ (k : Recorded). k.time)
      (sym (get_or-map (record_for b) (contents_of b) i blank_row)
      ∙ ap (λ (l : List Recorded). get_or l i blank_record) (sym (records_held b (accepted_sound b n c).0)))

  pub looking_on : {i : ℕ} {r : Row} → Looking b n t i → 0 < i → r ≡ unchecked_row b (i - 1) → ltb t r.time ≡ true → Looking b n t (i - 1)
  unfolding place_behind
  looking_on {i} {r} g h e above =
      let one : i ≡ suc (i - 1) = omega arith in
      let later : ltb t (get_or (records_of b) (i - 1) blank_record).time ≡ true =
      ap (ltb t) (sym (time_there (i - 1) (omega (arith, g.inside))) ∙ ap (λ (q : Row). q.time) (sym e)) ∙ above in
      record { inside = omega (arith, g.inside); so = sym (ap (place_behind t (records_of b)) one ∙ rw later) ∙ g.so }

  pub looking_found : {i : ℕ} {r : Row} → Looking b n t i → 0 < i → r ≡ unchecked_row b (i - 1) → ltb t r.time ≡ false
      → i ≡ place_behind t (records_of b) n
  unfolding place_behind
  looking_found {i} {r} g h e above =
      let one : i ≡ suc (i - 1) = omega arith in
      let not_later : ltb t (get_or (records_of b) (i - 1) blank_record).time ≡ false =
      ap (ltb t) (sym (time_there (i - 1) (omega (arith, g.inside))) ∙ ap (λ (q : Row). q.time) (sym e)) ∙ above in
      one ∙ sym (ap (place_behind t (records_of b)) one ∙ rw not_later) ∙ g.so

  pub looking_none : {i : ℕ} → Looking b n t i → i ≤ 0 → 0 ≡ place_behind t (records_of b) n
  unfolding place_behind
  looking_none {i} g h = let all : i ≡ 0 = omega arith in sym (ap (place_behind t (records_of b)) all) ∙ g.so

-- ---- the row that must be last
last_record : (s i : ℕ) (ks : List Recorded) → length ks ≡ suc i → end_of record_time s ks ≡ (get_or ks i blank_record).time
unfolding end_of
last_record s i [] e = let never : ⊥ = omega arith in absurd never
last_record s zero (k ∷ []) e = refl
last_record s zero (k ∷ (j ∷ ks)) e = let never : ⊥ = omega arith in absurd never
last_record s (suc i) (k ∷ []) e = let never : ⊥ = omega arith in absurd never
last_record s (suc i) (k ∷ (j ∷ ks)) e = last_record k.time i (j ∷ ks) (omega arith)

pub place_last : (k : Recorded) (ks : List Recorded) → end_of record_time 0 ks ≤ k.time → place_for k ks ≡ length ks
unfolding place_behind end_of
place_last k ks h = last (length ks) refl
  where
    last : (n : ℕ) → n ≡ length ks → place_behind k.time ks n ≡ n
    last zero e = refl
    last (suc n) e =
        let there : end_of record_time 0 ks ≡ (get_or ks n blank_record).time = last_record 0 n ks (sym e) in
        rw (le-ltb k.time (get_or ks n blank_record).time (omega (arith, there)))

pub put_last : (k : Recorded) (ks : List Recorded) → end_of record_time 0 ks ≤ k.time → put_at (place_for k ks) k ks ≡ ks ++ (k ∷ [])
put_last k ks h =
    rw (place_last k ks h, take-length ks, drop-length ks)
