-- The rows of all positions, joined one position after the other.
use Prim.Native.Nat.{ℕ, zero, suc, ◌+◌, ◌≤◌, ◌<◌}
use mathlib.Core.Bool.{Bool, false}
use mathlib.Core.List.{List, [], ◌∷◌}
use mathlib.Core.Path.{◌≡◌, refl, sym, ap, ap₂, ◌∙◌}
use native.Mathlib.Omega.{arith}
use borrow.Author.Tests.{eq-eqb, ne_eqb, eqb-true, eqb-false, lt-ltb, le-ltb, ltb-true, ltb-false}
use lib.Dec.{eqb, ltb}
use lib.ListN.{length, length-append}
use Rattle.base_rules.specs.Answers.{reads}
use Rattle.base_rules.proofs.Laws.ByteLaws.{EachByte}
use Rattle.base_rules.proofs.Laws.Tests.{by_test}
use Rattle.bundle_rows.specs.Lists.{All}
use Rattle.bundle_rows.specs.Rows.{most_rows, first_offset}
use Rattle.bundle_rows.proofs.Laws.RowLaws.{field_right}
use Rattle.bundle_check.specs.Bundles.{most_bytes, check_of}
use Rattle.bundle_check.specs.Records.{Recorded, record_time, records_of, bodies_for, bundle_of}
use Rattle.bundle_check.specs.Walks.{some_wrong}
use Rattle.bundle_check.proofs.Laws.Accepted.{accepted_sound}
use Rattle.bundle_check.proofs.Laws.BodyLaws.{few_rows}
use Rattle.bundle_check.proofs.Laws.HoldingLaws.{bundle_whole}
use Rattle.bundle_check.proofs.Laws.RecordLaws.{wrong_record, Holdable, holdable_none, length_bundle, held_back, holdable_accepted}
use Rattle.bundle_sweep.specs.Sweeping.{without}
use Rattle.bundle_sweep.proofs.Laws.Proper.{right}
use Rattle.bundle_sweep.proofs.Laws.Without.{without_few, without_none, without_all}
use Rattle.bundle_joining.specs.Choosing.{elsewhere, of_position, position_bundle}
use Rattle.bundle_joining.proofs.Laws.Choosing.{bodies_few}
use Rattle.bundle_joining.proofs.Laws.ChoosingProper.{own_holdable, own_accepted, own_holds}
use Rattle.bundle_joining.proofs.Laws.Rows.{held_count, held_size, held_fits}
use Rattle.bundle_joining.specs.Joining.{by_time, join_of}
use Rattle.bundle_joining.specs.Parts.{parts_joined, bundles_joined, TimesApart}
use Rattle.bundle_joining.proofs.Laws.ByTime.{none_first_lem, none_second_lem, second_next, first_next, by_time_length, by_time_bodies, first_left, second_left}
use Rattle.bundle_joining.proofs.Laws.JoinProper.{together, held}
use Rattle.bundle_joining.proofs.Laws.JoinShown.{join-reads}

-- ---- of one position, the rows of another are none, and of its own all

pub own_again : (p : ℕ) (ks : List Recorded) → of_position p (of_position p ks) ≡ of_position p ks
own_again p ks = without_all (elsewhere p) (of_position p ks) (without_none (elsewhere p) ks)

pub own_other : (p q : ℕ) → (q ≡ p → ⊥) → (ks : List Recorded) → of_position q (of_position p ks) ≡ []
unfolding without
own_other p q f [] = refl
own_other p q f (k ∷ ks) =
    by_test (eqb k.position p)
    (λ t. rw t (rw (ne_eqb k.position q (λ e. f (sym e ∙ eqb-true k.position p t))) (own_other p q f ks)))
    (λ t. rw t (own_other p q f ks))

-- none of a position past the last, and 0 is none
pub parts_past : (n q : ℕ) → n < q → (ks : List Recorded) → of_position q (parts_joined n ks) ≡ []
unfolding without parts_joined
parts_past zero q h ks = refl
parts_past (suc n) q h ks =
    first_left (elsewhere q) (parts_joined n ks) (of_position (suc n) ks) (own_other (suc n) q (λ e. omega (arith, e)) ks)
    ∙ parts_past n q (omega arith) ks

pub parts_zero : (n : ℕ) (ks : List Recorded) → of_position 0 (parts_joined n ks) ≡ []
unfolding without parts_joined
parts_zero zero ks = refl
parts_zero (suc n) ks =
    first_left (elsewhere 0) (parts_joined n ks) (of_position (suc n) ks) (own_other (suc n) 0 (λ e. omega (arith, e)) ks) ∙ parts_zero n ks

-- the rows of each position are those that it had, in order
pub parts_own : (n q : ℕ) → 1 ≤ q → q ≤ n → (ks : List Recorded) → of_position q (parts_joined n ks) ≡ of_position q ks
unfolding parts_joined
parts_own zero q l h ks = let never : ⊥ = omega arith in absurd never
parts_own (suc n) q l h ks =
    by_test (eqb q (suc n))
    (λ t. let e : q ≡ suc n = eqb-true q (suc n) t in
    rw e (second_left (elsewhere (suc n)) (parts_joined n ks) (of_position (suc n) ks) (parts_past n (suc n) (omega arith) ks) ∙ own_again (suc n) ks))
    (λ t. let f = eqb-false q (suc n) t in
    first_left (elsewhere q) (parts_joined n ks) (of_position (suc n) ks) (own_other (suc n) q f ks) ∙ parts_own n q l (omega (arith, f)) ks)

-- ---- how many rows and bytes they are

-- a row of a position past one
abbrev beyond : ℕ → Recorded → Bool
beyond n k = ltb n k.position

-- where it stands: before the next position, there, or past it
placed : {X : Type 0} (n p : ℕ) → (p ≤ n → X) → (p ≡ suc n → X) → (suc n < p → X) → X
placed n p a b c =
    by_test (ltb n p) (λ t. by_test (eqb p (suc n)) (λ u. b (eqb-true p (suc n) u)) (λ u. c (omega (arith, ltb-true n p t, eqb-false p (suc n) u))))
    (λ t. a (ltb-false n p t))

module _ (n : ℕ) (k : Recorded) (ks : List Recorded) where
  module _ (h : k.position ≤ n) where
    pub low_next : (without (beyond n) (k ∷ ks) ≡ k ∷ without (beyond n) ks) × (of_position (suc n) (k ∷ ks) ≡ of_position (suc n) ks)
        × (without (beyond (suc n)) (k ∷ ks) ≡ k ∷ without (beyond (suc n)) ks)
    unfolding without
    low_next = (
      rw (le-ltb n k.position h),
      rw (ne_eqb k.position (suc n) (λ e. omega (arith, e))),
      rw (le-ltb (suc n) k.position (omega arith)),
    )

  module _ (h : k.position ≡ suc n) where
    pub at_next : (without (beyond n) (k ∷ ks) ≡ without (beyond n) ks) × (of_position (suc n) (k ∷ ks) ≡ k ∷ of_position (suc n) ks)
        × (without (beyond (suc n)) (k ∷ ks) ≡ k ∷ without (beyond (suc n)) ks)
    unfolding without
    at_next = (
      rw (lt-ltb n k.position (omega arith)),
      rw (eq-eqb k.position (suc n) h),
      rw (le-ltb (suc n) k.position (omega arith)),
    )

  module _ (h : suc n < k.position) where
    pub past_next : (without (beyond n) (k ∷ ks) ≡ without (beyond n) ks) × (of_position (suc n) (k ∷ ks) ≡ of_position (suc n) ks)
        × (without (beyond (suc n)) (k ∷ ks) ≡ without (beyond (suc n)) ks)
    unfolding without
    past_next = (
      rw (lt-ltb n k.position (omega arith)),
      rw (ne_eqb k.position (suc n) (λ e. omega (arith, e))),
      rw (lt-ltb (suc n) k.position h),
    )

-- a sum of something for each row that is left
module _ (f : List Recorded → ℕ) (none : f [] ≡ 0) (one : Recorded → ℕ) (more : (k : Recorded) (ks : List Recorded) → f (k ∷ ks) ≡ one k + f ks) where
  sum_next : (n : ℕ) (ks : List Recorded) → f (without (beyond (suc n)) ks) ≡ f (without (beyond n) ks) + f (of_position (suc n) ks)
  unfolding without
  sum_next n [] = omega (arith, none)
  sum_next n (k ∷ ks) =
      placed n k.position
      (λ h. let p = low_next n k ks h in
      omega (
        arith,
        ap f p.0,
        ap f p.1,
        ap f p.2,
        more k (without (beyond n) ks),
        more k (without (beyond (suc n)) ks),
        sum_next n ks,
      ))
      (λ h. let p = at_next n k ks h in
      omega (
        arith,
        ap f p.0,
        ap f p.1,
        ap f p.2,
        more k (of_position (suc n) ks),
        more k (without (beyond (suc n)) ks),
        sum_next n ks,
      ))
      (λ h. let p = past_next n k ks h in omega (arith, ap f p.0, ap f p.1, ap f p.2, sum_next n ks))

pub count_next : (n : ℕ) (ks : List Recorded) → length (without (beyond (suc n)) ks) ≡ length (without (beyond n) ks) + length (of_position (suc n) ks)
count_next = sum_next (λ (l : List Recorded). length l) refl (λ k. 1) (λ k ks. omega arith)

pub bodies_next : (n : ℕ) (ks : List Recorded)
    → length (bodies_for (without (beyond (suc n)) ks)) ≡ length (bodies_for (without (beyond n) ks)) + length (bodies_for (of_position (suc n) ks))
unfolding bodies_for
bodies_next = sum_next (λ (l : List Recorded). length (bodies_for l)) refl (λ k. length k.body) (λ k ks. length-append k.body (bodies_for ks))

-- ---- rows of which no two of different positions have one time come back as they were

front_first : (k : Recorded) (ks ls : List Recorded) → All (λ (l : Recorded). k.time ≤ l.time) ls → by_time (k ∷ ks) ls ≡ k ∷ by_time ks ls
front_first k ks [] p = none_second_lem (k ∷ ks) ∙ ap (λ (l : List Recorded). k ∷ l) (sym (none_second_lem ks))
front_first k ks (l ∷ ls) p = first_next k ks l ls (le-ltb l.time k.time p.0)

front_second : (k : Recorded) (ks ls : List Recorded) → All (λ (l : Recorded). k.time < l.time) ks → by_time ks (k ∷ ls) ≡ k ∷ by_time ks ls
front_second k [] ls p = none_first_lem (k ∷ ls) ∙ ap (λ (l : List Recorded). k ∷ l) (sym (none_first_lem ls))
front_second k (l ∷ ks) ls p = second_next l ks k ls (lt-ltb k.time l.time p.0)

later : (lower before : ℕ) (ks : List Recorded) → lower ≤ before → some_wrong wrong_record record_time before ks ≡ false
    → All (λ (l : Recorded). lower ≤ l.time) ks
later lower before [] h e = tt
later lower before (k ∷ ks) h e =
    let p = right before k ks e in
    (omega (arith, p.1), later lower k.time ks (omega (arith, p.1)) p.2)

all_without : (Q : Recorded → Type 0) (test : Recorded → Bool) (ks : List Recorded) → All Q ks → All Q (without test ks)
unfolding without
all_without Q test [] p = tt
all_without Q test (k ∷ ks) p = by_test (test k) (λ t. rw t (all_without Q test ks p.1)) (λ t. rw t (p.0, all_without Q test ks p.1))

strictly : (n : ℕ) (k : Recorded) → k.position ≡ suc n → (ks : List Recorded) → All (λ (l : Recorded). k.time ≤ l.time) ks
    → All (λ (l : Recorded). k.time ≡ l.time → k.position ≡ l.position) ks → All (λ (l : Recorded). k.time < l.time) (without (beyond n) ks)
unfolding without
strictly n k e [] p q = tt
strictly n k e (l ∷ ks) p q =
    by_test (ltb n l.position)
    (λ t. rw t (strictly n k e ks p.1 q.1))
    (λ t. rw t (
      by_test (ltb k.time l.time) (λ u. ltb-true k.time l.time u)
          (λ u. let same : k.time ≡ l.time = omega (arith, p.0, ltb-false k.time l.time u) in
          absurd (omega (arith, e, q.0 same, ltb-false n l.position t))),
      strictly n k e ks p.1 q.1,
    ))

parts_again : (n before : ℕ) (ks : List Recorded) → some_wrong wrong_record record_time before ks ≡ false → TimesApart ks
    → by_time (without (beyond n) ks) (of_position (suc n) ks) ≡ without (beyond (suc n)) ks
unfolding without
parts_again n before [] e d = none_first_lem []
parts_again n before (k ∷ ks) e d =
    let w = right before k ks e in
    let behind = later k.time k.time ks (omega arith) w.2 in
    let rest = parts_again n k.time ks w.2 d.1 in
    placed n k.position
    (λ h. let p = low_next n k ks h in
    ap₂ by_time p.0 p.1
    ∙ front_first k (without (beyond n) ks) (of_position (suc n) ks) (all_without (λ (l : Recorded). k.time ≤ l.time) (elsewhere (suc n)) ks behind)
    ∙ ap (λ (l : List Recorded). k ∷ l) rest ∙ sym p.2)
    (λ h. let p = at_next n k ks h in
    ap₂ by_time p.0 p.1 ∙ front_second k (without (beyond n) ks) (of_position (suc n) ks) (strictly n k h ks behind d.0)
    ∙ ap (λ (l : List Recorded). k ∷ l) rest ∙ sym p.2)
    (λ h. let p = past_next n k ks h in ap₂ by_time p.0 p.1 ∙ rest ∙ sym p.2)

-- every position is 1 to 48
low_none : (before : ℕ) (ks : List Recorded) → some_wrong wrong_record record_time before ks ≡ false → without (beyond 0) ks ≡ []
unfolding without
low_none before [] e = refl
low_none before (k ∷ ks) e =
    let w = right before k ks e in
    rw (lt-ltb 0 k.position (field_right k.position k.direction (length k.body) w.0).position_least) (low_none k.time ks w.2)

all_low : (before : ℕ) (ks : List Recorded) → some_wrong wrong_record record_time before ks ≡ false → without (beyond 48) ks ≡ ks
unfolding without
all_low before [] e = refl
all_low before (k ∷ ks) e =
    let w = right before k ks e in
    rw (le-ltb 48 k.position (field_right k.position k.direction (length k.body) w.0).position_most, all_low k.time ks w.2)

module _ (ks : List Recorded) (e : some_wrong wrong_record record_time 0 ks ≡ false) where
  pub parts_count : (n : ℕ) → length (parts_joined n ks) ≡ length (without (beyond n) ks)
  unfolding parts_joined
  parts_count zero = ap length (sym (low_none 0 ks e))
  parts_count (suc n) = omega (arith, by_time_length (parts_joined n ks) (of_position (suc n) ks), parts_count n, count_next n ks)

  pub parts_bodies : (n : ℕ) → length (bodies_for (parts_joined n ks)) ≡ length (bodies_for (without (beyond n) ks))
  unfolding parts_joined
  parts_bodies zero = ap (λ (l : List Recorded). length (bodies_for l)) (sym (low_none 0 ks e))
  parts_bodies (suc n) = omega (arith, by_time_bodies (parts_joined n ks) (of_position (suc n) ks), parts_bodies n, bodies_next n ks)

  -- as many rows as there were
  pub parts_all_count : length (parts_joined 48 ks) ≡ length ks
  parts_all_count = parts_count 48 ∙ ap length (all_low 0 ks e)

  module _ (d : TimesApart ks) where
    parts_are : (n : ℕ) → parts_joined n ks ≡ without (beyond n) ks
    unfolding parts_joined
    parts_are zero = sym (low_none 0 ks e)
    parts_are (suc n) = ap (λ (l : List Recorded). by_time l (of_position (suc n) ks)) (parts_are n) ∙ parts_again n 0 ks e d

    pub parts_whole : parts_joined 48 ks ≡ ks
    parts_whole = parts_are 48 ∙ all_low 0 ks e

-- ---- the bundles
module _ (b : List ℕ) (n : ℕ) (e : check_of b ≡ reads n) (bytes : EachByte b) where
  whole : Holdable (records_of b)
  whole = held b n e bytes

  part_sizes : (q : ℕ) → (length (parts_joined q (records_of b)) ≤ n) × (length (bodies_for (parts_joined q (records_of b))) ≤ length (bodies_for (records_of b)))
  part_sizes q = (
    omega (arith, parts_count (records_of b) whole.fields q, without_few (beyond q) (records_of b), held_count b n e),
    omega (arith, parts_bodies (records_of b) whole.fields q, bodies_few (beyond q) (records_of b)),
  )

  -- what one position more makes
  more_sizes : (q : ℕ)
      → (length (parts_joined q (records_of b)) + length (of_position (suc q) (records_of b)) ≡ length (parts_joined (suc q) (records_of b)))
      × (length (bodies_for (parts_joined q (records_of b))) + length (bodies_for (of_position (suc q) (records_of b)))
      ≡ length (bodies_for (parts_joined (suc q) (records_of b))))
  unfolding parts_joined
  more_sizes q = (
    sym (by_time_length (parts_joined q (records_of b)) (of_position (suc q) (records_of b))),
    sym (by_time_bodies (parts_joined q (records_of b)) (of_position (suc q) (records_of b))),
  )

  pub parts_holdable : (q : ℕ) → Holdable (parts_joined q (records_of b))
  unfolding parts_joined
  parts_holdable zero = holdable_none
  parts_holdable (suc q) =
      let few = few_rows b n e in
      let size = held_size b n e in
      let fits = held_fits b n e in
      together (parts_joined q (records_of b)) (of_position (suc q) (records_of b)) (parts_holdable q) (own_holdable (suc q) b n e bytes)
      (omega (arith, (more_sizes q).0, (part_sizes (suc q)).0, few))
      (omega (arith, (more_sizes q).0, (more_sizes q).1, (part_sizes (suc q)).0, (part_sizes (suc q)).1, size, fits))

  pub bundles_are : (q : ℕ) → bundles_joined q b ≡ bundle_of (parts_joined q (records_of b))
  unfolding parts_joined bundles_joined
  bundles_are zero = refl
  bundles_are (suc q) =
      ap bundle_of
      (ap₂ by_time (ap records_of (bundles_are q) ∙ held_back (parts_joined q (records_of b)) (parts_holdable q)) (own_holds (suc q) b n e bytes))

  pub bundles_hold : (q : ℕ) → records_of (bundles_joined q b) ≡ parts_joined q (records_of b)
  bundles_hold q = ap records_of (bundles_are q) ∙ held_back (parts_joined q (records_of b)) (parts_holdable q)

  pub bundles_accepted : (q : ℕ) → check_of (bundles_joined q b) ≡ reads (length (parts_joined q (records_of b)))
  bundles_accepted q = ap check_of (bundles_are q) ∙ holdable_accepted (parts_joined q (records_of b)) (parts_holdable q)

  pub bundles_whole : TimesApart (records_of b) → bundles_joined 48 b ≡ b
  bundles_whole d =
      bundles_are 48 ∙ ap bundle_of (parts_whole (records_of b) whole.fields d) ∙ bundle_whole b (accepted_sound b n e).0 bytes

  -- each is joined wherever the whole would fit
  pub bundles_joined_lem : (q : ℕ) (out : List ℕ) → length b ≤ length out
      → join_of (bundles_joined q b) (position_bundle (suc q) b) out ≡ reads (length (bundles_joined (suc q) b))
  unfolding bundles_joined
  bundles_joined_lem q out room =
      let rows : ℕ = length (parts_joined q (records_of b)) + length (of_position (suc q) (records_of b)) in
      let all : ℕ = length (bundles_joined (suc q) b) in
      let size : all ≡ first_offset (length (parts_joined (suc q) (records_of b))) + length (bodies_for (parts_joined (suc q) (records_of b))) =
      ap length (bundles_are (suc q)) ∙ length_bundle (parts_joined (suc q) (records_of b)) in
      let inside : all ≤ length b = omega (arith, size, (part_sizes (suc q)).0, (part_sizes (suc q)).1, held_size b n e) in
      join-reads (bundles_joined q b) (position_bundle (suc q) b) out (length (parts_joined q (records_of b))) (bundles_accepted q)
      (length (of_position (suc q) (records_of b))) (own_accepted (suc q) b n e bytes) refl
      (rw (
        le-ltb most_rows rows (omega (arith, (more_sizes q).0, (part_sizes (suc q)).0, few_rows b n e)),
        le-ltb most_bytes all (omega (arith, inside, held_fits b n e)),
        le-ltb (length out) all (omega (arith, inside)),
      ))
