-- Laws of the rows of two lists by time.
use Prim.Native.Nat.{ℕ, ◌+◌, ◌≤◌, ◌<◌}
use mathlib.Core.Bool.{Bool, true, false, ◌||◌}
use mathlib.Core.List.{List, [], ◌∷◌, ◌++◌}
use mathlib.Core.Path.{◌≡◌, refl, sym, ap, ◌∙◌}
use native.Mathlib.Nat.{zero-add, add-zero}
use native.Mathlib.Omega.{arith}
use borrow.Author.Tests.{ltb-true, ltb-false, le-ltb}
use lib.Dec.{ltb}
use lib.ListN.{length, length-append}
use Rattle.base_characters.specs.Characters.{over, chars}
use Rattle.base_rules.specs.Lists.{any}
use Rattle.base_rules.proofs.Laws.ListLaws.{any_append}
use Rattle.base_rules.proofs.Laws.Tests.{by_test, neither}
use Rattle.bundle_rows.specs.Fields.{wrong_field}
use Rattle.bundle_rows.specs.Lists.{All}
use Rattle.bundle_rows.proofs.Laws.RowLaws.{field_right}
use Rattle.bundle_check.specs.Records.{Recorded, record_time, bodies_for}
use Rattle.bundle_check.specs.Walks.{some_wrong}
use Rattle.bundle_check.proofs.Laws.RecordLaws.{wrong_record, characters_append}
use Rattle.bundle_sweep.specs.Sweeping.{without}
use Rattle.bundle_sweep.proofs.Laws.Proper.{right}
use Rattle.bundle_joining.specs.Joining.{in_turn, by_time}

-- ---- the next row

pub none_first_lem : (ls : List Recorded) → by_time [] ls ≡ ls
unfolding by_time
none_first_lem ls = refl

pub none_second_lem : (ks : List Recorded) → by_time ks [] ≡ ks
unfolding by_time in_turn
none_second_lem [] = refl
none_second_lem (k ∷ ks) = ap (λ (l : List Recorded). k ∷ l) (none_second_lem ks)

module _ (k : Recorded) (ks : List Recorded) (l : Recorded) (ls : List Recorded) where
  pub second_next : ltb l.time k.time ≡ true → by_time (k ∷ ks) (l ∷ ls) ≡ l ∷ by_time (k ∷ ks) ls
  unfolding by_time in_turn
  second_next t = rw t

  pub first_next : ltb l.time k.time ≡ false → by_time (k ∷ ks) (l ∷ ls) ≡ k ∷ by_time ks (l ∷ ls)
  unfolding by_time in_turn
  first_next t = rw t

-- ---- what holds of all that is made so

module _ (P : List Recorded → List Recorded → List Recorded → Type 0)
    (first_none : (ls : List Recorded) → P [] ls ls)
    (second_none : (k : Recorded) (ks : List Recorded) → P (k ∷ ks) [] (k ∷ ks))
    (second-on : (k : Recorded) (ks : List Recorded) (l : Recorded) (ls r : List Recorded) → l.time < k.time → P (k ∷ ks) ls r
    → P (k ∷ ks) (l ∷ ls) (l ∷ r))
    (first_on : (k : Recorded) (ks : List Recorded) (l : Recorded) (ls r : List Recorded) → k.time ≤ l.time → P ks (l ∷ ls) r
    → P (k ∷ ks) (l ∷ ls) (k ∷ r)) where
  step : (k : Recorded) (ks : List Recorded) → ((ls : List Recorded) → P ks ls (by_time ks ls)) → (ls : List Recorded) → P (k ∷ ks) ls (by_time (k ∷ ks) ls)
  step k ks rest [] = rw (none_second_lem (k ∷ ks)) (second_none k ks)
  step k ks rest (l ∷ ls) =
      by_test (ltb l.time k.time)
      (λ t. rw (second_next k ks l ls t) (second-on k ks l ls (by_time (k ∷ ks) ls) (ltb-true l.time k.time t) (step k ks rest ls)))
      (λ t. rw (first_next k ks l ls t) (first_on k ks l ls (by_time ks (l ∷ ls)) (ltb-false l.time k.time t) (rest (l ∷ ls))))

  pub along : (ks ls : List Recorded) → P ks ls (by_time ks ls)
  along [] ls = rw (none_first_lem ls) (first_none ls)
  along (k ∷ ks) ls = step k ks (λ m. along ks m) ls

-- ---- how many, and how many bytes

pub by_time_length : (ks ls : List Recorded) → length (by_time ks ls) ≡ length ks + length ls
by_time_length =
    along (λ (ks ls r : List Recorded). length r ≡ length ks + length ls) (λ ls. sym (zero-add (length ls))) (λ k ks. sym (add-zero (length (k ∷ ks))))
    (λ k ks l ls r h e. omega (arith, e)) (λ k ks l ls r h e. omega (arith, e))

pub by_time_bodies : (ks ls : List Recorded) → length (bodies_for (by_time ks ls)) ≡ length (bodies_for ks) + length (bodies_for ls)
unfolding bodies_for
by_time_bodies =
    along (λ (ks ls r : List Recorded). length (bodies_for r) ≡ length (bodies_for ks) + length (bodies_for ls)) (λ ls. sym (zero-add (length (bodies_for ls))))
    (λ k ks. sym (add-zero (length (bodies_for (k ∷ ks)))))
    (λ k ks l ls r h e. omega (arith, e, length-append l.body (bodies_for r), length-append l.body (bodies_for ls)))
    (λ k ks l ls r h e. omega (arith, e, length-append k.body (bodies_for r), length-append k.body (bodies_for ks)))

-- ---- what a bundle asks of them

-- a row that is right, in front of rows that are right behind it
onward : (before : ℕ) (k : Recorded) (ks : List Recorded) → wrong_field k.position k.direction (length k.body) ≡ false → before ≤ k.time
    → some_wrong wrong_record record_time k.time ks ≡ false → some_wrong wrong_record record_time before (k ∷ ks) ≡ false
unfolding some_wrong
onward before k ks f h e = rw (f, le-ltb k.time before h) e

pub by_time_fields : (ks ls : List Recorded) (before : ℕ) → some_wrong wrong_record record_time before ks ≡ false
    → some_wrong wrong_record record_time before ls ≡ false → some_wrong wrong_record record_time before (by_time ks ls) ≡ false
by_time_fields =
    along
    (λ (ks ls r : List Recorded). (before : ℕ) → some_wrong wrong_record record_time before ks ≡ false
    → some_wrong wrong_record record_time before ls ≡ false → some_wrong wrong_record record_time before r ≡ false)
    (λ ls before p q. q)
    (λ k ks before p q. p)
    (λ k ks l ls r h g before p q.
    let a = right before k ks p in
    let b = right before l ls q in
    onward before l r b.0 b.1 (g l.time (onward l.time k ks a.0 (omega arith) a.2) b.2))
    (λ k ks l ls r h g before p q.
    let a = right before k ks p in
    let b = right before l ls q in
    onward before k r a.0 a.1 (g k.time a.2 (onward k.time l ls b.0 h b.2)))

pub by_time_all : (Q : Recorded → Type 0) (ks ls : List Recorded) → All Q ks → All Q ls → All Q (by_time ks ls)
by_time_all Q =
    along (λ (ks ls r : List Recorded). All Q ks → All Q ls → All Q r) (λ ls p q. q) (λ k ks p q. p) (λ k ks l ls r h g p q. (q.0, g p q.1))
    (λ k ks l ls r h g p q. (p.0, g p.1 q))

-- one body in front of others
wide : (k : Recorded) (l : List ℕ) → wrong_field k.position k.direction (length k.body) ≡ false
    → any over (chars (k.body ++ l)) ≡ (any over (chars k.body) || any over (chars l))
wide k l f =
    ap (any over) (characters_append k.body l (field_right k.position k.direction (length k.body) f).size_even)
    ∙ any_append over (chars k.body) (chars l)

pub by_time_range : (ks ls : List Recorded) (s t : ℕ) → some_wrong wrong_record record_time s ks ≡ false → some_wrong wrong_record record_time t ls ≡ false
    → any over (chars (bodies_for ks)) ≡ false → any over (chars (bodies_for ls)) ≡ false → any over (chars (bodies_for (by_time ks ls))) ≡ false
unfolding bodies_for
by_time_range =
    along
    (λ (ks ls r : List Recorded). (s t : ℕ) → some_wrong wrong_record record_time s ks ≡ false → some_wrong wrong_record record_time t ls ≡ false
    → any over (chars (bodies_for ks)) ≡ false → any over (chars (bodies_for ls)) ≡ false → any over (chars (bodies_for r)) ≡ false)
    (λ ls s t p q x y. y)
    (λ k ks s t p q x y. x)
    (λ k ks l ls r h g s t p q x y.
    let b = right t l ls q in
    let z = neither (any over (chars l.body)) (any over (chars (bodies_for ls))) (sym (wide l (bodies_for ls) b.0) ∙ y) in
    wide l (bodies_for r) b.0 ∙ rw z.0 (g s l.time p b.2 x z.1))
    (λ k ks l ls r h g s t p q x y.
    let a = right s k ks p in
    let z = neither (any over (chars k.body)) (any over (chars (bodies_for ks))) (sym (wide k (bodies_for ks) a.0) ∙ x) in
    wide k (bodies_for r) a.0 ∙ rw z.0 (g k.time t a.2 q z.1 y))

-- ---- those that are left without some

module _ (test : Recorded → Bool) where
  gone : (k : Recorded) (ks : List Recorded) → without test (k ∷ ks) ≡ [] → (test k ≡ true) × (without test ks ≡ [])
  unfolding without
  gone k ks e = by_test (test k) (λ t. (t, rw t at e)) (λ t. let no : k ∷ without test ks ≡ [] = rw t at e in absurd (omega (arith, ap length no)))

  stays : (k : Recorded) (r ks : List Recorded) → without test r ≡ without test ks → without test (k ∷ r) ≡ without test (k ∷ ks)
  unfolding without
  stays k r ks e = rw e

  goes : (k : Recorded) (r : List Recorded) → test k ≡ true → without test (k ∷ r) ≡ without test r
  unfolding without
  goes k r t = rw t

  -- of one list, where the other has none
  pub first_left : (ks ls : List Recorded) → without test ls ≡ [] → without test (by_time ks ls) ≡ without test ks
  unfolding without
  first_left =
      along (λ (ks ls r : List Recorded). without test ls ≡ [] → without test r ≡ without test ks) (λ ls e. e) (λ k ks e. refl)
      (λ k ks l ls r h g e. goes l r (gone l ls e).0 ∙ g (gone l ls e).1) (λ k ks l ls r h g e. stays k r ks (g e))

  pub second_left : (ks ls : List Recorded) → without test ks ≡ [] → without test (by_time ks ls) ≡ without test ls
  unfolding without
  second_left =
      along (λ (ks ls r : List Recorded). without test ks ≡ [] → without test r ≡ without test ls) (λ ls e. refl) (λ k ks e. e)
      (λ k ks l ls r h g e. stays l r ls (g e)) (λ k ks l ls r h g e. goes k r (gone k ks e).0 ∙ g (gone k ks e).1)
