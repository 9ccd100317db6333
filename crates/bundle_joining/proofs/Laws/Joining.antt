-- The loop that writes the rows of two bundles, the earlier first.
use Prim.Native.Nat.{ℕ, suc, ◌+◌, ◌-◌, ◌≤◌, ◌<◌, zero-le}
use mathlib.Core.Bool.{Bool, true, false, ◌&&◌, true≢false}
use mathlib.Core.List.{List, [], ◌∷◌}
use mathlib.Core.Path.{◌≡◌, refl, sym, ap, ap₂, ◌∙◌}
use native.Mathlib.Numerals.{add-one}
use native.Mathlib.Omega.{arith}
use borrow.Author.Tests.{ltb-true, ltb-false, leb-true, leb-false, lt-ltb}
use lib.Dec.{ltb, leb}
use lib.ListN.{length, drop, drop_of_length-le}
use Rattle.base_rules.specs.Answers.{reads}
use Rattle.base_rules.proofs.Laws.Tests.{by_test, neither}
use Rattle.base_rules.proofs.Laws.TestLaws.{none}
use Rattle.base_lent.specs.Copying.{laid, copied}
use Rattle.base_lent.proofs.Laws.Copying.{laid_length, copied_fits}
use Rattle.base_numbers.specs.Numbers.{bytes_of}
use Rattle.base_numbers.proofs.Laws.Numbers.{length_bytes}
use Rattle.bundle_rows.specs.Rows.{most_rows, first_offset, unchecked_row}
use Rattle.bundle_rows.specs.declared.Row.{Row}
use Rattle.bundle_check.specs.Bundles.{most_bytes, check_of}
use Rattle.bundle_check.specs.Records.{Recorded, records_of, bodies_for}
use Rattle.bundle_check.proofs.Laws.BodyLaws.{unchecked_inside}
use Rattle.bundle_check.proofs.Laws.HoldingLaws.{record_for}
use Rattle.bundle_check.proofs.Laws.RecordLaws.{length_bundle}
use Rattle.bundle_joining.specs.Writing.{row_put}
use Rattle.bundle_joining.proofs.Laws.Rows.{held_count, held_size, body_size, held_next}
use Rattle.bundle_joining.proofs.Laws.Writing.{Writing, writing_none, writing_length, writing_near, writing_all, writing_few, writing_next}
use Rattle.bundle_joining.specs.Joining.{by_time, joined_bundle, too_much}
use Rattle.bundle_joining.specs.Turns.{BothFit, from_b}
use Rattle.bundle_joining.proofs.Laws.ByTime.{none_first_lem, none_second_lem, second_next, first_next, by_time_length, by_time_bodies}

abbrev both : List ℕ → List ℕ → List Recorded
both a b = by_time (records_of a) (records_of b)

-- ---- how many rows there are, and how many bytes

module _ (a : List ℕ) (m : ℕ) (b : List ℕ) (n : ℕ) (first : check_of a ≡ reads m) (second : check_of b ≡ reads n) where
  pub both_rows : length (both a b) ≡ m + n
  both_rows = omega (arith, by_time_length (records_of a) (records_of b), held_count a m first, held_count b n second)

  pub both_size : length (joined_bundle a b) + 2 ≡ length a + length b
  both_size =
      omega (
        arith,
        length_bundle (both a b),
        both_rows,
        by_time_bodies (records_of a) (records_of b),
        held_size a m first,
        held_size b n second,
      )

  pub both_filled : length (joined_bundle a b) ≡ length a + length b - 2
  both_filled = omega (arith, both_size)

  -- where it is not too much
  pub both_fit : {filled : ℕ} (out : List ℕ) → length (joined_bundle a b) ≡ filled → too_much (m + n) filled out ≡ false → BothFit a m b n out
  both_fit {filled} out f t =
      let p = none (ltb most_rows (m + n)) (ltb most_bytes filled ∷ (ltb (length out) filled ∷ [])) t in
      record {
        first = first;
        second = second;
        few = ltb-false most_rows (m + n) p.0;
        fits = omega (arith, f, ltb-false most_bytes filled p.1.0);
        room = omega (arith, f, ltb-false (length out) filled p.1.1.0);
      }

-- ---- the loop

pub record Joining (a : List ℕ) (m : ℕ) (b : List ℕ) (n : ℕ) (d : List ℕ) (k at i j : ℕ) (now : List ℕ) : Type 0 where
  pub first : check_of a ≡ reads m
  pub second : check_of b ≡ reads n
  pub inside : (i ≤ m) × (j ≤ n)
  pub turn : i + j ≡ k
  pub writing : Writing d (both a b) (by_time (drop i (records_of a)) (drop j (records_of b))) k at now

module _ {a : List ℕ} {m : ℕ} {b : List ℕ} {n : ℕ} {out : List ℕ} (f : BothFit a m b n out) where
  rows : length (both a b) ≡ m + n
  rows = both_rows a m b n f.first f.second

  size : length (joined_bundle a b) ≡ first_offset (length (both a b)) + length (bodies_for (both a b))
  size = length_bundle (both a b)

  pub counted : {d : List ℕ} → d ≡ copied out 0 (bytes_of 2 (m + n)) → length d ≡ length out
  counted e =
      let two : length (bytes_of 2 (m + n)) ≡ 2 = length_bytes 2 (m + n) in
      let fits : 0 + length (bytes_of 2 (m + n)) ≤ length out = omega (arith, size, f.room) in
      ap length (e ∙ copied_fits out 0 (bytes_of 2 (m + n)) fits) ∙ laid_length out (bytes_of 2 (m + n)) 0 fits

  pub joining_none : {d : List ℕ} → d ≡ copied out 0 (bytes_of 2 (m + n)) → Joining a m b n d 0 (first_offset (m + n)) 0 0 d
  joining_none {d} e = record {
    first = f.first;
    second = f.second;
    inside = (zero-le, zero-le);
    turn = refl;
    writing =
        rw (sym rows)
        (writing_none d (both a b) (omega (arith, rows, f.few)) (omega (arith, size, f.fits)) (omega (arith, size, f.room, counted e)));
  }

  pub joining_all : {d : List ℕ} → d ≡ copied out 0 (bytes_of 2 (m + n)) → {k at i j : ℕ} {now : List ℕ} → Joining a m b n d k at i j now → m + n ≤ k
      → now ≡ laid out 0 (joined_bundle a b)
  joining_all e {i = i} {j} g h =
      let none-a : drop i (records_of a) ≡ [] =
      drop_of_length-le (records_of a) {i = i} (omega (arith, held_count a m f.first, g.turn, g.inside.0, g.inside.1)) in
      let none-b : drop j (records_of b) ≡ [] =
      drop_of_length-le (records_of b) {i = j} (omega (arith, held_count b n f.second, g.turn, g.inside.0, g.inside.1)) in
      writing_all g.writing (ap₂ by_time none-a none-b ∙ none_first_lem []) out (omega (arith, size, f.room))
      (e ∙ ap (λ (q : ℕ). copied out 0 (bytes_of 2 q)) (sym rows))

pub joining_length : {a : List ℕ} {m : ℕ} {b : List ℕ} {n : ℕ} {d : List ℕ} {k at i j : ℕ} {now : List ℕ} → Joining a m b n d k at i j now
    → length now ≡ length d
joining_length g = writing_length g.writing

-- ---- a row more

module _ {a : List ℕ} {m : ℕ} {b : List ℕ} {n : ℕ} {d : List ℕ} {k at i j : ℕ} {now : List ℕ} (g : Joining a m b n d k at i j now) (h : k < m + n) where
  abbrev from_a : Recorded
  from_a = record_for a (unchecked_row a i)

  abbrev from_b_lem : Recorded
  from_b_lem = record_for b (unchecked_row b j)

  next_a : i < m → drop i (records_of a) ≡ from_a ∷ drop (suc i) (records_of a)
  next_a l = held_next a m g.first i l

  next_b : j < n → drop j (records_of b) ≡ from_b_lem ∷ drop (suc j) (records_of b)
  next_b l = held_next b n g.second j l

  -- the row of b is next
  module _ (t : from_b a m i b n j ≡ true) where
    pub more_b : j < n
    more_b = by_test (leb m i) (λ p. omega (arith, leb-true m i p, g.turn, g.inside.0)) (λ p. go (ltb j n) refl (rw p at t))
      where
        go : (q : Bool) → ltb j n ≡ q → (q && ltb (unchecked_row b j).time (unchecked_row a i).time) ≡ true → j < n
        go true e s = ltb-true j n e
        go false e s = absurd (true≢false (sym s))

    is_b : by_time (drop i (records_of a)) (drop j (records_of b)) ≡ from_b_lem ∷ by_time (drop i (records_of a)) (drop (suc j) (records_of b))
    is_b =
        by_test (leb m i)
        (λ p. let past : drop i (records_of a) ≡ [] = drop_of_length-le (records_of a) {i = i} (omega (arith, held_count a m g.first, leb-true m i p)) in
        rw (next_b more_b, past, none_first_lem, none_first_lem))
        (λ p. rw (next_b more_b, next_a (leb-false m i p))
        (second_next from_a (drop (suc i) (records_of a)) from_b_lem (drop (suc j) (records_of b)) (rw (p, lt-ltb j n more_b) at t)))

    module _ {r : Row} (er : r ≡ unchecked_row b j) where
      pub room-b : (r.offset + r.length ≤ length b) × (k < most_rows) × (at ≤ most_bytes)
      room-b = (rw er (unchecked_inside b j n g.second more_b), writing_few g.writing is_b, writing_near g.writing)

      pub joining-b : {end : ℕ} {after : List ℕ} → end ≡ at + r.length → after ≡ row_put b r k at now → Joining a m b n d (k + 1) end i (j + 1) after
      joining-b {end} {after} f p =
          let size = body_size b n g.second j more_b in
          rw (f, add-one j, er)
          (record {
            first = g.first;
            second = g.second;
            inside = (g.inside.0, more_b);
            turn = omega (arith, g.turn);
            writing = writing_next g.writing is_b b (unchecked_row b j) refl size (p ∙ ap (λ (q : Row). row_put b q k at now) er);
          })

  -- the row of a is next
  module _ (t : from_b a m i b n j ≡ false) where
    pub more_a : i < m
    more_a = leb-false m i (neither (leb m i) (ltb j n && ltb (unchecked_row b j).time (unchecked_row a i).time) t).0

    is_a : by_time (drop i (records_of a)) (drop j (records_of b)) ≡ from_a ∷ by_time (drop (suc i) (records_of a)) (drop j (records_of b))
    is_a =
        let later = (neither (leb m i) (ltb j n && ltb (unchecked_row b j).time (unchecked_row a i).time) t).1 in
        by_test (ltb j n)
        (λ p. rw (next_a more_a, next_b (ltb-true j n p))
        (first_next from_a (drop (suc i) (records_of a)) from_b_lem (drop (suc j) (records_of b)) (rw p at later)))
        (λ p. let past : drop j (records_of b) ≡ [] = drop_of_length-le (records_of b) {i = j} (omega (arith, held_count b n g.second, ltb-false j n p)) in
        rw (next_a more_a, past, none_second_lem, none_second_lem))

    module _ {r : Row} (er : r ≡ unchecked_row a i) where
      pub room-a : (r.offset + r.length ≤ length a) × (k < most_rows) × (at ≤ most_bytes)
      room-a = (rw er (unchecked_inside a i m g.first more_a), writing_few g.writing is_a, writing_near g.writing)

      pub joining-a : {end : ℕ} {after : List ℕ} → end ≡ at + r.length → after ≡ row_put a r k at now → Joining a m b n d (k + 1) end (i + 1) j after
      joining-a {end} {after} f p =
          let size = body_size a m g.first i more_a in
          rw (f, add-one i, er)
          (record {
            first = g.first;
            second = g.second;
            inside = (more_a, g.inside.1);
            turn = omega (arith, g.turn);
            writing = writing_next g.writing is_a a (unchecked_row a i) refl size (p ∙ ap (λ (q : Row). row_put a q k at now) er);
          })
