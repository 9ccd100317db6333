-- The loops over the rows of a bundle that measure those of a position, and write them.
use Prim.Native.Nat.{ℕ, suc, ◌+◌, ◌≤◌, ◌<◌, zero-le}
use mathlib.Core.Bool.{Bool, true, false}
use mathlib.Core.List.{List, [], ◌∷◌}
use mathlib.Core.Path.{◌≡◌, refl, sym, ap, ◌∙◌}
use native.Mathlib.Numerals.{add-one}
use native.Mathlib.Omega.{arith}
use lib.Dec.{eqb}
use lib.ListN.{length, drop, length-append, drop_of_length-le}
use Rattle.base_rules.specs.Answers.{reads}
use Rattle.base_rules.proofs.Laws.Tests.{by_test}
use Rattle.base_lent.specs.Copying.{laid, copied}
use Rattle.base_lent.proofs.Laws.Copying.{laid_length, copied_fits}
use Rattle.base_numbers.specs.Numbers.{bytes_of}
use Rattle.base_numbers.proofs.Laws.Numbers.{length_bytes}
use Rattle.bundle_rows.specs.Rows.{most_rows, first_offset, unchecked_row}
use Rattle.bundle_rows.specs.declared.Row.{Row}
use Rattle.bundle_check.specs.Bundles.{most_bytes, check_of}
use Rattle.bundle_check.specs.Records.{Recorded, records_of, bodies_for}
use Rattle.bundle_check.proofs.Laws.BodyLaws.{few_rows, unchecked_inside}
use Rattle.bundle_check.proofs.Laws.HoldingLaws.{record_for}
use Rattle.bundle_check.proofs.Laws.RecordLaws.{length_bundle}
use Rattle.bundle_sweep.specs.Sweeping.{without}
use Rattle.bundle_sweep.proofs.Laws.Without.{without_few}
use Rattle.bundle_joining.specs.declared.choosing.Size.{Size}
use Rattle.bundle_joining.specs.Choosing.{elsewhere, of_position, position_bundle}
use Rattle.bundle_joining.specs.Measuring.{size_of}
use Rattle.bundle_joining.specs.Writing.{row_put}
use Rattle.bundle_joining.proofs.Laws.Rows.{held_count, held_size, held_fits, body_size, held_next}
use Rattle.bundle_joining.proofs.Laws.Writing.{Writing, writing_none, writing_length, writing_near, writing_all, writing_few, writing_next}

-- fewer bodies have no more bytes
pub bodies_few : (test : Recorded → Bool) (ks : List Recorded) → length (bodies_for (without test ks)) ≤ length (bodies_for ks)
unfolding without bodies_for
bodies_few test [] = zero-le
bodies_few test (k ∷ ks) =
    by_test (test k) (λ t. rw t (omega (arith, bodies_few test ks, length-append k.body (bodies_for ks))))
    (λ t. rw t (omega (arith, bodies_few test ks, length-append k.body (bodies_for ks), length-append k.body (bodies_for (without test ks)))))

module _ (position : ℕ) (b : List ℕ) (n : ℕ) (e : check_of b ≡ reads n) where
  abbrev own : List Recorded
  own = of_position position (records_of b)

  pub own_few : length own ≤ most_rows
  own_few = omega (arith, without_few (elsewhere position) (records_of b), held_count b n e, few_rows b n e)

  pub own_fits : first_offset (length own) + length (bodies_for own) ≤ length b
  own_fits =
      omega (arith, without_few (elsewhere position) (records_of b), held_count b n e, bodies_few (elsewhere position) (records_of b), held_size b n e)

  pub own_below : first_offset (length own) + length (bodies_for own) ≤ most_bytes
  own_below = omega (arith, own_fits, held_fits b n e)

  -- the bytes of the new bundle, by what was measured
  pub own_length : {s : Size} → s ≡ size_of position b → length (position_bundle position b) ≡ first_offset s.rows + s.bytes
  own_length {s} q = length_bundle own ∙ ap (λ (z : Size). first_offset z.rows + z.bytes) (sym q)

  pub own_bounded : {s : Size} → s ≡ size_of position b → first_offset s.rows + s.bytes ≤ most_bytes
  own_bounded q = omega (arith, own_length q, length_bundle own, own_below)

  module _ (i : ℕ) (h : i < n) {r : Row} (er : r ≡ unchecked_row b i) where
    next : drop i (records_of b) ≡ record_for b r ∷ drop (suc i) (records_of b)
    next = held_next b n e i h ∙ ap (λ (q : Row). record_for b q ∷ drop (suc i) (records_of b)) (sym er)

    size : length (record_for b r).body ≡ r.length
    size = rw er (body_size b n e i h)

    pub own_inside : r.offset + r.length ≤ length b
    own_inside = rw er (unchecked_inside b i n e h)

    -- a row of the position is the next of its rows, and another is none of them
    pub is_own : eqb r.position position ≡ true → of_position position (drop i (records_of b))
        ≡ record_for b r ∷ of_position position (drop (suc i) (records_of b))
    unfolding without
    is_own t = rw (next, t)

    pub is_other : eqb r.position position ≡ false → of_position position (drop i (records_of b)) ≡ of_position position (drop (suc i) (records_of b))
    unfolding without
    is_other t = rw (next, t)

-- ---- measuring

pub record Measured (position : ℕ) (b : List ℕ) (n i rows bytes : ℕ) : Type 0 where
  pub accepted : check_of b ≡ reads n
  pub inside : i ≤ n
  pub count : rows + length (of_position position (drop i (records_of b))) ≡ length (of_position position (records_of b))
  pub size : bytes + length (bodies_for (of_position position (drop i (records_of b)))) ≡ length (bodies_for (of_position position (records_of b)))

pub measured_none : {position : ℕ} {b : List ℕ} {n : ℕ} → check_of b ≡ reads n → Measured position b n 0 0 0
measured_none e = record { accepted = e; inside = zero-le; count = omega arith; size = omega arith }

module _ {position : ℕ} {b : List ℕ} {n i rows bytes : ℕ} (g : Measured position b n i rows bytes) where
  pub measured_few : (rows ≤ most_rows) × (bytes ≤ most_bytes)
  measured_few =
      (omega (arith, g.count, own_few position b n g.accepted), omega (arith, g.size, own_below position b n g.accepted))

  module _ (h : i < n) {r : Row} (er : r ≡ unchecked_row b i) where
    pub measured_own : eqb r.position position ≡ true → Measured position b n (i + 1) (rows + 1) (bytes + r.length)
    unfolding bodies_for
    measured_own t =
        let later : List Recorded = of_position position (drop (suc i) (records_of b)) in
        let one : of_position position (drop i (records_of b)) ≡ record_for b r ∷ later = is_own position b n g.accepted i h er t in
        let more : length (bodies_for (of_position position (drop i (records_of b)))) ≡ r.length + length (bodies_for later) =
        ap (λ (l : List Recorded). length (bodies_for l)) one
        ∙ length-append (record_for b r).body (bodies_for later) ∙ ap (λ (m : ℕ). m + length (bodies_for later)) (size position b n g.accepted i h er) in
        rw (add-one i)
        (record {
          accepted = g.accepted;
          inside = omega arith;
          count = omega (arith, g.count, ap length one);
          size = omega (arith, g.size, more);
        })

    pub measured_other : eqb r.position position ≡ false → Measured position b n (i + 1) rows bytes
    measured_other t =
        let same : of_position position (drop i (records_of b)) ≡ of_position position (drop (suc i) (records_of b)) =
        is_other position b n g.accepted i h er t in
        rw (add-one i)
        (record {
          accepted = g.accepted;
          inside = omega arith;
          count = omega (arith, g.count, ap length same);
          size = omega (arith, g.size, ap (λ (l : List Recorded). length (bodies_for l)) same);
        })

  pub measured_all : n ≤ i → record { rows = rows; bytes = bytes } ≡ size_of position b
  unfolding without bodies_for
  measured_all h =
      let none : drop i (records_of b) ≡ [] = drop_of_length-le (records_of b) {i = i} (omega (arith, held_count b n g.accepted)) in
      let r : rows ≡ length (of_position position (records_of b)) =
      omega (arith, g.count, ap (λ (l : List Recorded). length (of_position position l)) none) in
      let s : bytes ≡ length (bodies_for (of_position position (records_of b))) =
      omega (arith, g.size, ap (λ (l : List Recorded). length (bodies_for (of_position position l))) none) in
      λ j. record { rows = r j; bytes = s j }

-- ---- writing

-- what is left to write behind so many rows of the bundle
pub record Choosing (position : ℕ) (b : List ℕ) (n : ℕ) (d : List ℕ) (i k at : ℕ) (now : List ℕ) : Type 0 where
  pub accepted : check_of b ≡ reads n
  pub inside : i ≤ n
  pub writing : Writing d (of_position position (records_of b)) (of_position position (drop i (records_of b))) k at now

module _ (position : ℕ) (b : List ℕ) (n : ℕ) (e : check_of b ≡ reads n) {rows : ℕ} (er : rows ≡ (size_of position b).rows) (out : List ℕ)
    (room : length (position_bundle position b) ≤ length out) where
  pub counted : {d : List ℕ} → d ≡ copied out 0 (bytes_of 2 rows) → length d ≡ length out
  counted f =
      let two : length (bytes_of 2 rows) ≡ 2 = length_bytes 2 rows in
      let fits : 0 + length (bytes_of 2 rows) ≤ length out = omega (arith, length_bundle (of_position position (records_of b)), room) in
      ap length (f ∙ copied_fits out 0 (bytes_of 2 rows) fits) ∙ laid_length out (bytes_of 2 rows) 0 fits

  pub rows_few : rows ≤ most_rows
  rows_few = rw er (own_few position b n e)

  pub choosing_none : {d : List ℕ} → d ≡ copied out 0 (bytes_of 2 rows) → Choosing position b n d 0 0 (first_offset rows) d
  choosing_none {d} f = record {
    accepted = e;
    inside = zero-le;
    writing =
        rw er
        (writing_none d (of_position position (records_of b)) (own_few position b n e) (own_below position b n e)
        (omega (arith, counted f, length_bundle (of_position position (records_of b)), room)));
  }

  pub choosing_all : {d : List ℕ} → d ≡ copied out 0 (bytes_of 2 rows) → {i k at : ℕ} {now : List ℕ} → Choosing position b n d i k at now → n ≤ i
      → now ≡ laid out 0 (position_bundle position b)
  unfolding without
  choosing_all f {i} g h =
      let none : drop i (records_of b) ≡ [] = drop_of_length-le (records_of b) {i = i} (omega (arith, held_count b n e)) in
      writing_all g.writing (ap (of_position position) none) out (omega (arith, length_bundle (of_position position (records_of b)), room))
      (f ∙ ap (λ (m : ℕ). copied out 0 (bytes_of 2 m)) er)

module _ {position : ℕ} {b : List ℕ} {n : ℕ} {d : List ℕ} {i k at : ℕ} {now : List ℕ} (g : Choosing position b n d i k at now) where
  pub choosing_length : length now ≡ length d
  choosing_length = writing_length g.writing

  module _ (h : i < n) {r : Row} (er : r ≡ unchecked_row b i) where
    -- there is room for a row of the position
    pub choosing_room : eqb r.position position ≡ true → (r.offset + r.length ≤ length b) × (k < most_rows) × (at ≤ most_bytes)
    choosing_room t =
        (own_inside position b n g.accepted i h er, writing_few g.writing (is_own position b n g.accepted i h er t), writing_near g.writing)

    pub choosing_own : eqb r.position position ≡ true → {end : ℕ} {after : List ℕ} → end ≡ at + r.length → after ≡ row_put b r k at now
        → Choosing position b n d (i + 1) (k + 1) end after
    choosing_own t f p =
        rw (add-one i, f)
        (record {
          accepted = g.accepted;
          inside = omega arith;
          writing = writing_next g.writing (is_own position b n g.accepted i h er t) b r refl (size position b n g.accepted i h er) p;
        })

    pub choosing_other : eqb r.position position ≡ false → Choosing position b n d (i + 1) k at now
    choosing_other t =
        rw (add-one i)
        (record {
          accepted = g.accepted;
          inside = omega arith;
          writing = rw (sym (is_other position b n g.accepted i h er t)) g.writing;
        })
