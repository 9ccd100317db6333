-- What the steps of the sweep leave: the bundle of the records that are left.
use Prim.Native.Nat.{ℕ, ◌+◌, ◌*◌, ◌≤◌}
use mathlib.Core.Bool.{Bool, false}
use mathlib.Core.List.{List, [], ◌∷◌, ◌++◌, map}
use mathlib.Core.Path.{◌≡◌, refl, sym, ap, ap₂, ◌∙◌}
use native.Mathlib.Omega.{arith}
use lib.ListN.{length, take, drop, length-append, length-drop, length-map}
use lib.Seq.{length-take-le, take_at, drop_at}
use Rattle.base_rules.specs.Answers.{reads}
use Rattle.base_rules.proofs.Laws.Tests.{by_test}
use Rattle.base_lent.specs.Copying.{laid, copied}
use Rattle.base_lent.specs.Pieces.{pieces}
use Rattle.base_lent.proofs.Laws.Copying.{laid_length, laid_on, copied_fits}
use Rattle.base_numbers.specs.Numbers.{bytes_of}
use Rattle.base_numbers.proofs.Laws.Numbers.{length_bytes}
use Rattle.bundle_rows.specs.Rows.{rows_of, first_offset, bytes_of_rows, body_in}
use Rattle.bundle_rows.specs.declared.Row.{Row}
use Rattle.bundle_rows.proofs.Laws.RowLaws.{length_rows, length_rows_bytes, rows_front}
use Rattle.bundle_check.specs.Bundles.{count_of, contents_of, check_of}
use Rattle.bundle_check.specs.Records.{records_of, rows_for, bodies_for, bundle_of, moved_to, placed_from}
use Rattle.bundle_check.specs.RowRules.{next_offset, wrong_places}
use Rattle.bundle_check.proofs.Laws.Accepted.{SoundBundle, accepted_sound}
use Rattle.bundle_check.proofs.Laws.BodyLaws.{count_rows, few_rows}
use Rattle.bundle_check.proofs.Laws.HoldingLaws.{record_for, records_held, length_placed}
use Rattle.bundle_check.proofs.Laws.RecordLaws.{length_bundle}
use Rattle.bundle_check.proofs.Laws.RowRules.{places_right}
use Rattle.bundle_sweep.specs.Sweeping.{removed, without, swept, swept_bundle}
use Rattle.bundle_sweep.specs.Writing.{row_goes, rows_left, Drawn, Behind, BodiesInOrder, Placed}
use Rattle.bundle_sweep.proofs.Laws.Laid.{laid_past, laid_apart, laid_over, laid_in_front}
use Rattle.bundle_sweep.proofs.Laws.Without.{without_few, without_map}

-- ---- of rows that stand at their places, those that are left have their bodies behind each other

pub left_behind : (test : Row → Bool) (e place o : ℕ) (rows : List Row) → wrong_places e o rows ≡ false → place ≤ o → Behind e place (without test rows)
unfolding Behind without
left_behind test e place o [] w h = tt
left_behind test e place o (r ∷ rows) w h =
    let p = places_right e o r rows w in
    by_test (test r)
    (λ t. rw t (left_behind test e place (next_offset o r) rows p.2 (omega arith)))
    (λ t. rw t (omega (arith, p.0), omega (arith, p.0, p.1), left_behind test e (next_offset place r) (next_offset o r) rows p.2 (omega arith)))

-- ---- rows whose bodies lie in a bundle record what lies there

rows_recorded : (b : List ℕ) (at place : ℕ) (rows : List Row) → Behind (length b) place rows → rows_for at (map (record_for b) rows) ≡ placed_from at rows
unfolding Behind rows_for placed_from
rows_recorded b at place [] p = refl
rows_recorded b at place (r ∷ rows) p =
    let size : length (body_in b r) ≡ r.length = length-take-le r.length (drop r.offset b) (omega (arith, p.1, length-drop r.offset b)) in
    rw size (ap (λ (l : List Row). moved_to at r ∷ l) (rows_recorded b (next_offset at r) (next_offset place r) rows p.2))

bodies_recorded : (b : List ℕ) (rows : List Row) → bodies_for (map (record_for b) rows) ≡ pieces (body_in b) rows
unfolding bodies_for
bodies_recorded b [] = refl
bodies_recorded b (r ∷ rows) = ap (λ (l : List ℕ). body_in b r ++ l) (bodies_recorded b rows)

-- two bundles that are the same from a place on have the same bodies there
bodies_same : (b d : List ℕ) (place : ℕ) (rows : List Row) → Behind (length b) place rows
    → ((p : ℕ) → place ≤ p → p ≤ length b → drop p d ≡ drop p b) → pieces (body_in d) rows ≡ pieces (body_in b) rows
unfolding Behind
bodies_same b d place [] p e = refl
bodies_same b d place (r ∷ rows) p e =
    ap₂ (λ (l m : List ℕ). l ++ m) (ap (take r.length) (e r.offset p.0 (omega (arith, p.1))))
    (bodies_same b d (next_offset place r) rows p.2 (λ q l k. e q (omega arith) k))

module _ (position : ℕ) (b : List ℕ) (n : ℕ) (e : check_of b ≡ reads n) where
  abbrev sound : SoundBundle b
  sound = (accepted_sound b n e).0

  abbrev left : List Row
  left = rows_left position b

  left_few : length left ≤ n
  left_few = omega (arith, without_few (row_goes position b) (contents_of b), count_rows b n e)

  left_places : Behind (length b) (first_offset (length left)) left
  left_places =
      left_behind (row_goes position b) (length b) (first_offset (length left)) (first_offset (count_of b)) (contents_of b) sound.places
      (omega (arith, left_few, (accepted_sound b n e).1))

  swept_is : swept position (records_of b) ≡ map (record_for b) left
  swept_is = ap (swept position) (records_held b sound) ∙ sym (without_map (removed position) (record_for b) (contents_of b))

  pub swept_count : length (swept position (records_of b)) ≡ length left
  swept_count = ap length swept_is ∙ length-map left (record_for b)

  abbrev bodies : List ℕ
  bodies = pieces (body_in b) left

  -- the new bundle, part by part
  new_is : swept_bundle position b ≡ bytes_of 2 (length left) ++ (bytes_of_rows (placed_from (first_offset (length left)) left) ++ bodies)
  new_is =
      ap bundle_of swept_is
      ∙ ap (λ (k : ℕ). bytes_of 2 k ++ (bytes_of_rows (rows_for (first_offset k) (map (record_for b) left)) ++ bodies_for (map (record_for b) left)))
      (length-map left (record_for b))
      ∙ ap₂ (λ (l : List Row) (s : List ℕ). bytes_of 2 (length left) ++ (bytes_of_rows l ++ s))
      (rows_recorded b (first_offset (length left)) (first_offset (length left)) left left_places) (bodies_recorded b left)

  pub new_length : length (swept_bundle position b) ≡ first_offset (length left) + length bodies
  new_length =
      length_bundle (swept position (records_of b))
      ∙ ap₂ (λ (k : ℕ) (s : List ℕ). first_offset k + length s) swept_count (ap bodies_for swept_is ∙ bodies_recorded b left)

  inside : (place : ℕ) (rows : List Row) → Behind (length b) place rows → place ≤ length b → place + length (pieces (body_in b) rows) ≤ length b
  unfolding Behind
  inside place [] q h = omega arith
  inside place (r ∷ rows) q h =
      let size : length (body_in b r) ≡ r.length = length-take-le r.length (drop r.offset b) (omega (arith, q.1, length-drop r.offset b)) in
      omega (arith, length-append (body_in b r) (pieces (body_in b) rows), inside (next_offset place r) rows q.2 (omega (arith, q.0, q.1)))

  fitting : first_offset (length left) + length bodies ≤ length b
  fitting = inside (first_offset (length left)) left left_places (omega (arith, left_few, sound.whole, (accepted_sound b n e).1))

  -- it is no longer than the old one
  pub new_fits : length (swept_bundle position b) ≤ length b
  new_fits = omega (arith, new_length, fitting)

  -- ---- from the rows drawn together on

  module _ {kept : ℕ} {d : List ℕ} (g : Drawn position b kept d) where
    kept_is : kept ≡ length left
    kept_is = sym (length_rows kept g.bytes) ∙ ap length g.rows

    kept_few : kept ≤ n
    kept_few = omega (arith, kept_is, left_few)

    whole : first_offset kept ≤ length b
    whole = omega (arith, kept_few, sound.whole, (accepted_sound b n e).1)

    pub drawn_length : length d ≡ length b
    drawn_length = ap length g.holds ∙ laid_length b g.bytes 2 (omega (arith, g.size, whole))

    rows_drawn : rows_of kept (drop 2 d) ≡ left
    rows_drawn =
        let two : length (take 2 b) ≡ 2 = length-take-le 2 b (omega (arith, whole)) in
        ap (λ (l : List ℕ). rows_of kept (drop 2 l)) g.holds
        ∙ ap (rows_of kept) (drop_at (take 2 b) (g.bytes ++ drop (length g.bytes) (drop 2 b)) 2 two)
        ∙ sym (rows_front kept (12 * kept) (g.bytes ++ drop (length g.bytes) (drop 2 b)) (omega arith))
        ∙ ap (rows_of kept) (take_at g.bytes (drop (length g.bytes) (drop 2 b)) (12 * kept) g.size) ∙ g.rows

    pub drawn_in_order : BodiesInOrder d kept
    drawn_in_order = record {
      few = omega (arith, kept_few, few_rows b n e);
      fits = omega (arith, drawn_length, sound.fits);
      there = omega (arith, drawn_length, whole);
      behind = rw (rows_drawn, drawn_length, kept_is) left_places;
    }

    bodies_drawn : pieces (body_in d) left ≡ bodies
    bodies_drawn =
        bodies_same b d (first_offset (length left)) left left_places
        (λ p l k. ap (drop p) g.holds ∙ laid_past b 2 g.bytes p (omega (arith, g.size, kept_is)) k)

    module _ {end : ℕ} {a : List ℕ} (p : Placed d kept end a) where
      pub placed-length : end ≡ length (swept_bundle position b)
      placed-length =
          p.ends ∙ ap₂ (λ (k : ℕ) (l : List Row). first_offset k + length (pieces (body_in d) l)) kept_is rows_drawn
          ∙ ap (λ (s : List ℕ). first_offset (length left) + length s) bodies_drawn ∙ sym new_length

      pub steps_leave : {after : List ℕ} → after ≡ copied a 0 (bytes_of 2 kept) → after ≡ laid b 0 (swept_bundle position b)
      steps_leave {after} f =
          let k : ℕ = length left in
          let rows : List ℕ = bytes_of_rows (placed_from (first_offset k) left) in
          let size : length rows ≡ 12 * k = length_rows_bytes (placed_from (first_offset k) left) ∙ ap (λ (m : ℕ). 12 * m) (length_placed (first_offset k) left) in
          let same : length g.bytes ≡ length rows = omega (arith, g.size, kept_is, size) in
          let room : first_offset k ≤ length b = omega (arith, whole, kept_is) in
          let there : a ≡ laid (laid (laid b 2 g.bytes) (first_offset k) bodies) 2 rows =
          p.holds
          ∙ ap₂ (λ (m : ℕ) (l : List Row). laid (laid d (first_offset m) (pieces (body_in d) l)) 2 (bytes_of_rows (placed_from (first_offset m) l)))
          kept_is rows_drawn
          ∙ ap₂ (λ (x s : List ℕ). laid (laid x (first_offset k) s) 2 rows) g.holds bodies_drawn in
          let long : length (laid b 2 g.bytes) ≡ length b = laid_length b g.bytes 2 (omega (arith, g.size, whole)) in
          let place : first_offset k ≡ 2 + length rows = omega (arith, size) in
          let whole-rows : a ≡ laid b 2 (rows ++ bodies) =
          there ∙ sym (laid_apart (laid b 2 g.bytes) 2 rows (first_offset k) (omega (arith, size)) (omega (arith, long, room)) bodies)
          ∙ ap (λ (l : List ℕ). laid l (first_offset k) bodies) (laid_over b 2 g.bytes rows same (omega (arith, g.size, whole)))
          ∙ ap (λ (m : ℕ). laid (laid b 2 rows) m bodies) place ∙ laid_on b 2 rows bodies (omega (arith, whole)) in
          let count : length (bytes_of 2 k) ≡ 2 = length_bytes 2 k in
          let level : length a ≡ length b = ap length whole-rows ∙ laid_length b (rows ++ bodies) 2 (omega (arith, length-append rows bodies, size, fitting)) in
          f ∙ ap (λ (m : ℕ). copied a 0 (bytes_of 2 m)) kept_is ∙ copied_fits a 0 (bytes_of 2 k) (omega (arith, count, level, whole))
          ∙ ap (λ (l : List ℕ). laid l 0 (bytes_of 2 k)) whole-rows
          ∙ laid_in_front b 2 (bytes_of 2 k) (rows ++ bodies) count (omega (arith, whole)) ∙ ap (laid b 0) (sym new_is)
