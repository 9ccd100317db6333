-- What a bundle that the check accepts holds: a bundle can hold it, and it is the bundle of it.
use Prim.Native.Nat.{ℕ, suc, ◌+◌, ◌*◌, ◌^◌, ◌≤◌, ◌<◌}
use mathlib.Core.Bool.{Bool, false, ◌||◌}
use mathlib.Core.List.{List, [], ◌∷◌, ◌++◌, map}
use mathlib.Core.Path.{◌≡◌, refl, sym, ap, ◌∙◌}
use native.Mathlib.Nat.{le_refl}
use native.Mathlib.Omega.{arith}
use lib.ListN.{length, take, drop, take-append-drop, length-drop}
use lib.Seq.{drop-drop, length-take-le}
use Rattle.base_rules.specs.Lists.{at}
use Rattle.base_rules.proofs.Laws.ByteLaws.{EachByte, each_drop}
use Rattle.bundle_rows.specs.Lists.{All}
use Rattle.bundle_rows.proofs.Laws.RowLaws.{length_rows, bytes_taken, rows_whole, times_of}
use Rattle.bundle_rows.specs.Rows.{body_in, first_offset}
use Rattle.bundle_rows.specs.declared.Row.{Row}
use Rattle.bundle_check.proofs.Laws.Accepted.{SoundBundle}
use Rattle.bundle_check.specs.Bundles.{count_of, contents_of, bodies_of}
use Rattle.bundle_check.proofs.Laws.RecordLaws.{wrong_record, Timely, Holdable}
use Rattle.bundle_check.specs.Records.{Recorded, record_time, records_in, records_of, rows_for, bodies_for, bundle_of, moved_to, placed_from}
use Rattle.bundle_check.specs.RowRules.{wrong_row, wrong_rows, next_offset, wrong_places, bodies_end}
use Rattle.bundle_check.proofs.Laws.RowRules.{places_right}
use Rattle.bundle_check.specs.Walks.{some_wrong, end_of}

-- ---- the rows with their bodies from an offset on

pub length_placed : (o : ℕ) (rows : List Row) → length (placed_from o rows) ≡ length rows
unfolding placed_from
length_placed o [] = refl
length_placed o (r ∷ rows) = ap suc (length_placed (next_offset o r) rows)

pub end_least : (o : ℕ) (rows : List Row) → o ≤ bodies_end o rows
unfolding end_of
end_least o [] = le_refl o
end_least o (r ∷ rows) = omega (arith, end_least (next_offset o r) rows)

pub end_inside : (e o : ℕ) (rows : List Row) → wrong_places e o rows ≡ false → o ≤ e → bodies_end o rows ≤ e
unfolding end_of
end_inside e o [] w h = h
end_inside e o (r ∷ rows) w h =
    let p = places_right e o r rows w in
    end_inside e (next_offset o r) rows p.2 p.1

-- every row of a walk that finds no wrong place stands at its place
pub placed_raised : (e o d : ℕ) (rows : List Row) → wrong_places e o rows ≡ false → placed_from (o + d) rows ≡ map (λ (r : Row). moved_to (r.offset + d) r) rows
unfolding placed_from
placed_raised e o d [] w = refl
placed_raised e o d (r ∷ rows) w =
    let p = places_right e o r rows w in
    let next : next_offset (o + d) r ≡ next_offset o r + d = omega arith in
    rw (p.0, next) (ap (λ (l : List Row). moved_to (o + d) r ∷ l) (placed_raised e (next_offset o r) d rows p.2))

-- rows that stand at their places stay as they are
pub placed_same : (e o : ℕ) (rows : List Row) → wrong_places e o rows ≡ false → placed_from o rows ≡ rows
unfolding placed_from
placed_same e o [] w = refl
placed_same e o (r ∷ rows) w =
    let p = places_right e o r rows w in
    rw (← p.0, p.0, placed_same e (next_offset o r) rows p.2)

-- ---- what stands behind the rows is long enough for the bodies

pub length_records : (rows : List Row) (s : List ℕ) → length (records_in rows s) ≡ length rows
unfolding records_in
length_records [] s = refl
length_records (r ∷ rows) s = ap suc (length_records rows (drop r.length s))

module _ (r : Row) (rows : List Row) (s : List ℕ) (o : ℕ) (h : bodies_end (next_offset o r) rows ≤ o + length s) where
  inside : r.length ≤ length s
  inside = omega (arith, end_least (next_offset o r) rows)

  behind : bodies_end (next_offset o r) rows ≤ next_offset o r + length (drop r.length s)
  behind = omega (arith, length-drop r.length s, inside)

  own : length (take r.length s) ≡ r.length
  own = length-take-le r.length s inside

pub fields_in : (before o : ℕ) (rows : List Row) (s : List ℕ) → bodies_end o rows ≤ o + length s
    → some_wrong wrong_record record_time before (records_in rows s) ≡ wrong_rows before rows
unfolding records_in some_wrong end_of
fields_in before o [] s h = refl
fields_in before o (r ∷ rows) s h =
    rw (own r rows s o h) (ap (λ (t : Bool). wrong_row before r || t) (fields_in r.time (next_offset o r) rows (drop r.length s) (behind r rows s o h)))

pub rows_in : (at o : ℕ) (rows : List Row) (s : List ℕ) → bodies_end o rows ≤ o + length s → rows_for at (records_in rows s) ≡ placed_from at rows
unfolding records_in rows_for placed_from end_of
rows_in at o [] s h = refl
rows_in at o (r ∷ rows) s h =
    rw (own r rows s o h) (ap (λ (l : List Row). moved_to at r ∷ l) (rows_in (next_offset at r) (next_offset o r) rows (drop r.length s) (behind r rows s o h)))

pub bodies_in : (o : ℕ) (rows : List Row) (s : List ℕ) → bodies_end o rows ≡ o + length s → bodies_for (records_in rows s) ≡ s
unfolding records_in bodies_for end_of
bodies_in o [] [] h = refl
bodies_in o [] (x ∷ s) h = let never : ⊥ = omega arith in absurd never
bodies_in o (r ∷ rows) s h =
    let l : bodies_end (next_offset o r) rows ≤ o + length s = omega arith in
    rw (bodies_in (next_offset o r) rows (drop r.length s) (omega (arith, length-drop r.length s, inside r rows s o l))) (take-append-drop r.length s)

pub timely_in : (rows : List Row) (s : List ℕ) → All (λ (r : Row). r.time < 256 ^ 4) rows → All Timely (records_in rows s)
unfolding records_in
timely_in [] s p = tt
timely_in (r ∷ rows) s p = (p.0, timely_in rows (drop r.length s) p.1)

-- what one row of a bundle records: its fields, and the body that lies at its offset
abbrev pub record_for : List ℕ → Row → Recorded
record_for b r = record { position = r.position; direction = r.direction; time = r.time; body = body_in b r }

-- rows that stand at their places record what lies there
pub records_in_lem : (e o : ℕ) (rows : List Row) (b : List ℕ) → wrong_places e o rows ≡ false → records_in rows (drop o b) ≡ map (record_for b) rows
unfolding records_in
records_in_lem e o [] b w = refl
records_in_lem e o (r ∷ rows) b w =
    let p = places_right e o r rows w in
    rw (p.0, drop-drop r.length o b, records_in_lem e (next_offset o r) rows b p.2)

-- ---- a sound bundle

module _ (b : List ℕ) (s : SoundBundle b) where
  pub sound_end : bodies_end (first_offset (count_of b)) (contents_of b) ≡ length b
  sound_end = omega (arith, s.full, end_inside (length b) (first_offset (count_of b)) (contents_of b) s.places s.whole)

  pub length_bodies : first_offset (count_of b) + length (bodies_of b) ≡ length b
  length_bodies = omega (arith, length-drop (first_offset (count_of b)) b, s.whole)

  pub length_held : length (records_of b) ≡ count_of b
  length_held = length_records (contents_of b) (bodies_of b) ∙ length_rows (count_of b) (drop 2 b)

  pub records_held : records_of b ≡ map (record_for b) (contents_of b)
  records_held = records_in_lem (length b) (first_offset (count_of b)) (contents_of b) b s.places

  pub bodies_held : bodies_for (records_of b) ≡ bodies_of b
  bodies_held = bodies_in (first_offset (count_of b)) (contents_of b) (bodies_of b) (sound_end ∙ sym length_bodies)

  pub rows_held : (at : ℕ) → rows_for at (records_of b) ≡ placed_from at (contents_of b)
  rows_held at = rows_in at (first_offset (count_of b)) (contents_of b) (bodies_of b) (omega (arith, sound_end, length_bodies))

  pub holdable_held : All Timely (records_of b) → Holdable (records_of b)
  holdable_held t = record {
    few = rw length_held s.few;
    fits = rw (length_held, bodies_held) (omega (arith, length_bodies, s.fits));
    fields = fields_in 0 (first_offset (count_of b)) (contents_of b) (bodies_of b) (omega (arith, sound_end, length_bodies)) ∙ s.fields;
    timely = t;
    range = rw bodies_held s.range;
  }

  pub timely_held : EachByte b → All Timely (records_of b)
  timely_held p = timely_in (contents_of b) (bodies_of b) (times_of (count_of b) (drop 2 b) (each_drop 2 b p))

pub bundle_whole : (b : List ℕ) → SoundBundle b → EachByte b → bundle_of (records_of b) ≡ b
bundle_whole b s p =
    rw (
      length_held b s,
      rows_held b s (first_offset (count_of b)),
      placed_same (length b) (first_offset (count_of b)) (contents_of b) s.places,
      bodies_held b s,
      rows_whole (count_of b) (drop 2 b) (omega (arith, s.whole, length-drop 2 b)) (each_drop 2 b p),
      bytes_taken 2 b s.counted p,
    )
    (ap (λ (l : List ℕ). take 2 b ++ l)
    (ap (λ (l : List ℕ). take (12 * count_of b) (drop 2 b) ++ l) (sym (drop-drop (12 * count_of b) 2 b)) ∙ take-append-drop (12 * count_of b) (drop 2 b))
    ∙ take-append-drop 2 b)
