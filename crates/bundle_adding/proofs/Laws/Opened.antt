-- The bundle with a row more among its own, byte by byte, and that the steps of inserting leave it.
use Prim.Native.Nat.{ℕ, zero, suc, ◌+◌, ◌-◌, ◌≤◌, ◌<◌}
use mathlib.Core.List.{List, [], ◌∷◌, ◌++◌, append_assoc}
use mathlib.Core.Path.{◌≡◌, refl, sym, ap, ◌∙◌}
use native.Mathlib.Nat.{add-zero, add_assoc}
use native.Mathlib.Omega.{arith}
use lib.ListN.{length, get_or, take, drop, length-append, take-append-drop}
use lib.Seq.{length-take-le, slice, drop_at, take_at, take-append-le, take-take, take_all, drop-drop}
use Rattle.base_rules.specs.Answers.{reads}
use Rattle.base_rules.proofs.Laws.ListLaws.{drop_take}
use Rattle.base_numbers.specs.Numbers.{bytes_of}
use Rattle.base_lent.specs.Copying.{laid}
use Rattle.bundle_rows.proofs.Laws.RowLaws.{rows_same}
use Rattle.bundle_rows.specs.Rows.{rows_of, first_offset, blank_row, unchecked_row, bytes_of_rows}
use Rattle.bundle_rows.specs.declared.Row.{Row}
use Rattle.bundle_check.proofs.Laws.Accepted.{SoundBundle, accepted_sound, row_there}
use Rattle.bundle_check.specs.Bundles.{count_of, contents_of, bodies_of, check_of}
use Rattle.bundle_check.proofs.Laws.HoldingLaws.{length_bodies, length_held, bodies_held, rows_held, placed_same}
use Rattle.bundle_check.proofs.Laws.RecordLaws.{bodies_for_append, length_bundle}
use Rattle.bundle_check.specs.Records.{Recorded, records_of, row_for, rows_for, bodies_for, bundle_of, placed_from}
use Rattle.bundle_adding.specs.Adding.{grown}
use Rattle.bundle_adding.specs.Inserting.{put_at}
use Rattle.bundle_adding.specs.Opening.{bodies_opened, contents_opened}

-- ---- one record among others

-- rows that are placed anew
placed_for : (o q : ℕ) (ks : List Recorded) → placed_from o (rows_for q ks) ≡ rows_for o ks
unfolding placed_from rows_for
placed_for o q [] = refl
placed_for o q (k ∷ ks) = ap (λ (l : List Row). row_for o k ∷ l) (placed_for (o + length k.body) (q + length k.body) ks)

placed_put : (p o q : ℕ) (k : Recorded) (ks : List Recorded) → placed_from o (put_at p (row_for 0 k) (rows_for q ks)) ≡ rows_for o (put_at p k ks)
unfolding placed_from rows_for
placed_put zero o q k ks = ap (λ (l : List Row). row_for o k ∷ l) (placed_for (o + length k.body) q ks)
placed_put (suc p) o q k [] = refl
placed_put (suc p) o q k (j ∷ ks) =
    ap (λ (l : List Row). row_for o j ∷ l) (placed_put p (o + length j.body) (q + length j.body) k ks)

-- where the body of each begins
offset_for : (o i : ℕ) (ks : List Recorded) (r : Row) → i < length ks → (get_or (rows_for o ks) i r).offset ≡ o + length (bodies_for (take i ks))
unfolding rows_for bodies_for
offset_for o i [] r h = absurd (omega arith)
offset_for o zero (k ∷ ks) r h = sym (add-zero o)
offset_for o (suc i) (k ∷ ks) r h =
    offset_for (o + length k.body) i ks r (omega arith)
    ∙ rw (length-append k.body (bodies_for (take i ks))) (add_assoc o (length k.body) (length (bodies_for (take i ks))))

-- the bodies with one among them
pub bodies_put : (p : ℕ) (k : Recorded) (ks : List Recorded) → bodies_for (put_at p k ks) ≡ bodies_for (take p ks) ++ (k.body ++ bodies_for (drop p ks))
unfolding bodies_for
bodies_put p k ks = bodies_for_append (take p ks) (k ∷ drop p ks)

pub bodies_parts : (p : ℕ) (ks : List Recorded) → bodies_for ks ≡ bodies_for (take p ks) ++ bodies_for (drop p ks)
bodies_parts p ks = ap bodies_for (sym (take-append-drop p ks)) ∙ bodies_for_append (take p ks) (drop p ks)

pub length_put : {A : Type 0} (p : ℕ) (k : A) (ks : List A) → length (put_at p k ks) ≡ length ks + 1
length_put p k ks =
    omega (arith, length-append (take p ks) (k ∷ drop p ks), length-append (take p ks) (drop p ks), ap length (take-append-drop p ks))

-- ---- the bundle of what a sound bundle holds and one more among it
module _ (b : List ℕ) (s : SoundBundle b) (p : ℕ) where
  abbrev ks : List Recorded
  ks = records_of b

  abbrev first : ℕ
  first = first_offset (count_of b)

  rows_are : contents_of b ≡ rows_for first ks
  rows_are = sym (rows_held b s first ∙ placed_same (length b) first (contents_of b) s.places)

  -- where the bodies in front of it end
  pub end_there : p < count_of b → (get_or (contents_of b) p blank_row).offset ≡ first + length (bodies_for (take p ks))
  end_there h =
      ap (λ (l : List Row). (get_or l p blank_row).offset) rows_are ∙ offset_for first p ks blank_row (omega (arith, length_held b s))

  pub end_last : p ≡ count_of b → length b ≡ first + length (bodies_for (take p ks))
  end_last e =
      sym (length_bodies b s)
      ∙ ap (λ (l : List ℕ). first + length l) (sym (bodies_held b s) ∙ ap bodies_for (sym (take_all p ks (omega (arith, length_held b s)))))

module _ (b : List ℕ) (s : SoundBundle b) (p : ℕ) (k : Recorded) where
  pub size_put : length (bundle_of (put_at p k (records_of b))) ≡ length b + 12 + length k.body
  size_put =
      omega (
        arith,
        length_bundle (put_at p k (records_of b)),
        length_put p k (records_of b),
        length_held b s,
        ap length (bodies_put p k (records_of b)),
        length-append (bodies_for (take p (records_of b))) (k.body ++ bodies_for (drop p (records_of b))),
        length-append k.body (bodies_for (drop p (records_of b))),
        ap length (sym (bodies_held b s) ∙ bodies_parts p (records_of b)),
        length-append (bodies_for (take p (records_of b))) (bodies_for (drop p (records_of b))),
        length_bodies b s,
      )

  rows_put : rows_for (first_offset (count_of b) + 12) (put_at p k (records_of b)) ≡ placed_from (first_offset (count_of b) + 12) (put_at p (row_for 0 k) (contents_of b))
  rows_put =
      sym (ap (λ (l : List Row). placed_from (first_offset (count_of b) + 12) (put_at p (row_for 0 k) l)) (rows_are b s p)
      ∙ placed_put p (first_offset (count_of b) + 12) (first_offset (count_of b)) k (records_of b))

  pub bundle_put : bundle_of (put_at p k (records_of b))
      ≡ bytes_of 2 (count_of b + 1) ++ (bytes_of_rows (placed_from (first_offset (count_of b) + 12) (put_at p (row_for 0 k) (contents_of b)))
      ++ (bodies_for (take p (records_of b)) ++ (k.body ++ bodies_for (drop p (records_of b)))))
  bundle_put =
      let more : length (put_at p k (records_of b)) ≡ count_of b + 1 = length_put p k (records_of b) ∙ ap (λ (n : ℕ). n + 1) (length_held b s) in
      let next : first_offset (count_of b + 1) ≡ first_offset (count_of b) + 12 = omega arith in
      rw (more, next, rows_put, bodies_put p k (records_of b))

regroup : (c r b x y t : List ℕ) → c ++ (r ++ (b ++ (x ++ (y ++ t)))) ≡ (c ++ (r ++ (b ++ (x ++ y)))) ++ t
regroup c r b x y t = simp append_assoc

-- ---- what the steps leave, for a bundle that fills the first bytes of a buffer
module _ (d : List ℕ) (filled : ℕ) (s : SoundBundle (take filled d)) (k : Recorded) (p : ℕ) (room : grown filled k ≤ length d) where
  abbrev old : List ℕ
  old = take filled d

  abbrev start : ℕ
  start = first_offset (count_of old)

  abbrev at : ℕ
  at = start + length (bodies_for (take p (records_of old)))

  length_old : length old ≡ filled
  length_old = length-take-le filled d (omega arith)

  at_inside : at ≤ filled
  at_inside =
      omega (
        arith,
        ap length (sym (bodies_held old s) ∙ bodies_parts p (records_of old)),
        length-append (bodies_for (take p (records_of old))) (bodies_for (drop p (records_of old))),
        length_bodies old s,
        length_old,
      )

  front : take at old ≡ take at d
  front = take-take at filled d at_inside

  -- the bodies in front of the place, and those behind it
  abbrev ahead : List ℕ
  ahead = bodies_for (take p (records_of old))

  abbrev after : List ℕ
  after = bodies_for (drop p (records_of old))

  parts : bodies_of old ≡ ahead ++ after
  parts = sym (bodies_held old s) ∙ bodies_parts p (records_of old)

  bodies_front : slice start at d ≡ ahead
  bodies_front =
      ap (drop start) (sym front) ∙ drop_take start at old ∙ ap (take (at - start)) parts ∙ take_at ahead after (at - start) (omega arith)

  bodies_behind : slice at filled d ≡ after
  bodies_behind = sym (drop-drop (length ahead) start old) ∙ ap (drop (length ahead)) parts ∙ drop_at ahead after (length ahead) refl

  abbrev opened : List ℕ
  opened = bodies_opened start at filled k.body d

  contents_stay : rows_of (count_of old) (drop 2 opened) ≡ contents_of old
  contents_stay =
      rows_same (count_of old) opened old
      (take-append-le start (take (start + 12) d) (slice start at d ++ (k.body ++ (slice at filled d ++ drop (grown filled k) d)))
      (omega (arith, length-take-le (start + 12) d (omega (arith, s.whole, length_old))))
      ∙ take-take start (start + 12) d (omega arith) ∙ sym (take-take start filled d (omega (arith, s.whole, length_old))))

  behind : drop (start + 12) opened ≡ slice start at d ++ (k.body ++ (slice at filled d ++ drop (grown filled k) d))
  behind =
      drop_at (take (start + 12) d) (slice start at d ++ (k.body ++ (slice at filled d ++ drop (grown filled k) d))) (start + 12)
      (length-take-le (start + 12) d (omega (arith, s.whole, length_old)))

  pub steps_put : contents_opened (count_of old) p (row_for 0 k) opened ≡ laid d 0 (bundle_of (put_at p k (records_of old)))
  steps_put =
      let size : length (bundle_of (put_at p k (records_of old))) ≡ grown filled k = size_put old s p k ∙ rw length_old in
      rw (size, contents_stay, behind, bundle_put old s p k, bodies_front, bodies_behind)
      (regroup (bytes_of 2 (count_of old + 1)) (bytes_of_rows (placed_from (start + 12) (put_at p (row_for 0 k) (contents_of old))))
      (bodies_for (take p (records_of old))) k.body (bodies_for (drop p (records_of old))) (drop (grown filled k) d))

-- what it leaves, from what the code knows
module _ (d : List ℕ) (filled n : ℕ) (h : filled ≤ length d) (e : check_of (take filled d) ≡ reads n) where
  pub steps_held : (k : Recorded) (p : ℕ) → grown filled k ≤ length d
      → contents_opened n p (row_for 0 k) (bodies_opened (first_offset n) (first_offset n + length (bodies_for (take p (records_of (take filled d))))) filled
      k.body d)
      ≡ laid d 0 (bundle_of (put_at p k (records_of (take filled d))))
  steps_held k p room = rw (accepted_sound (take filled d) n e).1 (steps_put d filled (accepted_sound (take filled d) n e).0 k p room)

  pub at_held : (k : Recorded) (p : ℕ) → grown filled k ≤ length d → first_offset n + length (bodies_for (take p (records_of (take filled d)))) ≤ filled
  at_held k p room = rw (accepted_sound (take filled d) n e).1 (at_inside d filled (accepted_sound (take filled d) n e).0 k p room)

-- where the bodies in front of a place end, as it is read from the row there
module _ (b : List ℕ) (n p : ℕ) (e : check_of b ≡ reads n) where
  abbrev sound : SoundBundle b
  sound = (accepted_sound b n e).0

  pub end_row : p < n → (unchecked_row b p).offset ≡ first_offset n + length (bodies_for (take p (records_of b)))
  end_row h = rw (row_there b p n e h, (accepted_sound b n e).1) (end_there b sound p (omega (arith, (accepted_sound b n e).1)))

  pub end_whole : p ≡ n → length b ≡ first_offset n + length (bodies_for (take p (records_of b)))
  end_whole h = rw (accepted_sound b n e).1 (end_last b sound p (h ∙ (accepted_sound b n e).1))
