-- The bundle with a row more, byte by byte, and that the steps of adding leave it.
use Prim.Native.Nat.{ℕ, ◌+◌, ◌≤◌}
use mathlib.Core.List.{List, [], ◌∷◌, ◌++◌, append_assoc}
use mathlib.Core.Path.{◌≡◌, sym, ap, ◌∙◌}
use native.Mathlib.Omega.{arith}
use lib.ListN.{length, take, drop, length-append}
use lib.Seq.{length-take-le, slice, drop_at, take-append-le, take-take}
use Rattle.base_rules.specs.Answers.{reads}
use Rattle.base_numbers.specs.Numbers.{bytes_of}
use Rattle.base_lent.specs.Copying.{laid}
use Rattle.bundle_rows.proofs.Laws.RowLaws.{rows_bytes_append, one_row, rows_same}
use Rattle.bundle_rows.specs.Rows.{most_rows, rows_of, first_offset, bytes_of_row, bytes_of_rows}
use Rattle.bundle_check.proofs.Laws.Accepted.{SoundBundle, accepted_sound}
use Rattle.bundle_check.specs.Bundles.{most_bytes, count_of, contents_of, bodies_of, check_of}
use Rattle.bundle_check.proofs.Laws.HoldingLaws.{length_bodies, length_held, bodies_held, rows_held}
use Rattle.bundle_check.proofs.Laws.RecordLaws.{rows_for_last, bodies_for_last, length_bundle}
use Rattle.bundle_check.specs.Records.{Recorded, records_of, row_for, rows_for, bodies_for, bundle_of, placed_from}
use Rattle.bundle_adding.specs.Adding.{grown, buffer_after}
use Rattle.bundle_adding.specs.Writing.{bodies_moved, contents_grown}

-- the bundle of what a sound bundle holds and one more: the row is last, the bodies have moved by 12
module _ (b : List ℕ) (s : SoundBundle b) (k : Recorded) where
  abbrev n : ℕ
  n = count_of b

  pub one_more : length (records_of b ++ (k ∷ [])) ≡ n + 1
  one_more = omega (arith, length-append (records_of b) (k ∷ []), length_held b s)

  pub rows_grown : rows_for (first_offset (n + 1)) (records_of b ++ (k ∷ [])) ≡ placed_from (first_offset n + 12) (contents_of b) ++ (row_for (length b + 12) k ∷ [])
  rows_grown =
      let next : first_offset (n + 1) ≡ first_offset n + 12 = omega arith in
      let last : first_offset n + 12 + length (bodies_for (records_of b)) ≡ length b + 12 = omega (arith, length_bodies b s, ap length (bodies_held b s)) in
      rw (next, rows_for_last (first_offset n + 12) (records_of b) k, last, rows_held b s (first_offset n + 12))

  pub bodies_grown : bodies_for (records_of b ++ (k ∷ [])) ≡ bodies_of b ++ k.body
  bodies_grown = bodies_for_last (records_of b) k ∙ ap (λ (l : List ℕ). l ++ k.body) (bodies_held b s)

  pub size_grown : length (bundle_of (records_of b ++ (k ∷ []))) ≡ length b + 12 + length k.body
  size_grown =
      omega (arith, length_bundle (records_of b ++ (k ∷ [])), one_more, ap length bodies_grown, length-append (bodies_of b) k.body, length_bodies b s)

  pub bundle_grown : bundle_of (records_of b ++ (k ∷ []))
      ≡ bytes_of 2 (n + 1) ++ (bytes_of_rows (placed_from (first_offset n + 12) (contents_of b))
      ++ (bytes_of_row (row_for (length b + 12) k) ++ (bodies_of b ++ k.body)))
  bundle_grown =
      rw (
        one_more,
        rows_grown,
        bodies_grown,
        rows_bytes_append (placed_from (first_offset n + 12) (contents_of b)) (row_for (length b + 12) k ∷ []),
        one_row (row_for (length b + 12) k),
      )
      (ap (λ (l : List ℕ). bytes_of 2 (n + 1) ++ l)
      (append_assoc (bytes_of_rows (placed_from (first_offset n + 12) (contents_of b))) (bytes_of_row (row_for (length b + 12) k)) (bodies_of b ++ k.body)))

regroup : (c r b x y t : List ℕ) → c ++ (r ++ (b ++ (x ++ (y ++ t)))) ≡ (c ++ (r ++ (b ++ (x ++ y)))) ++ t
regroup c r b x y t = simp append_assoc

-- ---- what the steps leave, for a bundle that fills the first bytes of a buffer
module _ (d : List ℕ) (filled : ℕ) (s : SoundBundle (take filled d)) (k : Recorded) (room : grown filled k ≤ length d) where
  abbrev old : List ℕ
  old = take filled d

  abbrev first : ℕ
  first = first_offset (count_of old)

  pub length_old : length old ≡ filled
  length_old = length-take-le filled d (omega arith)

  contents_stay : rows_of (count_of old) (drop 2 (bodies_moved first filled k.body d)) ≡ contents_of old
  contents_stay =
      rows_same (count_of old) (bodies_moved first filled k.body d) old
      (take-append-le first (take (first + 12) d) (slice first filled d ++ (k.body ++ drop (grown filled k) d))
      (omega (arith, length-take-le (first + 12) d (omega (arith, s.whole, length_old))))
      ∙ take-take first (first + 12) d (omega arith) ∙ sym (take-take first filled d (omega (arith, s.whole, length_old))))

  behind : drop (first + 12) (bodies_moved first filled k.body d) ≡ bodies_of old ++ (k.body ++ drop (grown filled k) d)
  behind =
      drop_at (take (first + 12) d) (slice first filled d ++ (k.body ++ drop (grown filled k) d)) (first + 12)
      (length-take-le (first + 12) d (omega (arith, s.whole, length_old)))

  pub steps_grown : contents_grown (count_of old) (row_for (filled + 12) k) (bodies_moved first filled k.body d)
      ≡ laid d 0 (bundle_of (records_of old ++ (k ∷ [])))
  steps_grown =
      let size : length (bundle_of (records_of old ++ (k ∷ []))) ≡ grown filled k = size_grown old s k ∙ rw length_old in
      rw (size, contents_stay, behind, bundle_grown old s k, length_old)
      (regroup (bytes_of 2 (count_of old + 1)) (bytes_of_rows (placed_from (first + 12) (contents_of old))) (bytes_of_row (row_for (filled + 12) k))
      (bodies_of old) k.body (drop (grown filled k) d))

-- what the code asks for on the way, and what it leaves
module _ (d : List ℕ) (filled n : ℕ) (h : filled ≤ length d) (e : check_of (take filled d) ≡ reads n) where
  pub old_most : filled ≤ most_bytes
  old_most = omega (arith, (accepted_sound (take filled d) n e).0.fits, length-take-le filled d h)

  pub old_rows : n ≤ most_rows
  old_rows = omega (arith, accepted_sound (take filled d) n e)

  pub old_first : first_offset n ≤ filled
  old_first = omega (arith, accepted_sound (take filled d) n e, length-take-le filled d h)

  pub steps_held : (k : Recorded) → grown filled k ≤ length d
      → contents_grown n (row_for (filled + 12) k) (bodies_moved (first_offset n) filled k.body d) ≡ buffer_after (reads (grown filled k)) d filled k
  steps_held k room = rw (accepted_sound (take filled d) n e).1 (steps_grown d filled (accepted_sound (take filled d) n e).0 k room)
