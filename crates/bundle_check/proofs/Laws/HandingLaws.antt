-- What is answered of rows and bodies, by what the check answers.
use Prim.Native.Nat.{ℕ, ◌+◌, ◌≤◌, ◌<◌}
use mathlib.Core.Bool.{Bool, true, false}
use mathlib.Core.List.{List}
use mathlib.Core.Path.{◌≡◌, refl, sym, ap, ◌∙◌}
use native.Mathlib.Omega.{arith}
use borrow.Author.Tests.{lt-leb, le-leb, leb-false}
use lib.Dec.{leb}
use lib.ListN.{length, get_or}
use Rattle.base_rules.specs.Answers.{Answer, reads, refusal, refuse, within, follow}
use Rattle.base_rules.proofs.Laws.TestLaws.{not_refused}
use Rattle.bundle_rows.specs.declared.Row.{Row}
use Rattle.bundle_rows.specs.Rows.{blank_row, unchecked_row}
use Rattle.bundle_check.specs.Bundles.{contents_of, check_of}
use Rattle.bundle_check.proofs.Laws.Accepted.{accepted_sound, body_inside, row_there}
use Rattle.bundle_check.specs.Handing.{row_at, body_at, place_of}
use Rattle.bundle_check.specs.declared.rows.BodyPlace.{BodyPlace}

-- What is answered of a row: the check's refusal, 39, or the row.
module _ (b : List ℕ) (i : ℕ) where
  pub row_refused : (k : ℕ) → check_of b ≡ refusal k → row_at b i ≡ refusal k
  unfolding row_at
  row_refused k e = rw e

  pub row_none : (n : ℕ) → check_of b ≡ reads n → n ≤ i → row_at b i ≡ refusal 39
  unfolding row_at
  row_none n e h = rw (e, le-leb n i h)

  pub row_reads : (n : ℕ) → check_of b ≡ reads n → i < n → row_at b i ≡ reads (get_or (contents_of b) i blank_row)
  unfolding row_at
  row_reads n e h = rw (e, lt-leb n i h)

  -- the row as it is read without the check
  pub row_unchecked : (n : ℕ) → check_of b ≡ reads n → i < n → row_at b i ≡ reads (unchecked_row b i)
  row_unchecked n e h = row_reads n e h ∙ ap reads (sym (row_there b i n e h))

  -- the body of a row that is found lies inside the bundle
  pub found_inside : (r : Row) → row_at b i ≡ reads r → r.offset + r.length ≤ length b
  unfolding row_at
  found_inside r e = go (check_of b) refl e
    where
      pick : (n : ℕ) (t : Bool) → check_of b ≡ reads n → leb n i ≡ t → refuse 39 t (reads (get_or (contents_of b) i blank_row)) ≡ reads r
          → r.offset + r.length ≤ length b
      pick n true f h g = absurd (not_refused g)
      pick n false f h g =
          let s = accepted_sound b n f in
          let same : r ≡ get_or (contents_of b) i blank_row = cc in
          rw same (body_inside b i s.0 (omega (arith, leb-false n i h, s.1)))

      go : (a : Answer ℕ) → check_of b ≡ a → follow a (λ n. refuse 39 (leb n i) (reads (get_or (contents_of b) i blank_row))) ≡ reads r
          → r.offset + r.length ≤ length b
      go (refusal k) f g = absurd (not_refused g)
      go (reads n) f g = pick n (leb n i) f refl g

  pub place_inside : (p : BodyPlace) → body_at b i ≡ reads p → p.offset + p.size ≤ length b
  place_inside p e = go (row_at b i) refl e
    where
      go : (a : Answer Row) → row_at b i ≡ a → within place_of a ≡ reads p → p.offset + p.size ≤ length b
      go (refusal k) f g = absurd (not_refused g)
      go (reads r) f g =
          let same : place_of r ≡ p = cc in
          rw (← same) (found_inside r f)
