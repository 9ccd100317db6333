-- The row that is read at a place of an accepted bundle, and what the bundle holds there.
use Prim.Native.Nat.{ℕ, suc, ◌+◌, ◌≤◌, ◌<◌}
use mathlib.Core.List.{List, ◌∷◌}
use mathlib.Core.Path.{◌≡◌, sym, ap, ◌∙◌}
use native.Mathlib.Omega.{arith}
use lib.ListN.{length, get_or, drop, length-drop, get_or-map}
use lib.Seq.{drop-cons, length-take-le}
use Rattle.base_rules.specs.Answers.{reads}
use Rattle.bundle_rows.specs.Rows.{first_offset, blank_row, unchecked_row, body_in}
use Rattle.bundle_rows.specs.declared.Row.{Row}
use Rattle.bundle_check.specs.Bundles.{most_bytes, contents_of, check_of}
use Rattle.bundle_check.specs.Records.{Recorded, records_of, bodies_for}
use Rattle.bundle_check.proofs.Laws.Accepted.{accepted_sound, row_there}
use Rattle.bundle_check.proofs.Laws.BodyLaws.{unchecked_inside}
use Rattle.bundle_check.proofs.Laws.HoldingLaws.{record_for, records_held, length_held, bodies_held, length_bodies}

module _ (b : List ℕ) (n : ℕ) (e : check_of b ≡ reads n) where
  pub held_count : length (records_of b) ≡ n
  held_count = let s = accepted_sound b n e in length_held b s.0 ∙ sym s.1

  -- the count, the rows and the bodies are all of it
  pub held_size : first_offset n + length (bodies_for (records_of b)) ≡ length b
  held_size = let s = accepted_sound b n e in omega (arith, s.1, ap length (bodies_held b s.0), length_bodies b s.0)

  pub held_fits : length b ≤ most_bytes
  held_fits = (accepted_sound b n e).0.fits

  module _ (i : ℕ) (h : i < n) where
    pub body_size : length (body_in b (unchecked_row b i)) ≡ (unchecked_row b i).length
    body_size =
        let r : Row = unchecked_row b i in
        length-take-le r.length (drop r.offset b) (omega (arith, unchecked_inside b i n e h, length-drop r.offset b))

    pub held_next : drop i (records_of b) ≡ record_for b (unchecked_row b i) ∷ drop (suc i) (records_of b)
    held_next =
        let s = (accepted_sound b n e).0 in
        let blank : Recorded = record_for b blank_row in
        drop-cons (records_of b) i blank (omega (arith, held_count))
        ∙ ap (λ (k : Recorded). k ∷ drop (suc i) (records_of b))
        (ap (λ (l : List Recorded). get_or l i blank) (records_held b s) ∙ get_or-map (record_for b) (contents_of b) i blank_row
        ∙ ap (record_for b) (sym (row_there b i n e h)))
