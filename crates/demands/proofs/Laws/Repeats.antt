-- Proofs of the statements of specs/Repeats.
use Prim.Native.Nat.{ℕ, ◌<◌}
use native.Mathlib.Omega.{arith}
use mathlib.Core.Bool.{Bool, true, false, true≢false, or-true}
use mathlib.Core.List.{List, [], ◌∷◌}
use mathlib.Core.Path.{◌≡◌, refl, sym, ◌∙◌}
use lib.Count.{ones_in}
use lib.Dec.{ltb, eqb}
use lib.ListN.{length}
use Rattle.base_rules.specs.Answers.{Answer, reads, refusal, refuse, follow}
use Rattle.base_rules.specs.Bytes.{Bytes}
use Rattle.base_characters.specs.Characters.{odd, carrier, chars}
use Rattle.base_digits.specs.Digits.{digits_of}
use Rattle.mbus_rules.specs.Entries.{read_entries}
use Rattle.base_characters.specs.Flips.{flip_bit, flips}
use Rattle.mbus_rules.specs.Headers.{wrong_header}
use Rattle.mbus_rules.specs.Lines.{read_body, read_line}
use Rattle.base_rules.specs.Lists.{any, total}
use Rattle.mbus_rules.specs.Moments.{wrong_moment}
use Rattle.mbus_rules.specs.Quantities.{quantity_of, width_of, paired}
use Rattle.mbus_rules.specs.Signs.{minus}
use Rattle.base_lent.specs.Lent.{needs}
use Rattle.base_lent.specs.Same.{same}
use Rattle.base_numbers.specs.Numbers.{number, bytes_of}
use Rattle.bundle_rows.specs.Rows.{rows_of, bytes_of_rows}
use Rattle.bundle_check.specs.Bundles.{check_of}
use Rattle.bundle_check.specs.Records.{Recorded, records_in, records_of, rows_for, bodies_for}
use Rattle.bundle_check.specs.Walks.{some_wrong, end_of}
use Rattle.run_counting.proofs.Laws.Walking.{record_there, length_records}
use Rattle.run_repeats.specs.Repeats.{same_parts, same_reading, first_same, earlier_after, earlier_rows, earlier_into}
use Rattle.run_repeats.specs.Meaning.{SameTelegrams}
use Rattle.run_repeats.proofs.Laws.Meaning as meaning
use Rattle.run_repeats.proofs.Laws.Naming as naming
use Rattle.run_repeats.proofs.Laws.Putting as putting
use Rattle.demands.specs.Refusals.{By, bundle_numbers}
use Rattle.demands.proofs.Laws.Refusals.{bundle_by}
use Rattle.demands.proofs.Laws.Settled.{equation, two_equations, gives_settled}
use Rattle.demands.specs.Repeats.{NumberForEachRow, SameReadingMeans, WhatIsNamed, WhereNoneIsNamed, NoReading, at, HeardTwice, BundleNamesIt}
use Rattle.demands.specs.Repeats.{RepeatsBy, RepeatsUnchanged, EarlierSettled, RepeatsSettled}
use Rattle.demands.specs.Repeats as sayings

pub number_for_each_row : NumberForEachRow
number_for_each_row ks = putting.length_earlier [] ks

module _ (b : List ℕ) (n : ℕ) (bytes : Bytes b) (accepted : check_of b ≡ reads n) where
  abbrev row : ℕ → Recorded
  row = sayings.row b n bytes accepted

  whole : (i : ℕ) → i < n → meaning.Whole (row i)
  whole i h = rw (record_there b i n accepted h) (meaning.row_whole b i n bytes accepted h)

  pub same_reading_means : SameReadingMeans b n bytes accepted
  same_reading_means i j h k = meaning.same_reading_lem (row i) (row j) (whole i h) (whole j k)

  module _ (i : ℕ) (inside : i < n) where
    there : i < length (records_of b)
    there = rw (length_records b n accepted) inside

    pub what_is_named : WhatIsNamed b n bytes accepted i inside
    what_is_named m e =
        let p = naming.earlier_named (records_of b) i there m e in
        (p.0, meaning.same_means (row m) (row i) p.1, λ l h. differ l (omega (arith, p.0)) (p.2 l h))
      where
        differ : (l : ℕ) → l < i → same_reading (row l) (row i) ≡ false → SameTelegrams (row l) (row i) → ⊥
        differ l h f s = true≢false (sym (meaning.means_same (row l) (row i) (whole l (omega arith)) (whole i inside) s) ∙ f)

    pub where_none_is_named : WhereNoneIsNamed b n bytes accepted i inside
    where_none_is_named e l h s =
        true≢false (sym (meaning.means_same (row l) (row i) (whole l (omega arith)) (whole i inside) s)
        ∙ naming.none_earlier (records_of b) i there e l h)

pub no_reading : NoReading
no_reading k = (meaning.sent_gives_none k, meaning.wake_gives_none k)

pub heard_twice : HeardTwice
unfolding earlier_after first_same same_reading same_parts same chars bytes_of read_line read_body read_entries any total odd carrier ones_in flips flip_bit wrong_header
    digits_of minus wrong_moment quantity_of width_of paired
heard_twice = refl

pub bundle_names_it : BundleNamesIt
unfolding earlier_into check_of number rows_of some_wrong end_of records_in rows_for bytes_of_rows bodies_for earlier_after first_same same_reading same_parts same chars
    bytes_of read_line read_body read_entries any total odd carrier ones_in flips flip_bit wrong_header digits_of minus wrong_moment quantity_of width_of paired
bundle_names_it = refl

pub repeats_by : RepeatsBy
unfolding By any earlier_into
repeats_by b rows = go (check_of b) (bundle_by b)
  where
    short : (t : Bool) (l : List ℕ) → By (21 ∷ bundle_numbers) (refuse 21 t (reads l))
    short true l = refl
    short false l = tt

    go : (a : Answer ℕ) → By bundle_numbers a → By (21 ∷ bundle_numbers) (follow a (λ n. needs n rows (reads (earlier_rows (records_of b)))))
    go (refusal n) p = rw (p, or-true (eqb n 21))
    go (reads n) p = short (ltb (length rows) n) (earlier_rows (records_of b))

pub repeats_unchanged : RepeatsUnchanged
repeats_unchanged n b rows after count r now e p = (rw e at p.gives.number, rw e at p.holds, rw e at p.gives.place)

pub earlier_settled : EarlierSettled
earlier_settled b before x y p q = two_equations _ _ x y (p.count, p.holds) (q.count, q.holds)

pub repeats_settled : RepeatsSettled
repeats_settled b rows count x y p q i =
    (gives_settled _ count x.0 y.0 p.gives q.gives i, equation _ x.1 y.1 p.holds q.holds i)
