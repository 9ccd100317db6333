-- What is answered, by what the check answers and how many places there are.
use Prim.Native.Nat.{ℕ}
use mathlib.Core.Bool.{true, false}
use mathlib.Core.List.{List, []}
use mathlib.Core.Path.{◌≡◌}
use lib.Dec.{ltb}
use lib.ListN.{length}
use Rattle.base_rules.specs.Answers.{reads, refusal}
use Rattle.base_lent.specs.Lent.{stored}
use Rattle.std.specs.Prelude.{Ok, Err}
use Rattle.base_rules.specs.Shown.{refused_by}
use Rattle.bundle_check.specs.Bundles.{check_of}
use Rattle.bundle_check.specs.Records.{records_of}
use Rattle.run_counting.proofs.Laws.Walking.{length_records}
use Rattle.run_repeats.specs.Repeats.{earlier_rows, earlier_into, TellsEarlier}
use Rattle.run_repeats.proofs.Laws.Putting.{length_earlier}

module _ (b before : List ℕ) where
  pub earlier_refused : {k : ℕ} → check_of b ≡ refusal k → TellsEarlier b before (Err (refused_by k)) before
  unfolding earlier_into
  earlier_refused e = record { count = rw e; holds = rw e }

  pub earlier_short : {n : ℕ} → check_of b ≡ reads n → ltb (length before) n ≡ true → TellsEarlier b before (Err (refused_by 21)) before
  unfolding earlier_into
  earlier_short e h = record { count = rw (e, h); holds = rw (e, h) }

  pub earlier_reads : {n : ℕ} → check_of b ≡ reads n → ltb (length before) n ≡ false → earlier_into b before ≡ reads (earlier_rows (records_of b))
  unfolding earlier_into
  earlier_reads e h = rw (e, h)

  pub earlier_told : {n : ℕ} → check_of b ≡ reads n → ltb (length before) n ≡ false → {after : List ℕ}
      → after ≡ stored (λ numbers. numbers) before (reads (earlier_rows (records_of b))) → TellsEarlier b before (Ok n) after
  earlier_told {n} e h s = record {
    count = rw (earlier_reads e h, length_earlier [] (records_of b), length_records b n e);
    holds = rw (earlier_reads e h) s;
  }
