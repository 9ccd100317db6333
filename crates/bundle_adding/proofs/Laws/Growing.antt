-- Where no row is later, inserting does what adding does.
use Prim.Native.Nat.{ℕ, ◌≤◌}
use mathlib.Core.List.{List}
use mathlib.Core.Path.{◌≡◌, refl, sym, ap, ◌∙◌}
use lib.ListN.{length, take}
use Rattle.base_rules.specs.Answers.{Answer, reads, refusal}
use Rattle.base_lent.specs.Copying.{laid}
use Rattle.bundle_check.specs.Bundles.{contents_of, bodies_of, check_of}
use Rattle.bundle_check.specs.Records.{Recorded, records_of, bundle_of}
use Rattle.bundle_check.proofs.Laws.Accepted.{accepted_sound}
use Rattle.bundle_check.proofs.Laws.BodyLaws.{times_end}
use Rattle.bundle_check.proofs.Laws.HoldingLaws.{length_held}
use Rattle.bundle_adding.specs.Adding.{last_time, buffer_after}
use Rattle.bundle_adding.specs.Inserting.{buffer_inserted}
use Rattle.bundle_adding.proofs.Laws.InsertingLaws.{put_last}

-- there is a record for each row
pub count_held : (b : List ℕ) (n : ℕ) → check_of b ≡ reads n → n ≡ length (records_of b)
count_held b n e = (accepted_sound b n e).1 ∙ sym (length_held b (accepted_sound b n e).0)

module _ (buffer : List ℕ) (filled : ℕ) (k : Recorded) where
  abbrev old : List ℕ
  old = take filled buffer

  -- where no row is later, the row stands last
  pub last_held : last_time (contents_of old) ≤ k.time → (a : Answer ℕ) → buffer_inserted a buffer filled k ≡ buffer_after a buffer filled k
  last_held h (refusal m) = refl
  last_held h (reads m) =
      ap (λ (ks : List Recorded). laid buffer 0 (bundle_of ks)) (put_last k (records_of old) (rw (times_end 0 (contents_of old) (bodies_of old)) h))
