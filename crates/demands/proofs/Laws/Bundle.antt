-- Proofs of the statements of specs/Bundle.
use Prim.Native.Nat.{ℕ, zero, suc, ◌^◌, ◌<◌}
use mathlib.Core.List.{List, [], ◌∷◌}
use mathlib.Core.Path.{◌≡◌}
use lib.Dec.{lit<}
use lib.ListN.{get_or}
use Rattle.base_rules.specs.Answers.{reads}
use Rattle.bundle_check.specs.Records.{Recorded, records_of}
use Rattle.bundle_check.proofs.Laws.Accepted.{accepted_sound}
use Rattle.bundle_adding.specs.Adding.{add_of}
use Rattle.base_rules.specs.Bytes.{Bytes}
use Rattle.bundle_rows.specs.Lists.{All}
use Rattle.bundle_adding.proofs.Laws.AddingLaws
use Rattle.bundle_check.proofs.Laws.HoldingLaws.{bundle_whole}
use Rattle.demands.specs.Bundle.{WholeBundle, old, AddedAccepted, AddedHolds, AddedRows, AddedBodies, AddedBody}

-- each byte of a list of bytes, by its place
pub byte_at : (s : List ℕ) → Bytes s → (i : ℕ) → get_or s i 0 < 256
byte_at [] h i = lit< tt
byte_at (b ∷ s) h zero = h.0
byte_at (b ∷ s) h (suc i) = byte_at s h.1 i

pub whole_bundle : WholeBundle
whole_bundle b n bytes e = bundle_whole b (accepted_sound b n e).0 (byte_at b bytes)

module _ (buffer : List ℕ) (filled : ℕ) (k : Recorded) (n : ℕ) (added : add_of buffer filled k ≡ reads n) (bytes : Bytes buffer)
    (time : k.time < 256 ^ 4) where
  times : All (λ (q : Recorded). q.time < 256 ^ 4) (records_of (old buffer filled k n added bytes time))
  times = AddingLaws.bytes_timely buffer filled (AddingLaws.taken buffer filled k n added).rows (byte_at buffer bytes)
      (AddingLaws.taken buffer filled k n added).old

  pub added_accepted : AddedAccepted buffer filled k n added bytes time
  added_accepted = AddingLaws.add_accepted buffer filled k n added times time

  pub added_holds : AddedHolds buffer filled k n added bytes time
  added_holds = AddingLaws.add_records buffer filled k n added times time

  pub added_rows : AddedRows buffer filled k n added bytes time
  added_rows = AddingLaws.add_rows buffer filled k n added times time

  pub added_bodies : AddedBodies buffer filled k n added bytes time
  added_bodies = AddingLaws.add_bodies buffer filled k n added times time

  pub added_body : AddedBody buffer filled k n added bytes time
  added_body = AddingLaws.add_body buffer filled k n added times time
