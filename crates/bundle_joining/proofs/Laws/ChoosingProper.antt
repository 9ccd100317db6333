-- What choosing leaves is a bundle that the check accepts: it holds what the other held of the position.
use Prim.Native.Nat.{ℕ, ◌≤◌}
use mathlib.Core.Bool.{false}
use mathlib.Core.List.{List}
use mathlib.Core.Path.{◌≡◌, refl, sym}
use native.Mathlib.Omega.{arith}
use borrow.Author.Tests.{ltb-false}
use lib.Dec.{ltb}
use lib.ListN.{length}
use Rattle.base_rules.specs.Answers.{Answer, reads, refusal, refuse, follow}
use Rattle.base_rules.proofs.Laws.AnswerLaws.{reads_same}
use Rattle.base_rules.proofs.Laws.ByteLaws.{EachByte}
use Rattle.base_rules.proofs.Laws.Tests.{passed}
use Rattle.base_rules.proofs.Laws.TestLaws.{not_refused}
use Rattle.bundle_rows.specs.Fields.{wrong_position}
use Rattle.bundle_check.specs.Bundles.{check_of}
use Rattle.bundle_check.specs.Records.{records_of}
use Rattle.bundle_check.proofs.Laws.Accepted.{accepted_sound}
use Rattle.bundle_check.proofs.Laws.HoldingLaws.{holdable_held, timely_held}
use Rattle.bundle_check.proofs.Laws.RecordLaws.{Holdable, held_back, holdable_accepted}
use Rattle.bundle_sweep.proofs.Laws.Proper.{fields_left, timely_left, range_left}
use Rattle.bundle_joining.specs.Choosing.{elsewhere, of_position, position_bundle, choosing_of}
use Rattle.bundle_joining.proofs.Laws.Choosing.{own_few, own_below}

-- ---- what is known where it was done
pub record Chose (b : List ℕ) (position : ℕ) (out : List ℕ) (n : ℕ) : Type 0 where
  pub rows : ℕ
  pub accepted : check_of b ≡ reads rows
  pub named : wrong_position position ≡ false
  pub room : length (position_bundle position b) ≤ length out
  pub size : n ≡ length (position_bundle position b)

pub chose : (b : List ℕ) (position : ℕ) (out : List ℕ) (n : ℕ) → choosing_of b position out ≡ reads n → Chose b position out n
unfolding choosing_of
chose b position out n e = go (check_of b) refl e
  where
    short : Answer ℕ
    short = refuse 38 (ltb (length out) (length (position_bundle position b))) (reads (length (position_bundle position b)))

    go : (a : Answer ℕ) → check_of b ≡ a → follow a (λ (m : ℕ). refuse 34 (wrong_position position) short) ≡ reads n → Chose b position out n
    go (refusal m) f g = absurd (not_refused g)
    go (reads m) f g =
        let p = passed 34 (wrong_position position) short n g in
        let q = passed 38 (ltb (length out) (length (position_bundle position b))) (reads (length (position_bundle position b))) n p.1 in
        record {
          rows = m;
          accepted = f;
          named = p.0;
          room = ltb-false (length out) (length (position_bundle position b)) q.0;
          size = sym (reads_same q.1);
        }

-- ---- the bundle of a position
module _ (position : ℕ) (b : List ℕ) (n : ℕ) (e : check_of b ≡ reads n) (bytes : EachByte b) where
  held : Holdable (records_of b)
  held = let s = (accepted_sound b n e).0 in holdable_held b s (timely_held b s bytes)

  pub own_holdable : Holdable (of_position position (records_of b))
  own_holdable = record {
    few = own_few position b n e;
    fits = own_below position b n e;
    fields = fields_left (elsewhere position) 0 0 (records_of b) (omega arith) held.fields;
    timely = timely_left (elsewhere position) (records_of b) held.timely;
    range = range_left (elsewhere position) 0 (records_of b) held.fields held.range;
  }

  pub own_accepted : check_of (position_bundle position b) ≡ reads (length (of_position position (records_of b)))
  own_accepted = holdable_accepted (of_position position (records_of b)) own_holdable

  pub own_holds : records_of (position_bundle position b) ≡ of_position position (records_of b)
  own_holds = held_back (of_position position (records_of b)) own_holdable
