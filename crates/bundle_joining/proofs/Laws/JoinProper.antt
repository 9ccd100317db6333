-- What joining leaves is a bundle that the check accepts: it holds the rows of both by time.
use Prim.Native.Nat.{ℕ, ◌+◌, ◌≤◌}
use mathlib.Core.List.{List}
use mathlib.Core.Path.{◌≡◌, refl, sym}
use native.Mathlib.Omega.{arith}
use lib.ListN.{length}
use Rattle.base_rules.specs.Answers.{Answer, reads, refusal, refuse, follow}
use Rattle.base_rules.proofs.Laws.AnswerLaws.{reads_same}
use Rattle.base_rules.proofs.Laws.ByteLaws.{EachByte}
use Rattle.base_rules.proofs.Laws.Tests.{passed}
use Rattle.base_rules.proofs.Laws.TestLaws.{not_refused}
use Rattle.bundle_rows.specs.Rows.{most_rows, first_offset}
use Rattle.bundle_check.specs.Bundles.{most_bytes, check_of}
use Rattle.bundle_check.specs.Records.{Recorded, records_of, bodies_for}
use Rattle.bundle_check.proofs.Laws.Accepted.{accepted_sound}
use Rattle.bundle_check.proofs.Laws.HoldingLaws.{holdable_held, timely_held}
use Rattle.bundle_check.proofs.Laws.RecordLaws.{Timely, Holdable, length_bundle, held_back, holdable_accepted}
use Rattle.bundle_joining.specs.Joining.{by_time, joined_bundle, too_much, join_of}
use Rattle.bundle_joining.specs.Turns.{BothFit}
use Rattle.bundle_joining.proofs.Laws.ByTime.{by_time_length, by_time_bodies, by_time_fields, by_time_all, by_time_range}
use Rattle.bundle_joining.proofs.Laws.Joining.{both_rows, both_fit}

-- ---- what is known where it was done
pub record Merged (a b out : List ℕ) (filled : ℕ) : Type 0 where
  pub m : ℕ
  pub n : ℕ
  pub fit : BothFit a m b n out
  pub size : filled ≡ length (joined_bundle a b)

pub merged : (a b out : List ℕ) (filled : ℕ) → join_of a b out ≡ reads filled → Merged a b out filled
unfolding join_of
merged a b out filled e = go (check_of a) refl e
  where
    size : ℕ
    size = length (joined_bundle a b)

    last : ℕ → ℕ → Answer ℕ
    last m n = refuse 38 (too_much (m + n) size out) (reads size)

    on : (m : ℕ) → check_of a ≡ reads m → (s : Answer ℕ) → check_of b ≡ s → follow s (last m) ≡ reads filled → Merged a b out filled
    on m f (refusal k) g h = absurd (not_refused h)
    on m f (reads n) g h =
        let p = passed 38 (too_much (m + n) size out) (reads size) filled h in
        record { m = m; n = n; fit = both_fit a m b n f g out refl p.0; size = sym (reads_same p.1) }

    go : (s : Answer ℕ) → check_of a ≡ s → follow s (λ (m : ℕ). follow (check_of b) (last m)) ≡ reads filled → Merged a b out filled
    go (refusal k) f h = absurd (not_refused h)
    go (reads m) f h = on m f (check_of b) refl h

-- ---- rows that can be held and fit into one bundle can be held together
pub together : (ks ls : List Recorded) → Holdable ks → Holdable ls → length ks + length ls ≤ most_rows
    → first_offset (length ks + length ls) + (length (bodies_for ks) + length (bodies_for ls)) ≤ most_bytes → Holdable (by_time ks ls)
together ks ls g h few fits = record {
  few = omega (arith, by_time_length ks ls);
  fits = omega (arith, by_time_length ks ls, by_time_bodies ks ls);
  fields = by_time_fields ks ls 0 g.fields h.fields;
  timely = by_time_all Timely ks ls g.timely h.timely;
  range = by_time_range ks ls 0 0 g.fields h.fields g.range h.range;
}

pub held : (b : List ℕ) (n : ℕ) → check_of b ≡ reads n → EachByte b → Holdable (records_of b)
held b n e bytes = let s = (accepted_sound b n e).0 in holdable_held b s (timely_held b s bytes)

-- ---- the bundle of both
module _ (a b out : List ℕ) (filled : ℕ) (e : join_of a b out ≡ reads filled) (in-a : EachByte a) (in_b : EachByte b) where
  c : Merged a b out filled
  c = merged a b out filled e

  pub both_holdable : Holdable (by_time (records_of a) (records_of b))
  both_holdable =
      let rows = both_rows a c.m b c.n c.fit.first c.fit.second in
      let count = by_time_length (records_of a) (records_of b) in
      let bodies = by_time_bodies (records_of a) (records_of b) in
      let size = length_bundle (by_time (records_of a) (records_of b)) in
      together (records_of a) (records_of b) (held a c.m c.fit.first in-a) (held b c.n c.fit.second in_b) (omega (arith, c.fit.few, rows, count))
      (omega (arith, c.fit.fits, size, count, bodies))

  pub both_accepted : check_of (joined_bundle a b) ≡ reads (length (by_time (records_of a) (records_of b)))
  both_accepted = holdable_accepted (by_time (records_of a) (records_of b)) both_holdable

  pub both_holds : records_of (joined_bundle a b) ≡ by_time (records_of a) (records_of b)
  both_holds = held_back (by_time (records_of a) (records_of b)) both_holdable
