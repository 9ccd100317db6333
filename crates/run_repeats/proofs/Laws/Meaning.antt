-- What it means that two rows give the same reading, and which rows give none.
use Prim.Native.Nat.{ℕ, ◌-◌, ◌%◌, ◌≤◌, ◌<◌}
use mathlib.Core.Bool.{true, false, not}
use mathlib.Core.List.{List, [], ◌∷◌}
use mathlib.Core.Logic.{◌↔◌}
use mathlib.Core.Path.{◌≡◌, ap}
use native.Mathlib.Omega.{arith}
use borrow.Author.Tests.{ltb-false, not-true}
use lib.Dec.{ltb}
use lib.ListN.{length, drop, length-drop}
use lib.Seq.{length-take-le}
use Rattle.mbus_rules.specs.declared.Kind.TheVariants.{Data}
use Rattle.mbus_rules.specs.declared.Telegram.{Telegram}
use Rattle.base_rules.specs.Answers.{reads}
use Rattle.base_rules.specs.Bytes.{Bytes}
use Rattle.base_characters.specs.Characters.{chars}
use Rattle.mbus_rules.specs.Lines.{read_line}
use Rattle.base_rules.specs.Lists.{any}
use Rattle.base_rules.proofs.Laws.ByteLaws.{bytes_take, bytes_drop}
use Rattle.mbus_rules.proofs.Laws.RoundTrip.{read_then_write, longest_line}
use Rattle.base_rules.proofs.Laws.Tests.{by_test, neither}
use Rattle.base_rules.proofs.Laws.TestLaws.{every}
use Rattle.bench_clock.specs.Wakes.{wake_least, wake_most, outside_wake, no_wake, is_wake}
use Rattle.base_lent.specs.Same.{same}
use Rattle.base_lent.proofs.Laws.Same.{same_equal, same_itself}
use Rattle.bundle_rows.specs.Rows.{unchecked_row}
use Rattle.bundle_check.specs.Bundles.{check_of}
use Rattle.bundle_check.specs.Records.{Recorded}
use Rattle.bundle_check.proofs.Laws.BodyLaws.{unchecked_right}
use Rattle.run_counting.specs.Counting.{is_sent}
use Rattle.run_counting.specs.Ears.{row_in}
use Rattle.run_repeats.specs.Repeats.{gives_reading, number_part, entries_part, same_parts, same_reading}
use Rattle.run_repeats.specs.Meaning.{SameTelegrams}
use Rattle.run_repeats.proofs.Laws.DataLines.{DataLine, gives_line, gives_long, body_length}
use Rattle.run_repeats.proofs.Laws.Pairs.{chars_same}
use Rattle.run_repeats.proofs.Laws.Parts.{same_number, same_entries, number_same, entries_same}

-- ---- which rows give a reading

-- a row that was heard and reads as data
pub heard_gives : (k : Recorded) (t : Telegram) → is_sent k ≡ false → read_line (chars k.body) ≡ reads t → t.kind ≡ Data → gives_reading k ≡ true
heard_gives k t h r e = rw (h, r, e)

-- a sent row gives none
pub sent_gives_none : (k : Recorded) → is_sent k ≡ true → gives_reading k ≡ false
sent_gives_none k e = rw e

-- a wake-up gives none: it is longer than any line
pub wake_gives_none : (k : Recorded) → is_wake (chars k.body) ≡ true → gives_reading k ≡ false
unfolding is_wake
wake_gives_none k e = by_test (gives_reading k) (λ g. absurd (too_long (gives_line k g).1)) (λ g. g)
  where
    too_long : DataLine (chars k.body) → ⊥
    too_long d =
        let s : List ℕ = chars k.body in
        let w = every (not (outside_wake (length s))) (not (any no_wake s) ∷ []) e in
        let inside = neither (ltb (length s) wake_least) (ltb wake_most (length s)) (not-true (outside_wake (length s)) w.0) in
        let least : wake_least ≤ length s = ltb-false (length s) wake_least inside.0 in
        let r = read_then_write s d.telegram d.read in
        omega (arith, longest_line d.telegram r.writable, ap length r.same)

-- ---- two rows that give the same

-- the body of a row holds bytes, two for each character
pub record Whole (k : Recorded) : Type 0 where
  pub bytes : Bytes k.body
  pub even : length k.body % 2 ≡ 0

pub row_whole : (b : List ℕ) (i n : ℕ) → Bytes b → check_of b ≡ reads n → i < n → Whole (row_in b i)
row_whole b i n bytes e h = record {
  bytes = bytes_take (unchecked_row b i).length (drop (unchecked_row b i).offset b) (bytes_drop (unchecked_row b i).offset b bytes);
  even = rw (body_length b i n e h) (unchecked_right b i n e h).size_even;
}

module _ (j k : Recorded) where
  pub same_means : same_reading j k ≡ true → SameTelegrams j k
  unfolding same_reading same_parts
  same_means e =
      let p = every (gives_reading j) (gives_reading k ∷ same_parts j.body k.body ∷ []) e in
      let q = every (same (number_part j.body) (number_part k.body)) (same (entries_part j.body) (entries_part k.body) ∷ []) p.1.1.0 in
      let d = gives_line j p.0 in
      let f = gives_line k p.1.0 in
      record {
        first = d.1.telegram;
        second = f.1.telegram;
        heard = (d.0, f.0);
        read = (d.1.read, f.1.read);
        kinds = (d.1.kind, f.1.kind);
        number = same_number j.body k.body d.1 f.1 (ap chars (same_equal (number_part j.body) (number_part k.body) q.0));
        entries = same_entries j.body k.body d.1 f.1 (ap chars (same_equal (entries_part j.body) (entries_part k.body) q.1.0));
      }

  module _ (v : Whole j) (w : Whole k) where
    parts_whole : (k : Recorded) → Whole k → gives_reading k ≡ true
        → (Bytes (number_part k.body) × (length (number_part k.body) % 2 ≡ 0)) × (Bytes (entries_part k.body) × (length (entries_part k.body) % 2 ≡ 0))
    parts_whole k w g =
        let long : 82 ≤ length k.body = gives_long k g in
        let even : length k.body % 2 ≡ 0 = w.even in
        let eight : length (number_part k.body) ≡ 8 = length-take-le 8 (drop 14 k.body) (omega (arith, length-drop 14 k.body)) in
        let rest : length (entries_part k.body) ≡ length k.body - 4 - 38 =
        length-take-le (length k.body - 4 - 38) (drop 38 k.body) (omega (arith, length-drop 38 k.body)) in (
          (bytes_take 8 (drop 14 k.body) (bytes_drop 14 k.body w.bytes), omega arith),
          (bytes_take (length k.body - 4 - 38) (drop 38 k.body) (bytes_drop 38 k.body w.bytes), omega arith),
        )

    pub means_same : SameTelegrams j k → same_reading j k ≡ true
    unfolding same_reading same_parts
    means_same m =
        let a : gives_reading j ≡ true = heard_gives j m.first m.heard.0 m.read.0 m.kinds.0 in
        let b : gives_reading k ≡ true = heard_gives k m.second m.heard.1 m.read.1 m.kinds.1 in
        let d : DataLine (chars j.body) = record { telegram = m.first; read = m.read.0; kind = m.kinds.0 } in
        let f : DataLine (chars k.body) = record { telegram = m.second; read = m.read.1; kind = m.kinds.1 } in
        let p = parts_whole j v a in
        let q = parts_whole k w b in
        let number : number_part j.body ≡ number_part k.body =
        chars_same (number_part j.body) (number_part k.body) p.0.0 q.0.0 p.0.1 q.0.1 (number_same j.body k.body d f m.number) in
        let entries : entries_part j.body ≡ entries_part k.body =
        chars_same (entries_part j.body) (entries_part k.body) p.1.0 q.1.0 p.1.1 q.1.1
        (entries_same j.body k.body d f m.entries) in
        rw (a, b, number, entries, same_itself (number_part k.body), same_itself (entries_part k.body))

    pub same_reading_lem : (same_reading j k ≡ true) ↔ SameTelegrams j k
    same_reading_lem = (same_means, means_same)
