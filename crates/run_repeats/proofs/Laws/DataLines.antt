-- A row that gives a reading: its line is what is written for a data telegram, and so long enough for meter number and entries.
use Prim.Native.Nat.{ℕ, ◌+◌, ◌-◌, ◌≤◌, ◌<◌}
use mathlib.Core.Bool.{Bool, true, false, not, ◌&&◌, false≢true}
use mathlib.Core.List.{List, map}
use mathlib.Core.Path.{◌≡◌, refl, sym, ap, ◌∙◌}
use native.Mathlib.Omega.{arith}
use lib.ListN.{length, take, drop, length-map, length-drop}
use lib.Seq.{length-take-le}
use Rattle.mbus_rules.specs.declared.Kind.{Kind}
use Rattle.mbus_rules.specs.declared.Kind.TheVariants as kinds
use Rattle.mbus_rules.specs.declared.Telegram.{Telegram}
use Rattle.base_rules.specs.Answers.{Answer, reads, refusal}
use Rattle.base_characters.specs.Characters.{carrier, chars}
use Rattle.mbus_rules.specs.Lines.{read_line}
use Rattle.mbus_rules.specs.Outlines.{outline_of, outlined}
use Rattle.mbus_rules.specs.Writing.{entries_of, bytes_of_kind, line_of, wrong_for, unwritable}
use Rattle.base_characters.specs.Closing.{closed}
use Rattle.base_characters.proofs.Laws.Closing.{closed_length}
use Rattle.mbus_rules.proofs.Laws.LineLaws.{data_bytes}
use Rattle.mbus_rules.proofs.Laws.RoundTrip.{read_then_write, data_lengths}
use Rattle.base_characters.proofs.Laws.PairLaws.{length_characters}
use Rattle.bundle_rows.specs.declared.Row.{Row}
use Rattle.bundle_rows.specs.Rows.{unchecked_row}
use Rattle.bundle_rows.proofs.Laws.CharacterLaws.{body_whole}
use Rattle.bundle_check.specs.Bundles.{check_of}
use Rattle.bundle_check.specs.Records.{Recorded}
use Rattle.bundle_check.proofs.Laws.BodyLaws.{unchecked_inside}
use Rattle.run_counting.specs.Counting.{is_sent, row_outline}
use Rattle.run_counting.specs.Ears.{row_in}
use Rattle.run_repeats.specs.Repeats.{tells_data, gives_reading}
use Rattle.run_repeats.specs.Marks.{DataAt}

-- the telegram of a line that reads as data
pub record DataLine (s : List ℕ) : Type 0 where
  pub telegram : Telegram
  pub read : read_line s ≡ reads telegram
  pub kind : telegram.kind ≡ kinds.Data

data_kind : (k : Kind) (address method : ℕ) → tells_data (outline_of k address method) ≡ true → k ≡ kinds.Data
data_kind kinds.Ack a m e = absurd (false≢true e)
data_kind kinds.Read a m e = absurd (false≢true e)
data_kind kinds.Enter a m e = absurd (false≢true e)
data_kind kinds.Leave a m e = absurd (false≢true e)
data_kind kinds.Data a m e = refl

pub data_line : (s : List ℕ) → tells_data (outlined (read_line s)) ≡ true → DataLine s
data_line s e = go (read_line s) refl e
  where
    go : (a : Answer Telegram) → read_line s ≡ a → tells_data (outlined a) ≡ true → DataLine s
    go (refusal n) r f = absurd (false≢true f)
    go (reads t) r f = record { telegram = t; read = r; kind = data_kind t.kind t.address t.method f }

module _ {s : List ℕ} (d : DataLine s) where
  abbrev t : Telegram
  t = d.telegram

  pub data_written : s ≡ map carrier (bytes_of_kind kinds.Data t)
  unfolding line_of
  data_written = (read_then_write s t d.read).same ∙ ap (λ (k : Kind). map carrier (bytes_of_kind k t)) d.kind

  pub data_right : wrong_for kinds.Data t ≡ false
  unfolding unwritable
  data_right = ap (λ (k : Kind). wrong_for k t) (sym d.kind) ∙ (read_then_write s t d.read).writable

  -- 35 bytes at least from C up to before CS, and six around them
  pub data_least : 41 ≤ length s
  data_least =
      let f : List ℕ = data_bytes t.address t.header (entries_of t) in
      let n : length s ≡ length (bytes_of_kind kinds.Data t) = ap length data_written ∙ length-map (bytes_of_kind kinds.Data t) carrier in
      let c : length (closed f) ≡ length f + 2 = closed_length f in
      let least : 35 ≤ length f = (data_lengths t data_right).0 in
      omega arith

-- ---- rows

pub gives_line : (k : Recorded) → gives_reading k ≡ true → (is_sent k ≡ false) × DataLine (chars k.body)
gives_line k e = go (is_sent k) (tells_data (row_outline k)) refl refl e
  where
    go : (sent tells : Bool) → is_sent k ≡ sent → tells_data (row_outline k) ≡ tells → not sent && tells ≡ true → (is_sent k ≡ false) × DataLine (chars k.body)
    go true tells p q f = absurd (false≢true f)
    go false true p q f = (p, data_line (chars k.body) q)
    go false false p q f = absurd (false≢true f)

pub gives_long : (k : Recorded) → gives_reading k ≡ true → 82 ≤ length k.body
gives_long k e = omega (arith, data_least (gives_line k e).1, length_characters k.body)

-- what a body in a bundle has, where it lies there
pub body_length : (b : List ℕ) (i n : ℕ) → check_of b ≡ reads n → i < n → length (row_in b i).body ≡ (unchecked_row b i).length
body_length b i n e h =
    let inside = unchecked_inside b i n e h in
    length-take-le (unchecked_row b i).length (drop (unchecked_row b i).offset b) (omega (arith, length-drop (unchecked_row b i).offset b))

-- the stretch of a row's body, as it is lent
pub part_long : (b : List ℕ) (r : Row) → r.offset + r.length ≤ length b → 42 ≤ r.length
    → 42 ≤ length (take (r.offset + r.length - r.offset) (drop r.offset b))
part_long b r inside long =
    rw (body_whole b r, length-take-le r.length (drop r.offset b) (omega (arith, length-drop r.offset b))) long

pub gives_at : (b : List ℕ) (i n : ℕ) → check_of b ≡ reads n → i < n → gives_reading (row_in b i) ≡ true → DataAt b i
gives_at b i n e h g = record {
  inside = unchecked_inside b i n e h;
  long = omega (arith, gives_long (row_in b i) g, body_length b i n e h);
}
