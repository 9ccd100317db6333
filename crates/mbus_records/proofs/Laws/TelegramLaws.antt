-- Laws about the record of a telegram: what is written for a telegram is read as that telegram.
use Prim.Native.Nat.{ℕ, ◌+◌, ◌*◌, ◌^◌, ◌<◌}
use mathlib.Core.List.{List, [], ◌∷◌, ◌++◌}
use mathlib.Core.Path.{◌≡◌, refl, sym, ap, ap₂, ◌∙◌}
use native.Mathlib.Omega.{arith}
use lib.IntN.{ℤ}
use lib.ListN.{length, take, drop}
use lib.Seq.{take_at, drop_at, drop-drop}
use mir.Syntax.{w64}
use mir.Val.{SFits, of_z}
use mir.ValLaws.{of_z_fits, to_z-of_z}
use Rattle.mbus_rules.specs.declared.Value.{Value}
use Rattle.mbus_rules.specs.declared.Value.TheVariants.{Number, Time, Binary}
use Rattle.mbus_rules.specs.declared.Moment.{Moment}
use Rattle.mbus_rules.specs.declared.Entry.{Entry}
use Rattle.mbus_rules.specs.declared.Telegram.{Telegram}
use Rattle.base_rules.specs.Answers.{reads, refusal}
use Rattle.base_rules.specs.Lists.{at}
use Rattle.base_rules.proofs.Laws.ByteLaws.{byte_at}
use Rattle.mbus_telegrams.proofs.Laws.Kinds.{kind_read}
use Rattle.base_lent.proofs.Laws.PieceLaws.{pieces_length}
use Rattle.base_numbers.specs.Numbers.{number, bytes_of}
use Rattle.base_numbers.proofs.Laws.Numbers.{number_bytes}
use Rattle.base_numbers.proofs.Laws.NumberLaws.{bytes_read}
use Rattle.base_lent.specs.Recorded.{no_record}
use Rattle.base_lent.proofs.Laws.Recorded.{record_read, record_written, wrong_size}
use Rattle.mbus_records.specs.Telegrams.{value_record, entry_bytes, entries_bytes, telegram_bytes, entry_in, entry_at, entries_in, telegram_in, telegram_from}
use Rattle.mbus_records.specs.Sizes.{ValueFits, ValuesFit, TelegramFits}

-- ---- sizes

value_length : (v : Value) → length (value_record v) ≡ 8
unfolding bytes_of
value_length (Number d) = refl
value_length (Time m) = refl
value_length (Binary w) = refl

pub entry_length : (e : Entry) → length (entry_bytes e) ≡ 16
entry_length e = omega (arith, value_length e.value)

entries_length : (es : List Entry) → length (entries_bytes es) ≡ 16 * length es
entries_length es = pieces_length entry_bytes 16 entry_length es

pub telegram_length : (t : Telegram) → length t.entries ≡ 7 → length (telegram_bytes t) ≡ 136
unfolding telegram_bytes bytes_of
telegram_length t h = omega (arith, entries_length t.entries)

-- ---- a point in time as one word

pub moment_word : (m : Moment) {w : ℕ} → m.year < 256 → m.month < 256 → m.day < 256 → m.hour < 256 → m.minute < 256 → m.second < 256
    → m.weekday < 256
    → w ≡ m.year + 256 * m.month + 65536 * m.day + 16777216 * (m.hour + 256 * m.minute + 65536 * m.second) + 281474976710656 * m.weekday
    → bytes_of 8 w ≡ value_record (Time m)
unfolding number
moment_word m {w} y mo d h mi s wd e =
    let so : w ≡ number (value_record (Time m)) = omega (arith, e) in
    ap (bytes_of 8) so ∙ bytes_read (value_record (Time m)) (byte_at (value_record (Time m)) (y, (mo, (d, (h, (mi, (s, (wd, (omega arith, tt)))))))))

-- ---- what is written is read

word_small : (z : ℤ) → SFits w64 z → of_z w64 z < 256 ^ 8
word_small z h = omega (arith, (of_z_fits w64 z h).fits)

value_read : (a b : ℕ) (v : Value) → ValueFits v → entry_in (entry_bytes (record { structure = a; unit = b; value = v }))
    ≡ record { structure = a; unit = b; value = v }
unfolding bytes_of entry_in
value_read a b (Number d) h = rw (number_bytes 8 (of_z w64 d.count) (word_small d.count h), to_z-of_z w64 d.count h)
value_read a b (Time m) h = refl
value_read a b (Binary w) h = rw (number_bytes 8 (of_z w64 w.count) (word_small w.count h), to_z-of_z w64 w.count h)

entries_read : (es : List Entry) → ValuesFit es → entries_in (length es) (entries_bytes es) ≡ es
unfolding entries_in ValuesFit
entries_read [] h = refl
entries_read (e ∷ es) h =
    let front : take 16 (entry_bytes e ++ entries_bytes es) ≡ entry_bytes e = take_at (entry_bytes e) (entries_bytes es) 16 (entry_length e) in
    let rest : drop 16 (entry_bytes e ++ entries_bytes es) ≡ entries_bytes es = drop_at (entry_bytes e) (entries_bytes es) 16 (entry_length e) in
    ap₂ (λ (x : Entry) (l : List Entry). x ∷ l) (ap entry_in front ∙ value_read e.structure e.unit e.value h.0)
    (ap (entries_in (length es)) rest ∙ entries_read es h.1)

telegram_taken : (t : Telegram) → TelegramFits t → telegram_in (telegram_bytes t) ≡ t
unfolding telegram_in telegram_bytes bytes_of
telegram_taken t f =
    let entries : entries_in 7 (entries_bytes t.entries) ≡ t.entries = ap (λ (k : ℕ). entries_in k (entries_bytes t.entries)) (sym f.places)
    ∙ entries_read t.entries f.values in
    rw (
      kind_read t.kind,
      number_bytes 4 t.header.number f.number,
      number_bytes 2 t.header.maker f.maker,
      number_bytes 8 t.count
          f.count,
      entries,
    )

-- The record of every telegram reads as that telegram,
pub telegram_read : (t : Telegram) → TelegramFits t → telegram_from (telegram_bytes t) ≡ reads t
telegram_read t f = record_read telegram_bytes telegram_in t (telegram_taken t f)

-- and what is read is written as the same bytes.
pub telegram_written : (b : List ℕ) (t : Telegram) → telegram_from b ≡ reads t → telegram_bytes t ≡ b
telegram_written b t e = record_written telegram_bytes telegram_in b t e

-- ---- as the code takes them

pub value_listed : (v : Value)
    → at (value_record v) 0 ∷ at (value_record v) 1 ∷ at (value_record v) 2 ∷ at (value_record v) 3 ∷ at (value_record v) 4 ∷ at (value_record v) 5 ∷ at
    (value_record v) 6 ∷ at (value_record v) 7 ∷ [] ≡ value_record v
unfolding bytes_of
value_listed (Number d) = refl
value_listed (Time m) = refl
value_listed (Binary w) = refl

pub entries_listed : (b : List ℕ)
    → entry_at b 0 ∷ entry_at b 16 ∷ entry_at b 32 ∷ entry_at b 48 ∷ entry_at b 64 ∷ entry_at b 80 ∷ entry_at b 96 ∷ [] ≡ entries_in 7 b
unfolding entries_in
entries_listed b =
    let two : drop 16 (drop 16 b) ≡ drop 32 b = drop-drop 16 16 b in
    let three : drop 16 (drop 32 b) ≡ drop 48 b = drop-drop 16 32 b in
    let four : drop 16 (drop 48 b) ≡ drop 64 b = drop-drop 16 48 b in
    let five : drop 16 (drop 64 b) ≡ drop 80 b = drop-drop 16 64 b in
    let six : drop 16 (drop 80 b) ≡ drop 96 b = drop-drop 16 80 b in
    cc

taken_size : (b : List ℕ) → length (telegram_bytes (telegram_in b)) ≡ 136
unfolding telegram_in entries_in
taken_size b = telegram_length (telegram_in b) refl

-- no record of a telegram has another size
pub telegram_size : (b : List ℕ) → (length b ≡ 136 → ⊥) → telegram_from b ≡ refusal no_record
telegram_size b h = wrong_size telegram_bytes telegram_in 136 taken_size b h
