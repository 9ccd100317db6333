-- The parts of a line of data: the characters of its meter number and of its entries carry what is written for the telegram's.
use Prim.Native.Nat.{ℕ, ◌+◌, ◌-◌, ◌/◌, ◌%◌, ◌<◌}
use mathlib.Core.Bool.{not}
use mathlib.Core.List.{List, [], ◌∷◌, ◌++◌, map}
use mathlib.Core.Path.{◌≡◌, refl, sym, ap, ◌∙◌}
use native.Mathlib.Omega.{arith}
use borrow.Author.Tests.{ltb-true, not-false}
use lib.Dec.{ltb}
use lib.ListN.{length, take, drop, length-append, length-map}
use lib.Seq.{take-append_seam}
use Rattle.mbus_rules.specs.declared.Entry.{Entry}
use Rattle.mbus_rules.specs.declared.Kind.TheVariants.{Data}
use Rattle.mbus_rules.specs.declared.Telegram.{Telegram}
use Rattle.base_rules.specs.Bytes.{Bytes}
use Rattle.base_characters.specs.Characters.{byte_of, carrier, chars}
use Rattle.base_digits.specs.Digits.{digits_of, packed}
use Rattle.mbus_rules.specs.Entries.{read_entries}
use Rattle.mbus_rules.specs.Headers.{maker_named, heat_meter}
use Rattle.base_rules.specs.Lists.{total}
use Rattle.mbus_rules.specs.Writing.{bytes_of_entries, entries_of, bytes_of_kind, wrong_data}
use Rattle.base_rules.proofs.Laws.AnswerLaws.{reads_same}
use Rattle.base_digits.proofs.Laws.DigitLaws.{digits_packed, bytes_packed}
use Rattle.mbus_rules.proofs.Laws.EntryLaws.{entries_written, entries_bytes_lem}
use Rattle.base_characters.proofs.Laws.CharacterLaws.{carried}
use Rattle.mbus_rules.proofs.Laws.LineLaws.{Good, data_bytes, good_data}
use Rattle.base_rules.proofs.Laws.ListLaws.{map_drop, map_take}
use Rattle.base_rules.proofs.Laws.TestLaws.{none}
use Rattle.base_characters.proofs.Laws.PairLaws.{length_characters, chars_drop}
use Rattle.run_repeats.specs.Repeats.{number_part, entries_part}
use Rattle.run_repeats.proofs.Laws.DataLines.{DataLine, data_written, data_right}
use Rattle.run_repeats.proofs.Laws.Pairs.{chars_take}

-- ---- in the bytes of a line of data

module _ (t : Telegram) where
  -- the meter number behind 68 L L 68 08 A 72
  number_there : take 4 (drop 7 (bytes_of_kind Data t)) ≡ packed 4 t.header.number
  unfolding packed
  number_there = refl

  -- the entries behind the header, and the sum and the end behind them
  abbrev closing : List ℕ
  closing = total (data_bytes t.address t.header (entries_of t)) % 256 ∷ 0x16 ∷ []

  behind_header : drop 19 (bytes_of_kind Data t) ≡ bytes_of_entries (entries_of t) ++ closing
  unfolding packed
  behind_header = refl

  around : length (bytes_of_kind Data t) ≡ 21 + length (bytes_of_entries (entries_of t))
  unfolding packed
  around =
      let es : List ℕ = bytes_of_entries (entries_of t) in
      let e : length (es ++ closing) ≡ length es + 2 = length-append es closing in
      omega arith

  entries_there : take (length (bytes_of_entries (entries_of t))) (drop 19 (bytes_of_kind Data t)) ≡ bytes_of_entries (entries_of t)
  entries_there = rw behind_header (take-append_seam (bytes_of_entries (entries_of t)) closing)

-- ---- in the bytes of a body, two for each character

module _ (body : List ℕ) (d : DataLine (chars body)) where
  abbrev told : Telegram
  told = d.telegram

  -- so many characters from a place on, two bytes each
  stretch : (n i : ℕ) → take n (drop i (chars body)) ≡ map carrier (take n (drop i (bytes_of_kind Data told)))
  stretch n i =
      ap (λ (l : List ℕ). take n (drop i l)) (data_written d)
      ∙ ap (take n) (sym (map_drop carrier i (bytes_of_kind Data told))) ∙ sym (map_take carrier n (drop i (bytes_of_kind Data told)))

  pub number_chars : chars (number_part body) ≡ map carrier (packed 4 told.header.number)
  number_chars =
      chars_take (drop 14 body) 8 ∙ ap (take 4) (chars_drop body 7) ∙ stretch 4 7 ∙ ap (map carrier) (number_there told)

  pub entries_chars : chars (entries_part body) ≡ map carrier (bytes_of_entries (entries_of told))
  entries_chars =
      let e : ℕ = length (bytes_of_entries (entries_of told)) in
      let all : length (chars body) ≡ 21 + e = ap length (data_written d) ∙ length-map (bytes_of_kind Data told) carrier ∙ around told in
      let half : (length body - 4 - 38) / 2 ≡ e = omega (arith, length_characters body) in
      chars_take (drop 38 body) (length body - 4 - 38) ∙ ap (λ (n : ℕ). take n (chars (drop 38 body))) half ∙ ap (take e) (chars_drop body 19)
      ∙ stretch e 19 ∙ ap (map carrier) (entries_there told)

  good : Good told.header (entries_of told)
  good = (good_data told (none (ltb 0 told.method) (wrong_data told ∷ []) (data_right d)).1.0).good

  number_small : told.header.number < 100000000
  number_small =
      let h = told.header in
      let k = none (not (ltb h.number 100000000)) (not (maker_named h.maker) ∷ not (heat_meter h.meter_type) ∷ []) good.header in
      ltb-true h.number 100000000 (not-false (ltb h.number 100000000) k.0)

-- ---- two of them

-- what carries bytes carries no others
carried_same : (s t : List ℕ) → Bytes s → Bytes t → map carrier s ≡ map carrier t → s ≡ t
carried_same s t b c e = sym (carried s b).back ∙ ap (map byte_of) e ∙ (carried t c).back

module _ (s t : List ℕ) (d : DataLine (chars s)) (f : DataLine (chars t)) where
  pub same_number : chars (number_part s) ≡ chars (number_part t) → d.telegram.header.number ≡ f.telegram.header.number
  same_number e =
      let n : ℕ = d.telegram.header.number in
      let m : ℕ = f.telegram.header.number in
      let digits : packed 4 n ≡ packed 4 m =
      carried_same (packed 4 n) (packed 4 m) (bytes_packed 4 n) (bytes_packed 4 m) (sym (number_chars s d) ∙ e ∙ number_chars t f) in
      sym (digits_packed 4 n (number_small s d)) ∙ ap digits_of digits ∙ digits_packed 4 m (number_small t f)

  pub same_entries : chars (entries_part s) ≡ chars (entries_part t) → entries_of d.telegram ≡ entries_of f.telegram
  same_entries e =
      let xs : List Entry = entries_of d.telegram in
      let ys : List Entry = entries_of f.telegram in
      let g : Good d.telegram.header xs = good s d in
      let h : Good f.telegram.header ys = good t f in
      let bytes : bytes_of_entries xs ≡ bytes_of_entries ys =
      carried_same (bytes_of_entries xs) (bytes_of_entries ys) (entries_bytes_lem xs g.right) (entries_bytes_lem ys h.right)
      (sym (entries_chars s d) ∙ e ∙ entries_chars t f) in
      reads_same
      (sym (entries_written [] xs g.right g.once g.whole) ∙ ap (λ (l : List ℕ). read_entries 0 l []) bytes
      ∙ entries_written [] ys h.right h.once h.whole)

  pub number_same : d.telegram.header.number ≡ f.telegram.header.number → chars (number_part s) ≡ chars (number_part t)
  number_same e = number_chars s d ∙ ap (λ (n : ℕ). map carrier (packed 4 n)) e ∙ sym (number_chars t f)

  pub entries_same : entries_of d.telegram ≡ entries_of f.telegram → chars (entries_part s) ≡ chars (entries_part t)
  entries_same e = entries_chars s d ∙ ap (λ (l : List Entry). map carrier (bytes_of_entries l)) e ∙ sym (entries_chars t f)
