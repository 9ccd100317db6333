-- What is lent to the functions for C: where 21, 100 and 101 stand among the other refusals.
use Rattle.std.specs.Prelude.{ℕ, ◌+◌, ◌*◌, ◌<◌, ◌≤◌, List, [], ◌∷◌, ◌++◌, ◌⊎◌, ◌≡◌, ℤ, length, take, drop}
use Rattle.base_rules.specs.Answers.{reads, follow}
use Rattle.base_rules.specs.Lists.{at}
use Rattle.base_rules.specs.Bytes.{Bytes}
use Rattle.mbus_records.specs.Telegrams.{telegram_in}
use Rattle.base_numbers.specs.Numbers.{number}
use Rattle.text_words.specs.Refusals.{text_of}
use Rattle.text_words.specs.Saying.{fitted}
use Rattle.mbus_rules.specs.Telegrams.{bare}
use Rattle.mbus_telegrams.specs.Kinds.{kind_in}
use Rattle.mbus_search.specs.Searching.{Begins}
use Rattle.bundle_check.specs.Records.{records_of}
use Rattle.run_counting.specs.Counting.{answers_of}
use Rattle.host_meaning.specs.Meanings.{meaning_for}
use Rattle.host_lines.specs.Calls.{read_for, request_for, write_for}
use Rattle.host_search.specs.Finding.{find_for}
use Rattle.host_bundle.specs.Rows.{row_into, kept_into}
use Rattle.host_replay.specs.Calls.{replay_for}
use Rattle.host_cjt.specs.CjtCalls.{read_cjt_for, entry_cjt_for}
use Rattle.demands.specs.BundleOrder.{OutsidePositions, bundle_table, row_table}
use Rattle.demands.specs.CjtOrder.{cjt_table, energy_table}
use Rattle.demands.specs.LineOrder.{KnownUnit, line_table, write_table}
use Rattle.demands.specs.Orders.{OrderOf, In}
use Rattle.demands.specs.ReplayOrder.{answers_table}

-- 21: fewer places than are needed
abbrev pub TooFew : {A : Type 0} → ℕ → List A → Type 0
TooFew n out = length out < n

-- A telegram's record has 136 bytes, of which each of seven entries has 16: structure, unit, sort, five bytes 0, eight of its value.
-- 101: a sort not 0, 1 or 2; a byte that is not 0 behind the sort, or at the end of a time
abbrev pub NoEntry : List ℕ → Type 0
NoEntry e = (2 < at e 2) ⊎ ((i : ℕ) × (i < 5) × (¬ (at e (3 + i) ≡ 0))) ⊎ ((at e 2 ≡ 1) × (¬ (at e 15 ≡ 0)))

-- 101: another size, a kind not 1 to 5, a byte that is not 0 behind the header, or such an entry; nothing else is asked
abbrev pub NoTelegram : List ℕ → Type 0
NoTelegram b =
    (¬ (length b ≡ 136)) ⊎ (¬ In (at b 0) (1 ∷ 2 ∷ 3 ∷ 4 ∷ 5 ∷ [])) ⊎ ((i : ℕ) × (i < 3) × (¬ (at b (13 + i) ≡ 0)))
    ⊎ ((i : ℕ) × (i < 7) × NoEntry (take 16 (drop (24 + 16 * i) b)))

-- ---- behind all others

-- Reading a line: 1 to 16, then 21 for the 136 bytes of the telegram's record; of CJ/T 188 the 80 bytes.
abbrev pub ReadForOrder : Type 0
ReadForOrder = (line out : List ℕ) → OrderOf (line_table line ++ ((21, TooFew 136 out) ∷ [])) (read_for line out)

abbrev pub ReadCjtForOrder : Type 0
ReadCjtForOrder = (line out : List ℕ) → OrderOf (cjt_table line ++ ((21, TooFew 80 out) ∷ [])) (read_cjt_for line out)

-- Writing a request: 20, then 21.
abbrev pub RequestOrder : Type 0
RequestOrder =
    (kind address method : ℕ) (out : List ℕ) → address < 256
    → OrderOf (write_table (bare (kind_in kind) address method) (length out)) (request_for kind address method out)

-- Search: 18, no accepted line begins anywhere; then 21 for place and length.
abbrev pub FindForOrder : Type 0
FindForOrder =
    (capture out : List ℕ)
    → OrderOf ((18, (place n : ℕ) → Begins capture place n → ⊥) ∷ (21, TooFew 16 out) ∷ []) (find_for capture out)

-- The meaning of a unit byte: 11, a byte that is in no row; then 21 for its four bytes.
abbrev pub MeaningOrder : Type 0
MeaningOrder = (u : ℕ) (out : List ℕ) → OrderOf ((11, ¬ KnownUnit u) ∷ (21, TooFew 4 out) ∷ []) (meaning_for u out)

-- the numbers that have words
abbrev pub worded : List ℕ
worded =
    1 ∷ 2 ∷ 3 ∷ 4 ∷ 5 ∷ 6 ∷ 7 ∷ 8 ∷ 9 ∷ 10 ∷ 11 ∷ 12 ∷ 13 ∷ 14 ∷ 16 ∷ 17 ∷ 18 ∷ 20 ∷ 21 ∷ 30 ∷ 31 ∷ 32 ∷ 33 ∷ 34 ∷ 35 ∷ 36 ∷ 37 ∷ 38 ∷ 39 ∷ 40 ∷ 41
    ∷ 42 ∷ 43 ∷ 50 ∷ 51 ∷ 52 ∷ 60 ∷ 61 ∷ 62 ∷ 63 ∷ 64 ∷ 65 ∷ 70 ∷ 71 ∷ 72 ∷ 80 ∷ 81 ∷ 82 ∷ 83 ∷ 84 ∷ 85 ∷ 86 ∷ 90 ∷ 91 ∷ 100 ∷ 101 ∷ []

-- The words for a number: 100 where it has none; then 21, fewer places than the words have bytes and one for the zero byte.
abbrev pub WordsOrder : Type 0
WordsOrder =
    (n : ℕ) (out : List ℕ)
    → OrderOf ((100, ¬ In n worded) ∷ (21, (words : List ℕ) × (text_of n ≡ reads words) × (length out < length words + 1)) ∷ [])
    (follow (text_of n) (fitted out))

-- ---- before all others

-- A row's record of 12 bytes, and the place of an error.
abbrev pub RowIntoOrder : Type 0
RowIntoOrder = (b : List ℕ) (i : ℕ) (out : List ℕ) → OrderOf ((21, TooFew 12 out) ∷ row_table b i) (row_into b i out)

abbrev pub ReplayForOrder : Type 0
ReplayForOrder =
    (b : List ℕ) (position s1 s2 elapsed : ℕ) (out : List ℤ)
    → OrderOf
    ((21, TooFew 1 out)
    ∷ (bundle_table b ++ ((34, OutsidePositions position) ∷ answers_table (answers_of position (records_of b)) s1 s2 elapsed)))
    (replay_for b position s1 s2 elapsed out)

-- An energy as an entry of 16 bytes.
abbrev pub EntryForOrder : Type 0
EntryForOrder = (count code : ℕ) (out : List ℕ) → OrderOf ((21, TooFew 16 out) ∷ energy_table count code) (entry_cjt_for count code out)

-- ---- between others

-- 101: columns of another size than 6,152 bytes, or with a count over 512
abbrev pub NoColumns : List ℕ → Type 0
NoColumns b = (¬ (length b ≡ 6152)) ⊎ (512 < number (take 8 b))

-- Writing a line: 101 for the record of the telegram, then 20 and 21.
abbrev pub WriteForOrder : Type 0
WriteForOrder =
    (b out : List ℕ) → Bytes b → OrderOf ((101, NoTelegram b) ∷ write_table (telegram_in b) (length out)) (write_for b out)

-- A row from columns: 101, then 21 for its record, then 39, no such row.
abbrev pub KeptOrder : Type 0
KeptOrder =
    (b : List ℕ) (i : ℕ) (out : List ℕ)
    → OrderOf ((101, NoColumns b) ∷ (21, TooFew 12 out) ∷ (39, number (take 8 b) ≤ i) ∷ []) (kept_into b i out)
