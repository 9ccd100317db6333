-- CJ/T 188 for C: the record of a telegram is read back as that telegram, a line goes through it unchanged, and the numbers of each function.
use Rattle.std.specs.Prelude.{ℕ, ◌≤◌, List, [], ◌∷◌, ◌≢◌, ◌≡◌, length}
use Rattle.base_rules.specs.Answers.{reads}
use Rattle.base_characters.specs.Characters.{carrier}
use Rattle.base_rules.specs.Lists.{at}
use Rattle.cjt_rules.specs.declared.CjtTelegram.{CjtTelegram}
use Rattle.cjt_rules.specs.CjtLines.{read_cjt_line}
use Rattle.base_rules.specs.Shown as answers
use Rattle.mbus_rules.specs.declared.Entry.{Entry}
use Rattle.cjt_energy.specs.Energies.{entry_for}
use Rattle.cjt_records.specs.CjtRecords.{cjt_size, cjt_bytes, cjt_from}
use Rattle.cjt_records.specs.Sizes.{CjtFits}
use Rattle.host_cjt.specs.CjtCalls.{read_cjt_for, write_cjt_for, entry_cjt_for}
use Rattle.demands.specs.Refusals.{By}
use Rattle.demands.specs.OneToOne.{Apart}
use Rattle.demands.specs.CjtPromises.{cjt_numbers}

-- ---- the record

-- Every record has 80 bytes, is read back as its telegram (`CjtFits`: each field is in the range of its type),
abbrev pub CjtRecordSize : Type 0
CjtRecordSize = (t : CjtTelegram) → length (cjt_bytes t) ≡ cjt_size

abbrev pub CjtReadBack : Type 0
CjtReadBack = (t : CjtTelegram) → CjtFits t → cjt_from (cjt_bytes t) ≡ reads t

-- and bytes that are taken are those written for the telegram that they are taken as.
abbrev pub CjtTaken : Type 0
CjtTaken = (b : List ℕ) (t : CjtTelegram) → cjt_from b ≡ reads t → cjt_bytes t ≡ b

-- What reading leaves for an accepted line without FE bytes in front, writing turns into that line again.
abbrev pub LineThroughItsRecord : Type 0
LineThroughItsRecord =
    (s out : List ℕ) (t : CjtTelegram) → at s 0 ≢ carrier 0xFE → read_cjt_line s ≡ reads t → length s ≤ length out
    → write_cjt_for (cjt_bytes t) out ≡ reads s

-- ---- the numbers

-- Reading gives 1 to 3, 80 to 85 or 21.
abbrev pub CjtReadForBy : Type 0
CjtReadForBy = (line out : List ℕ) → By (21 ∷ cjt_numbers) (read_cjt_for line out)

-- Writing gives 101, 20 or 21.
abbrev pub CjtWriteForBy : Type 0
CjtWriteForBy = (b out : List ℕ) → By (101 ∷ 20 ∷ 21 ∷ []) (write_cjt_for b out)

-- Turning an energy into an entry gives 84 to 86, for C 21 too.
abbrev pub EntryBy : Type 0
EntryBy = (count code : ℕ) → By (84 ∷ 85 ∷ 86 ∷ []) (entry_for count code)

abbrev pub EntryForBy : Type 0
EntryForBy = (count code : ℕ) (out : List ℕ) → By (21 ∷ 84 ∷ 85 ∷ 86 ∷ []) (entry_cjt_for count code out)

-- ---- one to one

abbrev pub EntriesShownApart : Type 0
EntriesShownApart = Apart (answers.shown {A = Entry})
