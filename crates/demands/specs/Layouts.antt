-- What is told in text and in records: every word of the listing, and the records of include/skarrowith.h, by values.
use Rattle.std.specs.Prelude.{ℕ, List, [], ◌∷◌, ◌≡◌, length, take, drop, replicate}
use Rattle.mbus_rules.specs.FourFlips.{data_line}
use Rattle.mbus_rules.specs.Telegrams.{ack, read_of, enter_of, leave_of}
use Rattle.mbus_rules.specs.Writing.{line_of}
use Rattle.bundle_rows.specs.declared.Row.{Row}
use Rattle.bundle_columns.specs.Columns.{columns_of}
use Rattle.bundle_columns.specs.Record.{columns_bytes}
use Rattle.text_filling.specs.Texts.{text}
use Rattle.run_listing.specs.Listings.{word_of, row_text}
use Rattle.host_bundle.specs.Rows.{row_record}
use Rattle.host_bundle.specs.Salvaging.{salvaged_bytes}

-- ---- the listing

-- The word for a wake-up, for the line of each telegram, and for a line that is refused.
abbrev pub EveryWordListed : Type 0
EveryWordListed =
    (word_of (replicate 459 0x055) ≡ text "wake")
    × (word_of (line_of ack) ≡ text "ack")
    × (word_of (line_of (read_of 0xFE)) ≡ text "read")
    × (word_of (line_of (enter_of 0xFE 0x90)) ≡ text "enter")
    × (word_of (line_of (leave_of 0xFE)) ≡ text "leave")
    × (word_of data_line ≡ text "data")
    × (word_of (0x0E5 ∷ []) ≡ text "refused 3")
    × (word_of (replicate 458 0x055) ≡ text "refused 4")

-- The line of a row that was sent, and of one that was heard, with the word for what it is.
abbrev pub BothDirectionsListed : Type 0
BothDirectionsListed =
    (row_text 48 0 507 (text "wake") ≡ text "48,sent,507,wake\n")
    × (row_text 1 1 2036 (text "refused 14") ≡ text "1,heard,2036,refused 14\n")

-- ---- the records

-- two rows in which every byte is different
abbrev row_one : Row
row_one = record { time = 0x04030201; offset = 0x08070605; length = 0x0A09; position = 11; direction = 12 }

abbrev row_two : Row
row_two = record { time = 0x18171615; offset = 0x1C1B1A19; length = 0x1E1D; position = 31; direction = 32 }

-- struct skarrowith_row: time, offset, length, position, direction.
abbrev pub RowAsInC : Type 0
RowAsInC = row_record row_one ≡ 1 ∷ 2 ∷ 3 ∷ 4 ∷ 5 ∷ 6 ∷ 7 ∷ 8 ∷ 9 ∷ 10 ∷ 11 ∷ 12 ∷ []

-- struct skarrowith_salvaged: kept, dropped, rule, filled.
abbrev pub SalvagedAsInC : Type 0
SalvagedAsInC =
    salvaged_bytes (record { kept = 0x0201; dropped = 0x03; rule = 0x04; filled = 0x060005 })
    ≡ 1 ∷ 2 ∷ 0 ∷ 0 ∷ 0 ∷ 0 ∷ 0 ∷ 0 ∷ 3 ∷ 0 ∷ 0 ∷ 0 ∷ 0 ∷ 0 ∷ 0 ∷ 0 ∷ 4 ∷ 0 ∷ 0 ∷ 0 ∷ 0 ∷ 0 ∷ 0 ∷ 0 ∷ 5 ∷ 0 ∷ 6 ∷ 0 ∷ 0 ∷ 0 ∷ 0 ∷ 0 ∷ []

-- the columns of both
abbrev columns : List ℕ
columns = columns_bytes (columns_of (row_one ∷ row_two ∷ []))

-- struct skarrowith_contents: the count, and 512 positions, directions, times, offsets and lengths.
abbrev pub ContentsAsInC : Type 0
ContentsAsInC =
    (take 11 columns ≡ 2 ∷ 0 ∷ 0 ∷ 0 ∷ 0 ∷ 0 ∷ 0 ∷ 0 ∷ 11 ∷ 31 ∷ 0 ∷ [])
    × (take 3 (drop 520 columns) ≡ 12 ∷ 32 ∷ 0 ∷ [])
    × (take 9 (drop 1032 columns) ≡ 1 ∷ 2 ∷ 3 ∷ 4 ∷ 0x15 ∷ 0x16 ∷ 0x17 ∷ 0x18 ∷ 0 ∷ [])
    × (take 9 (drop 3080 columns) ≡ 5 ∷ 6 ∷ 7 ∷ 8 ∷ 0x19 ∷ 0x1A ∷ 0x1B ∷ 0x1C ∷ 0 ∷ [])
    × (take 5 (drop 5128 columns) ≡ 9 ∷ 10 ∷ 0x1D ∷ 0x1E ∷ 0 ∷ [])
    × (length columns ≡ 6152)
