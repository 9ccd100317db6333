-- 01, "The run bundle": its bytes, in a bundle of two rows in which every number is different.
use Rattle.std.specs.Prelude.{ℕ, List, [], ◌∷◌, ◌≡◌, take, drop}
use Rattle.base_rules.specs.Answers.{reads}
use Rattle.bundle_rows.specs.declared.Row.{Row}
use Rattle.bundle_rows.specs.Rows.{rows_of}
use Rattle.bundle_check.specs.Bundles.{count_of, contents_of, check_of}
use Rattle.bundle_check.specs.Handing.{row_at, body_at}
use Rattle.bundle_check.specs.Records.{Recorded, records_of, bundle_of}
use Rattle.bundle_check.specs.Stretches.{bytes_at}
use Rattle.bundle_adding.specs.Adding.{add_of, buffer_after}

-- two characters heard at position 5, and three sent at position 41
abbrev pub first : Recorded
first = record { position = 5; direction = 1; time = 0x34333231; body = 0x11 ∷ 0x01 ∷ 0x12 ∷ 0x00 ∷ [] }

abbrev pub second : Recorded
second = record { position = 41; direction = 0; time = 0x38373635; body = 0x13 ∷ 0x01 ∷ 0x14 ∷ 0x00 ∷ 0x15 ∷ 0x01 ∷ [] }

-- Count; position, direction, time 4 bytes, offset 4, body length 2, twice; the bodies in row order. All numbers low byte first.
abbrev pub two_rows : List ℕ
two_rows =
    0x02 ∷ 0x00
    ∷ 0x05 ∷ 0x01 ∷ 0x31 ∷ 0x32 ∷ 0x33 ∷ 0x34 ∷ 0x1A ∷ 0x00 ∷ 0x00 ∷ 0x00 ∷ 0x04 ∷ 0x00
    ∷ 0x29 ∷ 0x00 ∷ 0x35 ∷ 0x36 ∷ 0x37 ∷ 0x38 ∷ 0x1E ∷ 0x00 ∷ 0x00 ∷ 0x00 ∷ 0x06 ∷ 0x00
    ∷ 0x11 ∷ 0x01 ∷ 0x12 ∷ 0x00
    ∷ 0x13 ∷ 0x01 ∷ 0x14 ∷ 0x00 ∷ 0x15 ∷ 0x01 ∷ []

abbrev pub first_row : Row
first_row = record { position = 5; direction = 1; time = 0x34333231; offset = 26; length = 4 }

abbrev pub second_row : Row
second_row = record { position = 41; direction = 0; time = 0x38373635; offset = 30; length = 6 }

-- The bundle of the two is these bytes, and is accepted; rows, bodies and records are read from them.
abbrev pub TwoRowsWritten : Type 0
TwoRowsWritten = bundle_of (first ∷ second ∷ []) ≡ two_rows

abbrev pub TwoRowsRead : Type 0
TwoRowsRead =
    (check_of two_rows ≡ reads 2)
    × (count_of two_rows ≡ 2)
    × (rows_of 2 (drop 2 two_rows) ≡ first_row ∷ second_row ∷ [])
    × (contents_of two_rows ≡ first_row ∷ second_row ∷ [])
    × (row_at two_rows 0 ≡ reads first_row)
    × (row_at two_rows 1 ≡ reads second_row)
    × (bytes_at (body_at two_rows 1) two_rows ≡ second.body)
    × (records_of two_rows ≡ first ∷ second ∷ [])

-- The first row alone, in a buffer of fewer bytes than places; with the second added it is the bundle of the two, and the bytes past the end stay.
abbrev pub one_row : List ℕ
one_row =
    0x01 ∷ 0x00
    ∷ 0x05 ∷ 0x01 ∷ 0x31 ∷ 0x32 ∷ 0x33 ∷ 0x34 ∷ 0x0E ∷ 0x00 ∷ 0x00 ∷ 0x00 ∷ 0x04 ∷ 0x00
    ∷ 0x11 ∷ 0x01 ∷ 0x12 ∷ 0x00
    ∷ 0x61 ∷ 0x62 ∷ 0x63 ∷ 0x64 ∷ 0x65 ∷ 0x66 ∷ 0x67 ∷ 0x68 ∷ 0x69 ∷ 0x6A ∷ 0x6B ∷ 0x6C ∷ 0x6D ∷ 0x6E ∷ 0x6F ∷ 0x70 ∷ 0x71 ∷ 0x72 ∷ 0x73 ∷ 0x74 ∷ []

abbrev pub SecondAdded : Type 0
SecondAdded =
    (add_of one_row 18 second ≡ reads 36)
    × (take 36 (buffer_after (reads 36) one_row 18 second) ≡ two_rows)
    × (drop 36 (buffer_after (reads 36) one_row 18 second) ≡ 0x73 ∷ 0x74 ∷ [])
