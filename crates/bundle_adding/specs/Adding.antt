-- 01, "The run bundle": adding is told how many bytes of the buffer the old bundle fills, puts a row last and moves the bodies by 12;
-- bytes past the new end stay.
use Rattle.std.specs.Prelude.{ℕ, ◌+◌, Bool, ◌||◌, List, [], ◌∷◌, ◌++◌, ltb, leb, length, take}
use Rattle.base_rules.specs.Answers.{Answer, reads, refuse, follow}
use Rattle.base_characters.specs.Characters.{over, chars}
use Rattle.base_rules.specs.Lists.{any}
use Rattle.base_lent.specs.Lent.{stored}
use Rattle.bundle_rows.specs.Rows.{most_rows}
use Rattle.bundle_rows.specs.declared.Row.{Row}
use Rattle.bundle_check.specs.Bundles.{most_bytes, contents_of, check_of}
use Rattle.bundle_check.specs.Records.{Recorded, records_of, row_for, bundle_of}
use Rattle.bundle_check.specs.RowRules.{wrong_row, row_time}
use Rattle.bundle_check.specs.Walks.{end_of}

-- what is to be added
abbrev pub new_record : ℕ → ℕ → ℕ → List ℕ → Recorded
new_record position direction time body = record { position = position; direction = direction; time = time; body = body }

-- the time of the last row; where there is none, times count from 0
abbrev pub last_time : List Row → ℕ
last_time rows = end_of row_time 0 rows

-- the bytes of the new bundle: a row more and the body
abbrev pub grown : ℕ → Recorded → ℕ
grown filled k = filled + 12 + length k.body

-- 38: 512 rows, or the new bundle exceeds the buffer or 65,536
abbrev pub no_room : List ℕ → ℕ → ℕ → Bool
no_room buffer rows bytes = leb most_rows rows || ltb (length buffer) bytes || ltb most_bytes bytes

-- The bytes that the new bundle fills, or the refusal: more than the buffer has is 30; it tries the old bundle first, then the new
-- row (34, 37, 38).
unfoldable pub add_of : List ℕ → ℕ → Recorded → Answer ℕ
add_of buffer filled k =
    refuse 30 (ltb (length buffer) filled)
    (follow (check_of (take filled buffer)) (λ n.
    refuse 34 (wrong_row (last_time (contents_of (take filled buffer))) (row_for (filled + 12) k))
    (refuse 37 (any over (chars k.body))
    (refuse 38 (no_room buffer n (grown filled k))
    (reads (grown filled k))))))

-- What the buffer then holds: the bundle of what the old one held and of what is added, last, and the bytes past the new end as they
-- were; after a refusal, what it held.
abbrev pub buffer_after : Answer ℕ → List ℕ → ℕ → Recorded → List ℕ
buffer_after answer buffer filled k = stored (λ (n : ℕ). bundle_of (records_of (take filled buffer) ++ (k ∷ []))) buffer answer
