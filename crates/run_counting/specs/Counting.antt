-- 02, 2026-04: which answers of a position count.
use Rattle.std.specs.Prelude.{ℕ, suc, ◌+◌, Bool, true, false, cond, not, ◌&&◌, List, [], ◌∷◌, ◌++◌, leb, eqb, length}
use Rattle.base_rules.specs.Lists.{any}
use Rattle.base_characters.specs.Characters.{chars}
use Rattle.mbus_rules.specs.Lines.{read_line}
use Rattle.mbus_rules.specs.Outlines.{outlined}
use Rattle.base_rules.specs.Answers.{Answer, reads, refuse, follow}
use Rattle.mbus_rules.specs.declared.Request.TheVariants.{Read, Enter, Leave}
use Rattle.mbus_rules.specs.declared.Outline.{Outline}
use Rattle.mbus_rules.specs.declared.Outline.TheVariants.{Refused, Ack, Asks, Data}
use Rattle.bench_clock.specs.Times.{late, line_times}
use Rattle.bench_clock.specs.Wakes.{is_wake}
use Rattle.exchange_replies.specs.Fits.{fits}
use Rattle.bundle_rows.specs.Fields.{wrong_position}
use Rattle.bundle_check.specs.Bundles.{check_of}
use Rattle.bundle_check.specs.Records.{Recorded, records_of}

-- ---- one row

-- direction 0 sent or 1 heard
abbrev pub is_sent : Recorded → Bool
is_sent k = eqb k.direction 0

-- what reading its line answers
abbrev pub row_outline : Recorded → Outline
row_outline k = outlined (read_line (chars k.body))

-- Only that position's rows are looked at, and wake rows in either direction are passed over.
unfoldable pub looked : ℕ → Recorded → Bool
looked position k = eqb k.position position && not (is_wake (chars k.body))

-- Each send ends at its row's time plus 11 bit times per character.
abbrev pub send_end : Recorded → ℕ
send_end k = k.time + line_times (length (chars k.body))

-- It begins at or after that end.
abbrev pub begins_from : ℕ → Recorded → Bool
begins_from end k = leb end k.time

-- ---- which heard row counts, after a sent row and the rows heard since

-- It is the first row heard since that send which begins at or after its end, it begins at most 450 after that end, and it is data that
-- fits the read.
abbrev pub answers_read : ℕ → ℕ → List Recorded → Recorded → Bool
answers_read address end since k = not (any (begins_from end) since) && begins_from end k && not (late end k.time) && fits (Read address) (row_outline k)

-- The last sent row before it is an accepted read; after any other nothing counts.
abbrev pub counts_after : Outline → ℕ → List Recorded → Recorded → Bool
counts_after (Asks (Read address)) end since k = answers_read address end since k
counts_after (Asks (Enter address method)) end since k = false
counts_after (Asks (Leave address)) end since k = false
counts_after (Refused n) end since k = false
counts_after Ack end since k = false
counts_after (Data address) end since k = false

-- A row counts: it is heard, and behind the last sent row and the rows heard since it answers the one.
abbrev pub counts : List Recorded → Recorded → Bool
counts [] k = false
counts (send ∷ since) k = is_sent send && not (is_sent k) && counts_after (row_outline send) (send_end send) since k

-- the last sent row and the rows heard since, with one row more
abbrev pub onward : List Recorded → Recorded → List Recorded
onward stretch k = cond (is_sent k) (k ∷ []) (stretch ++ (k ∷ []))

-- ---- all rows

-- in front of a list, or not
abbrev pub kept_if : {A : Type 0} → Bool → A → List A → List A
kept_if true x l = x ∷ l
kept_if false x l = l

-- the rows that are looked at
unfoldable pub looked_at : ℕ → List Recorded → List Recorded
looked_at position [] = []
looked_at position (k ∷ ks) = kept_if (looked position k) k (looked_at position ks)

-- of rows that are looked at, those that count
unfoldable pub counted_after : List Recorded → List Recorded → List Recorded
counted_after stretch [] = []
counted_after stretch (k ∷ ks) = kept_if (counts stretch k) k (counted_after (onward stretch k) ks)

-- the answers of a position that count
abbrev pub answers_of : ℕ → List Recorded → List Recorded
answers_of position ks = counted_after [] (looked_at position ks)

-- the numbers of the rows that they are, the first row here being number i
unfoldable pub numbers_from : ℕ → ℕ → List Recorded → List Recorded → List ℕ
numbers_from position i stretch [] = []
numbers_from position i stretch (k ∷ ks) =
    cond (looked position k)
    (kept_if (counts stretch k) i (numbers_from position (suc i) (onward stretch k) ks))
    (numbers_from position (suc i) stretch ks)

-- Rows count from 0.
abbrev pub numbers_of : ℕ → List Recorded → List ℕ
numbers_of position ks = numbers_from position 0 [] ks

-- 30 to 37 for the bundle, 34 for a position outside 1–48; else the numbers of the rows that count
unfoldable pub counting_of : List ℕ → ℕ → Answer (List ℕ)
counting_of b position = follow (check_of b) (λ n. refuse 34 (wrong_position position) (reads (numbers_of position (records_of b))))
