-- What became of each row of a run: every row has one verdict, and what it means in terms of the rows.
use Rattle.std.specs.Prelude.{ℕ, ◌<◌, true, false, ◌&&◌, List, [], ◌∷◌, ◌++◌, ◌≡◌, length, get_or}
use Rattle.base_rules.specs.Answers.{reads}
use Rattle.base_rules.specs.Bytes.{Bytes}
use Rattle.base_characters.specs.Characters.{chars}
use Rattle.mbus_rules.specs.declared.Request.{Request}
use Rattle.mbus_rules.specs.declared.Outline.TheVariants.{Asks}
use Rattle.bench_clock.specs.Wakes.{is_wake}
use Rattle.base_rules.specs.Shown as answers
use Rattle.exchange_steps.specs.Steps.{heard_on, ends_well}
use Rattle.bundle_check.specs.Bundles.{contents_of, check_of}
use Rattle.bundle_check.specs.Records.{Recorded}
use Rattle.bundle_columns.specs.Columns.{columns_of}
use Rattle.bundle_columns.specs.Record.{columns_bytes}
use Rattle.run_counting.specs.Counting.{is_sent, row_outline, looked, send_end, kept_if, numbers_of}
use Rattle.run_counting.specs.Exchanges.{row_clock}
use Rattle.run_verdicts.specs.declared.Verdict.TheVariants.{Wake, First, Resend, LeftOver, Late, Second, WrongKind, Unasked}
use Rattle.run_verdicts.specs.Verdicts.{slot_of, verdicts_of}
use Rattle.run_verdicts.specs.Answering.{verdicts_in, verdicts_kept}
use Rattle.run_verdicts.specs.Words.{verdict_behind, stretch_of, heard_behind, is_counts, asks_read}
use Rattle.run_verdicts.specs.Example.{four_reads}

-- ---- every row has exactly one verdict

-- There are as many as rows,
abbrev pub AsManyAsRows : Type 0
AsManyAsRows = (ks : List Recorded) → length (verdicts_of ks) ≡ length ks

-- and the one at a row's place is that of the row behind those before it, whatever comes later.
abbrev pub OneForEachRow : Type 0
OneForEachRow =
    (before : List Recorded) (k : Recorded) (later : List Recorded)
    → get_or (verdicts_of (before ++ (k ∷ later))) (length before) Unasked ≡ verdict_behind before k

-- ---- what it means

-- A wake-up of either direction is one.
abbrev pub WakeUps : Type 0
WakeUps = (before : List Recorded) (k : Recorded) → is_wake (chars k.body) ≡ true → verdict_behind before k ≡ Wake

-- A row heard has the verdict that the last row sent at its position and the rows heard since say (`heard_behind`).
abbrev pub WhatAHeardRowIs : Type 0
WhatAHeardRowIs =
    (before : List Recorded) (k : Recorded) → is_wake (chars k.body) ≡ false → is_sent k ≡ false
    → verdict_behind before k ≡ heard_behind (stretch_of k.position before) k

-- So behind a request one that begins before the end of the send is left over, and never counts.
abbrev pub LeftOverIsTold : Type 0
LeftOverIsTold =
    (before : List Recorded) (k send : Recorded) (since : List Recorded) (request : Request)
    → is_wake (chars k.body) ≡ false → is_sent k ≡ false → stretch_of k.position before ≡ send ∷ since → is_sent send ≡ true
    → row_outline send ≡ Asks request → k.time < send_end send → verdict_behind before k ≡ LeftOver

-- A row heard counts exactly when the exchange of its position, told of the rows before it, ends well by it.
abbrev pub CountsAsTheExchangeEnds : Type 0
CountsAsTheExchangeEnds =
    (before : List Recorded) (k : Recorded) → is_wake (chars k.body) ≡ false → is_sent k ≡ false
    → is_counts (verdict_behind before k) ≡ ends_well (answers.shown (heard_on (slot_of k.position before) (row_outline k) (row_clock k.time)))

-- For reads that is 2026-04's: each row adds its number to those that count for a position exactly when it is looked at, the last row sent is an
-- accepted read, and its verdict is that it counts.
abbrev pub CountsForReads : Type 0
CountsForReads =
    (position : ℕ) (before : List Recorded) (k : Recorded)
    → numbers_of position (before ++ (k ∷ []))
    ≡ numbers_of position before
    ++ kept_if (looked position k && (asks_read (stretch_of position before) && is_counts (verdict_behind before k))) (length before) []

-- ---- what has no part in it

-- Rows of other positions and wake-ups, wherever they stand, leave the exchange of a position as it is, and with it every verdict.
abbrev pub OthersChangeNoVerdict : Type 0
OthersChangeNoVerdict =
    (front : List Recorded) (k : Recorded) (later : List Recorded) (j : Recorded) → looked j.position k ≡ false
    → verdict_behind (front ++ (k ∷ later)) j ≡ verdict_behind (front ++ later) j

-- The columns of an accepted bundle have the verdicts of the bundle.
abbrev pub ColumnsAsTheBundle : Type 0
ColumnsAsTheBundle = (b : List ℕ) (n : ℕ) → Bytes b → check_of b ≡ reads n → verdicts_kept (columns_bytes (columns_of (contents_of b))) b ≡ verdicts_in b

-- ---- a run

-- Of a read that is sent four times the first is a first send, the next two are resends, after silence and after an ack, and the fourth begins another
-- exchange. What is heard before the first was not asked for; an ack is of the wrong kind, left over a bit time before the end of a send, late 451 after
-- it, and second behind that.
abbrev pub AReadSentFourTimes : Type 0
AReadSentFourTimes = verdicts_of four_reads ≡ Unasked ∷ First ∷ Resend ∷ WrongKind ∷ Resend ∷ First ∷ LeftOver ∷ Late ∷ Second ∷ []
