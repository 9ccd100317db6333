-- What became of each row of a run. A row is judged by the exchange of its position, as 01 and 02's 2026-09 rule it, which a host would have told of every
-- row before it: of the time at which a send begins and of its end, and of each line heard.
use Rattle.std.specs.Prelude.{ℕ, Bool, cond, List, [], ◌∷◌, ◌++◌, eqb}
use Rattle.base_rules.specs.Answers.{Answer, reads, refusal}
use Rattle.base_characters.specs.Characters.{chars}
use Rattle.mbus_rules.specs.declared.Request.{Request}
use Rattle.mbus_rules.specs.declared.Outline.{Outline}
use Rattle.mbus_rules.specs.declared.Outline.TheVariants as outlines
use Rattle.bench_clock.specs.declared.Clock.{Clock}
use Rattle.bench_clock.specs.Times.{earlier}
use Rattle.bench_clock.specs.Wakes.{is_wake}
use Rattle.exchange_replies.specs.Fits.{fits}
use Rattle.exchange_steps.specs.declared.Exchange.{Exchange}
use Rattle.exchange_steps.specs.declared.Slot.{Slot}
use Rattle.exchange_steps.specs.declared.Slot.TheVariants.{Idle, Busy}
use Rattle.exchange_steps.specs.Steps.{waits, past, begun, resent_in, heard_on, tick_on}
use Rattle.exchange_steps.specs.Histories.{exchange_after, stands}
use Rattle.bundle_check.specs.Records.{Recorded}
use Rattle.bundle_check.specs.Walks.{end_of}
use Rattle.run_counting.specs.Counting.{is_sent, row_outline, send_end}
use Rattle.run_counting.specs.Exchanges.{row_clock}
use Rattle.run_verdicts.specs.declared.Verdict.{Verdict}
use Rattle.run_verdicts.specs.declared.Verdict.TheVariants.{Wake, First, Resend, Refused, Counts, LeftOver, Late, Second, Damaged, WrongKind, Unasked}

-- ---- a heard row

-- A line that does not fit is damaged (refused line), by its number, or of the wrong kind.
abbrev pub unfitting : Outline → Verdict
unfitting (outlines.Refused n) = Damaged n
unfitting outlines.Ack = WrongKind
unfitting (outlines.Asks other) = WrongKind
unfitting (outlines.Data answers) = WrongKind

-- The first line since the end of a send decides it: more than 450 after that end it is late, otherwise it counts if it fits the request.
abbrev pub decided_by : Request → Bool → Outline → Verdict
decided_by request silent outline = cond silent Late (cond (fits request outline) Counts (unfitting outline))

-- Nothing was asked; or it began before the end of the last send and is left over; or that send waits no more, and it is second; or it decides.
abbrev pub heard_verdict : Slot → Outline → Clock → Verdict
heard_verdict Idle outline t = Unasked
heard_verdict (Busy x) outline t = cond (earlier x.began.0 t.0) LeftOver (cond (waits x.state) (decided_by x.request (past x t) outline) Second)

-- The exchange is told of the line; where it refuses that step it stays as it was.
abbrev pub after_heard : Slot → Outline → Clock → Slot
after_heard b outline t = stands b (heard_on b outline t)

-- ---- a sent row

-- Up to the start of a send the exchange has waited.
abbrev pub waited : Slot → Clock → Slot
waited b t = stands b (tick_on b t)

-- The send taken as a resend, where there is an exchange.
abbrev pub resent_on : Slot → Outline → Clock → Answer Exchange
resent_on Idle outline t = refusal 41
resent_on (Busy x) outline t = resent_in x outline t

-- A request that the exchange does not take as a resend begins another.
abbrev pub sent_as : Answer Exchange → Verdict
sent_as (refusal n) = First
sent_as (reads x) = Resend

-- A line that cannot be sent is refused by its number, and an ack or data by 42: start with ack or data.
abbrev pub sent_verdict : Slot → Outline → Clock → Verdict
sent_verdict b (outlines.Refused n) end = Refused n
sent_verdict b outlines.Ack end = Refused 42
sent_verdict b (outlines.Asks request) end = sent_as (resent_on b (outlines.Asks request) end)
sent_verdict b (outlines.Data answers) end = Refused 42

-- After it nothing is asked, or the request is.
abbrev pub after_sent : Slot → Outline → Clock → Slot
after_sent b (outlines.Refused n) end = Idle
after_sent b outlines.Ack end = Idle
after_sent b (outlines.Asks request) end = Busy (exchange_after (begun request end) (resent_on b (outlines.Asks request) end))
after_sent b (outlines.Data answers) end = Idle

-- ---- any row

-- A wake-up of either direction is one, and is else as if it were not there.
unfoldable pub verdict_after : Slot → Recorded → Verdict
verdict_after b k =
    let t = row_clock k.time in
    cond (is_wake (chars k.body)) Wake (cond (is_sent k) (sent_verdict (waited b t) (row_outline k) (row_clock (send_end k))) (heard_verdict b (row_outline k) t))

unfoldable pub slot_after : Slot → Recorded → Slot
slot_after b k =
    let t = row_clock k.time in
    cond (is_wake (chars k.body)) b (cond (is_sent k) (after_sent (waited b t) (row_outline k) (row_clock (send_end k))) (after_heard b (row_outline k) t))

-- Only the rows of a position are told to its exchange.
abbrev pub told_to : ℕ → Slot → Recorded → Slot
told_to position b k = cond (eqb k.position position) (slot_after b k) b

-- The exchange of a position behind some rows; at first there is none.
abbrev pub slot_of : ℕ → List Recorded → Slot
slot_of position ks = end_of (told_to position) Idle ks

-- ---- all rows

-- Each row is judged by the rows before it.
unfoldable pub verdicts_from : List Recorded → List Recorded → List Verdict
verdicts_from before [] = []
verdicts_from before (k ∷ ks) = verdict_after (slot_of k.position before) k ∷ verdicts_from (before ++ (k ∷ [])) ks

abbrev pub verdicts_of : List Recorded → List Verdict
verdicts_of ks = verdicts_from [] ks
