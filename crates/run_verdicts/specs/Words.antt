-- The verdict of a heard row in the words of 02's 2026-04: by the last sent row of its position and the rows heard since.
use Rattle.std.specs.Prelude.{ℕ, Bool, true, false, cond, ◌&&◌, List, [], ◌∷◌, ltb}
use Rattle.base_rules.specs.Lists.{any}
use Rattle.mbus_rules.specs.declared.Request.TheVariants.{Read, Enter, Leave}
use Rattle.mbus_rules.specs.declared.Outline.{Outline}
use Rattle.mbus_rules.specs.declared.Outline.TheVariants as outlines
use Rattle.bench_clock.specs.Times.{late}
use Rattle.bundle_check.specs.Records.{Recorded}
use Rattle.bundle_check.specs.Walks.{end_of}
use Rattle.run_counting.specs.Counting.{is_sent, row_outline, send_end, begins_from, onward, looked_at}
use Rattle.run_verdicts.specs.declared.Verdict.{Verdict}
use Rattle.run_verdicts.specs.declared.Verdict.TheVariants.{Wake, First, Resend, Refused, Counts, LeftOver, Late, Second, Damaged, WrongKind, Unasked}
use Rattle.run_verdicts.specs.Verdicts.{decided_by, verdict_after, slot_of}

-- the verdict of a row behind others
abbrev pub verdict_behind : List Recorded → Recorded → Verdict
verdict_behind before k = verdict_after (slot_of k.position before) k

-- the last sent row of a position and the rows heard since, of all rows that are looked at
abbrev pub stretch_of : ℕ → List Recorded → List Recorded
stretch_of position before = end_of onward [] (looked_at position before)

-- After an accepted request it is left over if it begins before the end of the send, second if a row heard since does not, and else decides.
abbrev pub heard_since : Outline → ℕ → List Recorded → Recorded → Verdict
heard_since (outlines.Asks request) end since k =
    cond (ltb k.time end) LeftOver (cond (any (begins_from end) since) Second (decided_by request (late end k.time) (row_outline k)))
heard_since (outlines.Refused n) end since k = Unasked
heard_since outlines.Ack end since k = Unasked
heard_since (outlines.Data answers) end since k = Unasked

-- Where nothing was sent it was not asked for.
abbrev pub heard_behind : List Recorded → Recorded → Verdict
heard_behind [] k = Unasked
heard_behind (send ∷ since) k = cond (is_sent send) (heard_since (row_outline send) (send_end send) since k) Unasked

-- the verdict is that it counts
abbrev pub is_counts : Verdict → Bool
is_counts Counts = true
is_counts Wake = false
is_counts First = false
is_counts Resend = false
is_counts (Refused n) = false
is_counts LeftOver = false
is_counts Late = false
is_counts Second = false
is_counts (Damaged n) = false
is_counts WrongKind = false
is_counts Unasked = false

-- what was sent is an accepted read
abbrev pub read_sent : Outline → Bool
read_sent (outlines.Asks (Read address)) = true
read_sent (outlines.Asks (Enter address method)) = false
read_sent (outlines.Asks (Leave address)) = false
read_sent (outlines.Refused n) = false
read_sent outlines.Ack = false
read_sent (outlines.Data answers) = false

-- the last sent row is one
abbrev pub asks_read : List Recorded → Bool
asks_read [] = false
asks_read (send ∷ since) = is_sent send && read_sent (row_outline send)
