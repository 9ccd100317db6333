-- What a walk along the rows of a position holds on to: which answer it is open for.
use Rattle.std.specs.Prelude.{ℕ, ◌+◌, List, length, Option, None, Some, Bool, false, cond, not, ◌&&◌, ltb}
use Rattle.mbus_rules.specs.declared.Request.TheVariants.{Read, Enter, Leave}
use Rattle.mbus_rules.specs.declared.Outline.{Outline}
use Rattle.mbus_rules.specs.declared.Outline.TheVariants.{Refused, Ack, Asks, Data}
use Rattle.base_characters.specs.Characters.{chars}
use Rattle.mbus_rules.specs.Lines.{read_line}
use Rattle.mbus_rules.specs.Outlines.{outlined}
use Rattle.bench_clock.specs.Times.{late, line_times}
use Rattle.exchange_replies.specs.Fits.{fits}
use Rattle.bundle_rows.specs.declared.Row.{Row}
use Rattle.bundle_rows.specs.Rows.{unchecked_row, body_in}
use Rattle.bundle_check.specs.Records.{Recorded}
use Rattle.run_counting.specs.declared.ear.Open.{Open}
use Rattle.run_counting.specs.declared.ear.Turn.{Turn}
use Rattle.run_counting.specs.Counting.{is_sent, row_outline, looked}

-- after a sent row: open for the answer to an accepted read, from its end on
abbrev pub ear_opened : Outline → ℕ → Option Open
ear_opened (Asks (Read address)) end = Some (record { address = address; end = end })
ear_opened (Asks (Enter address method)) end = None
ear_opened (Asks (Leave address)) end = None
ear_opened (Refused n) end = None
ear_opened Ack end = None
ear_opened (Data address) end = None

-- the same, from the start of the send's first character and its bytes
abbrev pub opened_after : ℕ → List ℕ → Option Open
opened_after time body = ear_opened (outlined (read_line (chars body))) (time + line_times (length (chars body)))

-- a row that does not count
abbrev pub uncounted : Option Open → Turn
uncounted ear = record { ear = ear; counts = false }

-- the answer is in time and fits
abbrev pub fits_in_time : Open → ℕ → Outline → Bool
fits_in_time due t outline = not (late due.end t) && fits (Read due.address) outline

-- after a row heard at t: one that begins before the end is passed over, and the first other one decides
abbrev pub heard_by : Option Open → ℕ → Outline → Turn
heard_by None t outline = uncounted None
heard_by (Some due) t outline = cond (ltb t due.end) (uncounted (Some due)) (record { ear = None; counts = fits_in_time due t outline })

-- after a row that is looked at
abbrev pub turn_of : Option Open → Recorded → Turn
turn_of ear k = cond (is_sent k) (uncounted (opened_after k.time k.body)) (heard_by ear k.time (row_outline k))

-- after any row
unfoldable pub passed_by : ℕ → Option Open → Recorded → Turn
passed_by position ear k = cond (looked position k) (turn_of ear k) (uncounted ear)

-- a row of a bundle with its body
abbrev pub row_with : Row → List ℕ → Recorded
row_with r body = record { position = r.position; direction = r.direction; time = r.time; body = body }

abbrev pub row_in : List ℕ → ℕ → Recorded
row_in b i = row_with (unchecked_row b i) (body_in b (unchecked_row b i))
