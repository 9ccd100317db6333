-- What is open after the last sent row and the rows heard since, and that a row changes it as the rule says.
use Prim.Native.Nat.{ℕ, suc}
use mathlib.Core.Bool.{Bool, true, false, cond, not, ◌&&◌, ◌||◌}
use mathlib.Core.List.{List, [], ◌∷◌}
use mathlib.Core.Path.{◌≡◌, refl, ap, ◌∙◌}
use borrow.Author.Tests.{leb-true, leb-false, le-ltb, lt-ltb}
use lib.Dec.{leb}
use Rattle.base_rules.specs.Lists.{any}
use Rattle.mbus_rules.specs.declared.Request.TheVariants.{Read, Enter, Leave}
use Rattle.mbus_rules.specs.declared.Outline.{Outline}
use Rattle.mbus_rules.specs.declared.Outline.TheVariants.{Refused, Ack, Asks, Data}
use Rattle.bench_clock.specs.Times.{late}
use Rattle.exchange_replies.specs.Fits.{fits}
use Rattle.base_rules.proofs.Laws.ListLaws.{any_append}
use Rattle.bundle_check.specs.Records.{Recorded}
use Rattle.run_counting.specs.declared.ear.Open.{Open}
use Rattle.std.specs.Prelude.{Option, None}
use Rattle.run_counting.specs.declared.ear.Turn.{Turn}
use Rattle.run_counting.specs.Counting.{is_sent, row_outline, looked, send_end, begins_from, counts_after, counts, onward, kept_if, numbers_from}
use Rattle.run_counting.specs.Ears.{ear_opened, uncounted, heard_by, turn_of, passed_by}

-- what is open after a send that is one, with whether a row that could decide was heard since
abbrev open_for : Bool → Bool → Outline → ℕ → Option Open
open_for sent heard outline end = cond (sent && not heard) (ear_opened outline end) None

abbrev pub ear_of : List Recorded → Option Open
ear_of [] = None
ear_of (send ∷ since) = open_for (is_sent send) (any (begins_from (send_end send)) since) (row_outline send) (send_end send)

-- One more row heard at t, over plain tests: `sent` that the send is one, `heard` that a row since could decide, `later` that this row
-- begins at or after the end.
module _ (end t : ℕ) (now : Outline) where
  abbrev counts_by : Outline → Bool → Bool → Bool
  counts_by (Asks (Read address)) heard later = not heard && later && not (late end t) && fits (Read address) now
  counts_by (Asks (Enter address method)) heard later = false
  counts_by (Asks (Leave address)) heard later = false
  counts_by (Refused n) heard later = false
  counts_by Ack heard later = false
  counts_by (Data address) heard later = false

  decided : (outline : Outline) (later : Bool) → counts_by outline true later ≡ false
  decided (Asks (Read address)) later = refl
  decided (Asks (Enter address method)) later = refl
  decided (Asks (Leave address)) later = refl
  decided (Refused n) later = refl
  decided Ack later = refl
  decided (Data address) later = refl

  abbrev Turns : Bool → Bool → Outline → Bool → Type 0
  Turns sent heard outline later =
      heard_by (open_for sent heard outline end) t now
      ≡ record { ear = open_for sent (heard || (later || false)) outline end; counts = (sent && true) && counts_by outline heard later }

  turns : (sent heard : Bool) (outline : Outline) (later : Bool) → leb end t ≡ later → Turns sent heard outline later
  turns false heard outline later e = refl
  turns true true outline later e = rw (decided outline later)
  turns true false (Asks (Read address)) true e = rw (le-ltb t end (leb-true end t e))
  turns true false (Asks (Read address)) false e = rw (lt-ltb t end (leb-false end t e))
  turns true false (Asks (Enter address method)) true e = refl
  turns true false (Asks (Enter address method)) false e = refl
  turns true false (Asks (Leave address)) true e = refl
  turns true false (Asks (Leave address)) false e = refl
  turns true false (Refused n) true e = refl
  turns true false (Refused n) false e = refl
  turns true false Ack true e = refl
  turns true false Ack false e = refl
  turns true false (Data address) true e = refl
  turns true false (Data address) false e = refl

-- the rule over those tests
counts_by_lem : (outline : Outline) (end : ℕ) (since : List Recorded) (k : Recorded)
    → counts_after outline end since k ≡ counts_by end k.time (row_outline k) outline (any (begins_from end) since) (leb end k.time)
counts_by_lem (Asks (Read address)) end since k = refl
counts_by_lem (Asks (Enter address method)) end since k = refl
counts_by_lem (Asks (Leave address)) end since k = refl
counts_by_lem (Refused n) end since k = refl
counts_by_lem Ack end since k = refl
counts_by_lem (Data address) end since k = refl

-- a sent row does not count
pub sent_counts_not : (stretch : List Recorded) (k : Recorded) → is_sent k ≡ true → counts stretch k ≡ false
sent_counts_not [] k e = refl
sent_counts_not (send ∷ since) k e = go (is_sent send)
  where
    go : (sent : Bool) → sent && not (is_sent k) && counts_after (row_outline send) (send_end send) since k ≡ false
    go true = rw e
    go false = refl

-- Each row that is looked at leaves open what the stretch with it leaves open, and counts where the rule says so.
pub turn_is : (stretch : List Recorded) (k : Recorded) → turn_of (ear_of stretch) k ≡ record { ear = ear_of (onward stretch k); counts = counts stretch k }
unfolding any
turn_is stretch k = go (is_sent k) refl stretch
  where
    go : (sent : Bool) → is_sent k ≡ sent → (stretch : List Recorded)
        → turn_of (ear_of stretch) k ≡ record { ear = ear_of (onward stretch k); counts = counts stretch k }
    go true e stretch = rw (sent_counts_not stretch k e, e, e)
    go false e [] = rw (e, e)
    go false e (send ∷ since) =
        rw (e, any_append (begins_from (send_end send)) since (k ∷ []), counts_by_lem (row_outline send) (send_end send) since k)
        (turns (send_end send) k.time (row_outline k) (is_sent send) (any (begins_from (send_end send)) since) (row_outline send) (leb (send_end send) k.time)
        refl)

-- any row: what comes next is open, and its number is noted where it counts
pub record Next (position i : ℕ) (stretch : List Recorded) (k : Recorded) (ks : List Recorded) (turn : Turn) : Type 0 where
  pub after : List Recorded
  pub left : turn.ear ≡ ear_of after
  pub so : numbers_from position i stretch (k ∷ ks) ≡ kept_if turn.counts i (numbers_from position (suc i) after ks)

pub next_row : (position i : ℕ) (stretch : List Recorded) (k : Recorded) (ks : List Recorded) (turn : Turn)
    → turn ≡ passed_by position (ear_of stretch) k → Next position i stretch k ks turn
unfolding numbers_from passed_by
next_row position i stretch k ks turn e = go (looked position k) refl
  where
    go : (t : Bool) → looked position k ≡ t → Next position i stretch k ks turn
    go true f =
        let same : turn ≡ record { ear = ear_of (onward stretch k); counts = counts stretch k } = e ∙ rw f (turn_is stretch k) in
        record { after = onward stretch k; left = ap (λ (u : Turn). u.ear) same; so = rw (f, ap (λ (u : Turn). u.counts) same) }
    go false f =
        let same : turn ≡ uncounted (ear_of stretch) = e ∙ rw f in
        record { after = stretch; left = ap (λ (u : Turn). u.ear) same; so = rw (f, ap (λ (u : Turn). u.counts) same) }
