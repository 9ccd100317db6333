-- `reached` is exactly what runs of steps from none reach: so 101 is given only for bytes that no run gives, and what a run gives is read back.
use Prim.Native.Nat.{ℕ, zero, suc, ◌+◌, ◌^◌, ◌≤◌, ◌<◌}
use mathlib.Core.Bool.{Bool, true, false, or-true, true≢false, and-eq-true_iff}
use mathlib.Core.List.{List, [], ◌∷◌}
use mathlib.Core.Path.{◌≡◌, refl, sym, ap, ◌∙◌}
use native.Mathlib.Nat.{le_refl}
use native.Mathlib.Omega.{arith}
use borrow.Author.Tests.{not-true, eqb-true, eq-eqb, lt-ltb, le-ltb}
use lib.Count.{ones_in}
use lib.Dec.{eqb, ltb}
use lib.IntN.{pos}
use Rattle.bench_clock.specs.declared.Clock.{Clock}
use Rattle.bench_clock.specs.Times.{late}
use Rattle.bench_clock.proofs.Laws.Times.{le_late}
use Rattle.mbus_rules.specs.declared.Request.{Request}
use Rattle.mbus_rules.specs.declared.Request.TheVariants.{Read, Enter, Leave}
use Rattle.mbus_rules.specs.declared.Telegram.{Telegram}
use Rattle.mbus_rules.specs.declared.Value.TheVariants.{Number, Time}
use Rattle.mbus_rules.specs.declared.Outline.{Outline}
use Rattle.mbus_rules.specs.declared.Outline.TheVariants as outlines
use Rattle.mbus_rules.specs.declared.Entry.{Entry}
use Rattle.base_rules.specs.Answers.{Answer, reads, refusal}
use Rattle.base_characters.specs.Characters.{odd}
use Rattle.mbus_rules.specs.Lines.{read_line, read_body}
use Rattle.base_rules.specs.Lists.{any, total}
use Rattle.mbus_rules.specs.Quantities.{quantity_of, width_of, paired}
use Rattle.mbus_rules.proofs.Laws.RoundTrip.{write_then_read}
use Rattle.mbus_rules.specs.Telegrams.{read_of, enter_of, leave_of, data_of}
use Rattle.mbus_rules.specs.Outlines.{outlined}
use Rattle.mbus_rules.specs.Writing.{line_of, unwritable, repeats}
use Rattle.exchange_steps.specs.declared.Cause.{Cause}
use Rattle.exchange_steps.specs.declared.Cause.TheVariants.{Silent, Damaged, WrongKind}
use Rattle.exchange_steps.specs.declared.State.{State}
use Rattle.exchange_steps.specs.declared.State.TheVariants.{Waiting, Resend, Well, Failed}
use Rattle.exchange_steps.specs.declared.Exchange.{Exchange}
use Rattle.exchange_steps.specs.declared.Slot.{Slot}
use Rattle.exchange_steps.specs.declared.Slot.TheVariants.{Idle, Busy}
use Rattle.exchange_replies.specs.Fits.{fits}
use Rattle.exchange_steps.specs.Histories.{Step, send_ended, heard, tick, step_time, answer, stands, next, run, after}
use Rattle.exchange_steps.specs.Steps.{most_sends, failed, after_line, after_tick, sending, begun, moved, start_with}
use Rattle.exchange_steps.proofs.Laws.Steps.{step_taken}
use Rattle.exchange_steps.proofs.Laws.Theorems.{same_as_sent}
use Rattle.exchange_record.specs.Exchanges.{fails_by, stands_at, reached, slot_bytes, slot_from}
use Rattle.exchange_record.proofs.Laws.ExchangeLaws.{exchange_written, none_read, busy_read, busy_from}
use Rattle.exchange_record.proofs.Laws.Reached.{Parts, parts, GoodBy, Keeps, send_good, heard_good, tick_good}
use Rattle.exchange_record.specs.Sizes.{Asked, AskedBy, TimesFit}

-- ---- three lines: one that is refused, one that fits nothing, and one that fits the request

refused_line : List ℕ
refused_line = []

-- a read of FE
read_line_fe : List ℕ
read_line_fe = 0x110 ∷ 0x15B ∷ 0x1FE ∷ 0x059 ∷ 0x116 ∷ []

refused_outline : outlined (read_line refused_line) ≡ outlines.Refused 1
unfolding read_line refused_line
refused_outline = refl

read_outline : outlined (read_line read_line_fe) ≡ outlines.Asks (Read 0xFE)
unfolding read_line read_line_fe read_body any total odd ones_in
read_outline = refl

answer_entries : List Entry
answer_entries =
    record { structure = 0x0C; unit = 0x03; value = Number (record { count = pos 0 }) }
    ∷ record { structure = 0x0C; unit = 0x11; value = Number (record { count = pos 0 }) }
    ∷ record { structure = 0x0A; unit = 0x59; value = Number (record { count = pos 0 }) }
    ∷ record { structure = 0x0A; unit = 0x5D; value = Number (record { count = pos 0 }) }
    ∷ record { structure = 0x06; unit = 0x6D; value = Time (record { year = 0; month = 1; day = 1; hour = 0; minute = 0; second = 0; weekday = 0 }) }
    ∷ []

-- an answer from an address
answer_from : ℕ → Telegram
answer_from a = data_of a (record { number = 0; maker = 0x4E89; version = 0; meter_type = 0x04; access = 0; status = 0 }) answer_entries

answer_reads : (a : ℕ) → a < 256 → outlined (read_line (line_of (answer_from a))) ≡ outlines.Data a
unfolding answer_from answer_entries unwritable any repeats quantity_of width_of paired
answer_reads a h =
    ap outlined
    (write_then_read (answer_from a) (record {
      address = h;
      header = record { version = omega arith; access = omega arith; status = omega arith };
      places =
          refl;
    }) refl)

fitting_line : Request → List ℕ
fitting_line (Read a) = line_of (answer_from a)
fitting_line (Enter a m) = 0x1E5 ∷ []
fitting_line (Leave a) = 0x1E5 ∷ []

fitting_fits : (r : Request) → Asked r → fits r (outlined (read_line (fitting_line r))) ≡ true
unfolding fitting_line read_line read_body any odd ones_in
fitting_fits (Read a) h = ap (fits (Read a)) (answer_reads a h) ∙ rw (eq-eqb a a refl) (or-true (eqb a 0xFE))
fitting_fits (Enter a m) h = refl
fitting_fits (Leave a) h = refl

-- ---- the step that comes next

requested : Request → Telegram
requested (Read a) = read_of a
requested (Enter a m) = enter_of a m
requested (Leave a) = leave_of a

requested_outline : (q : Request) → outlined (reads (requested q)) ≡ outlines.Asks q
unfolding requested
requested_outline (Read a) = refl
requested_outline (Enter a m) = refl
requested_outline (Leave a) = refl

begun_next : (q : Request) (b : Clock) → next Idle (send_ended (requested q) b) ≡ Busy (begun q b)
begun_next q b = ap (λ (v : Outline). stands Idle (start_with v b)) (requested_outline q)

module _ (q : Request) (n : ℕ) (b : Clock) where
  abbrev sends : Slot
  sends = Busy (sending q n b)

  -- a line or a tick while waiting, at a time that does not go back
  heard_next : (line : List ℕ) (t : Clock) → b.0 ≤ t.0
      → next sends (heard line t) ≡ Busy (moved (sending q n b) (after_line q n (late b.0 t.0) (outlined (read_line line))) t)
  heard_next line t h = ap (stands sends) (step_taken (sending q n b) t true _ h refl)

  tick_next : (t : Clock) → b.0 ≤ t.0 → next sends (tick t) ≡ Busy (moved (sending q n b) (after_tick n (late b.0 t.0)) t)
  tick_next t h = ap (stands sends) (step_taken (sending q n b) t true _ h refl)

  -- a refused line and a resend, all at one time, make one send more
  resent : (h : List Step) → n < most_sends
      → run sends (heard refused_line b ∷ send_ended (requested q) b ∷ h) ≡ run (Busy (sending q (n + 1) b)) h
  unfolding run
  resent h few =
      let more : ltb n most_sends ≡ true = lt-ltb n most_sends few in
      let inside : late b.0 b.0 ≡ false = le_late b.0 b.0 (omega arith) in
      let asks : Exchange = moved (sending q n b) (Resend Damaged) b in
      let failed : next sends (heard refused_line b) ≡ Busy asks = heard_next refused_line b (le_refl b.0) ∙ rw (inside, refused_outline, more) in
      let again : next (Busy asks) (send_ended (requested q) b) ≡ Busy (sending q (n + 1) b) =
      ap (stands (Busy asks)) (same_as_sent asks (requested q) b refl (requested_outline q)
      ∙ step_taken asks b (ltb n most_sends) _ (le_refl b.0) more) in
      ap (λ (y : Slot). run (next y (send_ended (requested q) b)) h) failed ∙ ap (λ (y : Slot). run y h) again

-- the steps up to the third send
leads : (q : Request) (b : Clock) (n : ℕ) → 0 < n → n ≤ most_sends → (s : Step)
    → (h : List Step) × (after h ≡ next (Busy (sending q n b)) s)
unfolding run
leads q b zero some few s = absurd (omega arith)
leads q b (suc zero) some few s = (send_ended (requested q) b ∷ s ∷ [], ap (λ (y : Slot). next y s) (begun_next q b))
leads q b (suc (suc zero)) some few s =
    let once : List Step = heard refused_line b ∷ send_ended (requested q) b ∷ s ∷ [] in
    (send_ended (requested q) b ∷ once, ap (λ (y : Slot). run y once) (begun_next q b) ∙ resent q 1 b (s ∷ []) (omega arith))
leads q b (suc (suc (suc zero))) some few s =
    let once : List Step = heard refused_line b ∷ send_ended (requested q) b ∷ s ∷ [] in
    let twice : List Step = heard refused_line b ∷ send_ended (requested q) b ∷ once in (
      send_ended (requested q) b ∷ twice,
      ap (λ (y : Slot). run y twice) (begun_next q b) ∙ resent q 1 b once (omega arith) ∙ resent q 2 b (s ∷ []) (omega arith),
    )
leads q b (suc (suc (suc (suc n)))) some few s = absurd (omega arith)

-- ---- the step that gives a state

module _ (q : Request) (a : Asked q) (n : ℕ) (b t : Clock) (h : b.0 ≤ t.0) where
  abbrev Last : State → Type 0
  Last state = (s : Step) × (next (Busy (sending q n b)) s ≡ Busy (moved (sending q n b) state t))

  failing : (cause : Cause) (l : Bool) → late b.0 t.0 ≡ l → fails_by cause l ≡ true → Last (failed n cause)
  failing Silent true e f = (tick t, tick_next q n b t h ∙ rw e)
  failing Silent false e f = absurd (true≢false (sym f))
  failing Damaged true e f = absurd (true≢false (sym f))
  failing Damaged false e f = (heard refused_line t, heard_next q n b refused_line t h ∙ rw (e, refused_outline))
  failing WrongKind true e f = absurd (true≢false (sym f))
  failing WrongKind false e f = (heard read_line_fe t, heard_next q n b read_line_fe t h ∙ rw (e, read_outline))

  last_step : (state : State) → stands_at state n (late b.0 t.0) ≡ true → Last state
  last_step Waiting e =
      let inside : late b.0 t.0 ≡ false = not-true (late b.0 t.0) e in
      (tick t, tick_next q n b t h ∙ rw inside)
  last_step (Resend cause) e =
      let both = (and-eq-true_iff (ltb n most_sends) (fails_by cause (late b.0 t.0))).0 e in
      let s = failing cause (late b.0 t.0) refl both.1 in
      (s.0, s.1 ∙ rw both.0)
  last_step Well e =
      let inside : late b.0 t.0 ≡ false = not-true (late b.0 t.0) e in
      (heard (fitting_line q) t, heard_next q n b (fitting_line q) t h ∙ rw (inside, fitting_fits q a))
  last_step (Failed cause) e =
      let both = (and-eq-true_iff (eqb n most_sends) (fails_by cause (late b.0 t.0))).0 e in
      let third : ltb n most_sends ≡ false = le-ltb n most_sends (omega (arith, eqb-true n most_sends both.0)) in
      let s = failing cause (late b.0 t.0) refl both.1 in
      (s.0, s.1 ∙ rw third)

-- An exchange that is reached stands so after a run of steps from none.
reached_by_run : (x : Exchange) → Asked x.request → reached x ≡ true → (h : List Step) × (after h ≡ Busy x)
reached_by_run x a r =
    let p : Parts x = parts x r in
    let s = last_step x.request a x.sends x.began x.last p.in_order x.state p.stands in
    let l = leads x.request x.began x.sends p.some p.few s.0 in
    (l.0, l.1 ∙ s.1)

-- So does what is read from a record.
pub taken_by_run : (b : List ℕ) (w : Slot) → slot_from b ≡ reads w → AskedBy w → (h : List Step) × (after h ≡ w)
unfolding run
taken_by_run b Idle e a = ([], refl)
taken_by_run b (Busy x) e a = reached_by_run x a (exchange_written b x (busy_from b x e)).so

-- ---- and every run stays among them

stands_good : (b : Slot) (a : Answer Exchange) → GoodBy b → Keeps a → GoodBy (stands b a)
stands_good b (refusal n) g k = g
stands_good b (reads y) g k = k

pub next_good : (b : Slot) (s : Step) → GoodBy b → (step_time s).0 < 256 ^ 8 → GoodBy (next b s)
next_good b (send_ended telegram t) g f = stands_good b (answer b (send_ended telegram t)) g (send_good t f b g (outlined (reads telegram)))
next_good b (heard line t) g f = stands_good b (answer b (heard line t)) g (heard_good t f b g (outlined (read_line line)))
next_good b (tick t) g f = stands_good b (answer b (tick t)) g (tick_good t f b g)

run_good : (b : Slot) → GoodBy b → (h : List Step) → TimesFit h → GoodBy (run b h)
unfolding run TimesFit
run_good b g [] f = g
run_good b g (s ∷ h) f = run_good (next b s) (next_good b s g f.0) h f.1

pub good_read : (b : Slot) → GoodBy b → slot_from (slot_bytes b) ≡ reads b
good_read Idle g = none_read
good_read (Busy x) g = busy_read x g.fits g.so

-- The record of what every run gives is read back as the same.
pub run_read_back : (h : List Step) → TimesFit h → slot_from (slot_bytes (after h)) ≡ reads (after h)
run_read_back h f = good_read (after h) (run_good Idle tt h f)
