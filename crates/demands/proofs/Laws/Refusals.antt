-- Proofs of the statements of specs/Refusals.
use Prim.Native.Nat.{ℕ, zero, suc, ◌+◌, ◌-◌, ◌%◌, ◌*◌}
use mathlib.Core.Bool.{Bool, true, false, cond, not, ◌||◌}
use mathlib.Core.List.{List, [], ◌∷◌, ◌++◌, map}
use mathlib.Core.Path.{◌≡◌, refl, sym, ap, subst, ◌∙◌}
use lib.Dec.{ltb, leb, eqb}
use lib.IntN.{ℤ}
use lib.ListN.{length, take, drop}
use borrow.Author.Tests.{eqb-true}
use Rattle.base_numbers.specs.Numbers.{number}
use Rattle.base_lent.specs.Same.{same}
use Rattle.base_lent.specs.Lent.{needs, placed}
use Rattle.mbus_telegrams.specs.Kinds.{kind_in}
use Rattle.bench_clock.specs.declared.Clock.{Clock}
use Rattle.bench_clock.specs.Times.{earlier, gap_least, gap_most}
use Rattle.bench_clock.specs.Wakes.{outside_wake}
use Rattle.mbus_rules.specs.declared.Entry.{Entry}
use Rattle.mbus_rules.specs.declared.Telegram.{Telegram}
use Rattle.mbus_rules.specs.declared.Outline.{Outline}
use Rattle.mbus_rules.specs.declared.Outline.TheVariants as outlines
use Rattle.base_rules.specs.Lists.{at, any}
use Rattle.base_characters.specs.Characters.{over, odd, byte_of, chars}
use Rattle.base_rules.specs.Answers.{Answer, reads, refusal, refuse, within, follow}
use Rattle.mbus_rules.specs.Headers.{header_of, wrong_header}
use Rattle.mbus_rules.specs.Host.{line_number}
use Rattle.mbus_rules.specs.Quantities.{quantity_of, unknown, width_of}
use Rattle.mbus_rules.specs.Entries.{entry_of, unfit, wrong_digit, wrong_time, seen, missing, read_entries}
use Rattle.mbus_rules.specs.Telegrams.{ack, read_of, data_of, bare}
use Rattle.mbus_rules.specs.Lines.{is_ack, is_short, field, is_command, is_data, command_of, read_body, read_line}
use Rattle.mbus_rules.specs.Lines.{wrong_start, wrong_count, wrong_lengths, wrong_end, wrong_sum}
use Rattle.mbus_rules.specs.Outlines.{outlined}
use Rattle.mbus_rules.specs.Writing.{line_of, unwritable}
use Rattle.bench_indication.specs.Errors.{indication_of}
use Rattle.bench_indication.specs.Errors as errors
use Rattle.mbus_search.specs.declared.Spot.{Spot}
use Rattle.mbus_search.specs.Searching.{length_here, further, or_else, find_in}
use Rattle.mbus_after.specs.declared.TimedSpot.{TimedSpot}
use Rattle.mbus_after.specs.After.{moved_timed, or_later, find_after}
use Rattle.mbus_length.specs.declared.HowLong.TheVariants.{Known, NotYet, NoLine}
use Rattle.mbus_either.specs.Interfaces.{live_on, or_optical, find_either}
use Rattle.mbus_either.specs.declared.Interface.TheVariants.{Optical}
use Rattle.exchange_steps.specs.declared.Exchange.{Exchange}
use Rattle.exchange_steps.specs.declared.Slot.{Slot}
use Rattle.exchange_steps.specs.declared.Slot.TheVariants.{Idle, Busy}
use Rattle.exchange_steps.specs.Steps.{after_line, after_tick, waits, asks_resend, in_progress, asks_for, sending, moved, past, step, sent_in, start_with, send_ended_in}
use Rattle.meter_template.specs.Templates as templates
use Rattle.meter_steps.specs.declared.Core.{Core}
use Rattle.meter_steps.specs.Meters.{set_up, in_force, measured, returned, heard_at}
use Rattle.bundle_rows.specs.Fields.{wrong_position}
use Rattle.bundle_rows.specs.Rows.{first_offset, most_rows, rows_of}
use Rattle.bundle_check.specs.RowRules.{wrong_row, wrong_rows, wrong_places, bodies_end}
use Rattle.bundle_check.specs.Bundles.{most_bytes, count_of, contents_of, check_rows, check_of}
use Rattle.bundle_check.specs.Records.{Recorded, records_of, row_for}
use Rattle.bundle_check.specs.Handing.{place_of, row_at}
use Rattle.bundle_columns.specs.Columns.{kept_rows}
use Rattle.bundle_columns.specs.Record.{columns_size, columns_in, columns_from}
use Rattle.bundle_columns.specs.Lookups.{is_position, in_front, first_from, row_kept, next_kept}
use Rattle.bundle_salvage.specs.Salvaging.{tell_of, leading_rows, salvage_of}
use Rattle.bundle_adding.specs.Adding.{last_time, grown, no_room}
use Rattle.bundle_adding.specs.Inserting.{try_of}
use Rattle.bundle_adding.proofs.Laws.Trying.{add_is}
use Rattle.bundle_sweep.specs.Sweeping.{swept_bundle, sweep_of}
use Rattle.run_picture.specs.Pictures.{picture_of}
use Rattle.run_counting.specs.Counting.{answers_of, counting_of}
use Rattle.run_calendar.specs.Days.{interval}
use Rattle.run_replay.specs.Errors.{volume_over, wrong_interval, error_by_c1, error_of_figures, row_tells, last_of, error_from, replay_of}
use Rattle.text_words.specs.Refusals as words
use Rattle.text_words.specs.Refusals.{words_in, text_of}
use Rattle.text_filling.specs.Texts.{text}
use Rattle.text_words.specs.Saying.{zero_ended, fitted}
use Rattle.host_meaning.specs.Meanings.{meaning_of}
use Rattle.base_lent.specs.Recorded.{no_record, recorded}
use Rattle.mbus_records.specs.Telegrams.{telegram_size, telegram_bytes, telegram_in, telegram_from}
use Rattle.exchange_record.specs.Exchanges.{exchange_bytes, exchange_in, reached, exchange_from, none_bytes, slot_from}
use Rattle.meter_record.specs.MeterRecords.{meter_size, meter_bytes, meter_in, unreached, meter_from}
use Rattle.run_verdicts.specs.Answering.{verdicts_in, body_past, verdicts_kept}
use Rattle.demands.specs.Refusals.{By, line_numbers, ReadingBy, CheckingBy, SearchingBy, AfterBy, LengthBy, EitherBy, WritingBy, WakeBy, GapBy, ErrorBy}
use Rattle.demands.specs.Refusals.{BeginBy, SendBy, LineBy, TickBy, SetUpBy, HeardBy, MeasureBy, bundle_numbers, BundleBy, RowBy, BodyPlaceBy, SalvageBy}
use Rattle.demands.specs.Refusals.{SweepBy, ListsBy, ListsIntoBy, ContentsIntoBy, KeptRowBy, KeptBodyBy, NextBy, AddingBy, CountingBy, replay_numbers}
use Rattle.demands.specs.Refusals.{ReplayBy, ListingBy, WordsBy, TelegramRecordBy, ExchangeRecordBy, MeterRecordBy, MeaningForBy, ReadForBy, WriteForBy}
use Rattle.demands.specs.Refusals.{FindForBy, AfterForBy, KeptIntoBy, EitherForBy, RowIntoBy, RequestForBy, ErrorForBy, ReplayForBy, SendEndedForBy}
use Rattle.demands.specs.Refusals.{TickForBy, HeardForBy, SetUpForBy, MeterHeardForBy, MeasureForBy, DrawingBy, VerdictsBy, KeptVerdictsBy}
use Rattle.demands.specs.Refusals.{VerdictsIntoBy, KeptVerdictsIntoBy, VerdictIntoBy}

abbrev among : List ℕ → ℕ → Type 0
among ns n = any (eqb n) ns ≡ true

pub reads_by : {A : Type 0} (ns : List ℕ) (a : A) → By ns (reads a)
unfolding By
reads_by ns a = tt

refusal_by : (A : Type 0) (ns : List ℕ) (n : ℕ) → among ns n → By {A = A} ns (refusal n)
unfolding By
refusal_by A ns n h = h

pub refuse_by : {A : Type 0} (ns : List ℕ) (n : ℕ) (test : Bool) (next : Answer A) → among ns n → By ns next → By ns (refuse n test next)
unfolding By
refuse_by ns n true next h k = h
refuse_by ns n false next h k = k

cond_by : {A : Type 0} (ns : List ℕ) (test : Bool) (u v : Answer A) → By ns u → By ns v → By ns (cond test u v)
cond_by ns true u v h k = h
cond_by ns false u v h k = k

within_by : {A B : Type 0} (ns : List ℕ) (f : A → B) (a : Answer A) → By ns a → By ns (within f a)
unfolding By
within_by ns f (refusal n) h = h
within_by ns f (reads a) h = tt

pub follow_by : {A B : Type 0} (ns : List ℕ) (a : Answer A) (next : A → Answer B) → By ns a → ((x : A) → By ns (next x)) → By ns (follow a next)
unfolding By
follow_by ns (refusal n) next h k = h
follow_by ns (reads a) next h k = k a

-- all numbers of one list stand in the other
abbrev less : List ℕ → List ℕ → Bool
less ns ms = not (any (λ n. not (any (eqb n) ms)) ns)

among_more : (ns ms : List ℕ) (n : ℕ) → less ns ms ≡ true → among ns n → among ms n
unfolding any
among_more [] ms n l h = absurd (subst (λ (b : Bool). cond b Unit ⊥) (sym h) tt)
among_more (k ∷ ns) ms n l h = go (eqb n k) (any (eqb k) ms) refl refl l h (λ x y. among_more ns ms n x y)
  where
    go : (same in-it : Bool) → eqb n k ≡ same → any (eqb k) ms ≡ in-it → not (not in-it || any (λ n. not (any (eqb n) ms)) ns) ≡ true
        → same || any (eqb n) ns ≡ true → (less ns ms ≡ true → among ns n → among ms n) → among ms n
    go true true e i l h rest = ap (λ (x : ℕ). any (eqb x) ms) (eqb-true n k e) ∙ i
    go same false e i l h rest = absurd (subst (λ (b : Bool). cond b ⊥ Unit) l tt)
    go false true e i l h rest = rest l h

pub more : {A : Type 0} (ns ms : List ℕ) (a : Answer A) → less ns ms ≡ true → By ns a → By ms a
unfolding By
more ns ms (refusal n) l h = among_more ns ms n l h
more ns ms (reads a) l h = tt

needs_by : {A B : Type 0} (ns : List ℕ) (n : ℕ) (out : List B) (next : Answer A) → among ns 21 → By ns next → By ns (needs n out next)
needs_by ns n out next h k = refuse_by ns 21 (ltb (length out) n) next h k

entries_by : (passing : ℕ) (s : List ℕ) (done : List Entry) → By line_numbers (read_entries passing s done)
unfolding By read_entries any
entries_by passing [] done = refuse_by line_numbers 16 (missing done) (reads done) refl tt
entries_by (suc passing) (b ∷ s) done = entries_by passing s done
entries_by zero (b ∷ s) done =
    chain (unfit (b ∷ s)) (wrong_digit (b ∷ s)) (wrong_time (b ∷ s)) (seen (quantity_of (at (b ∷ s) 1)) done) _
    (entries_by (1 + width_of b) s (done ++ (entry_of (b ∷ s) ∷ [])))
  where
    chain : (a b c d : Bool) (next : Answer (List Entry)) → By line_numbers next
        → By line_numbers (refuse 11 a (refuse 12 b (refuse 13 c (refuse 14 d next))))
    chain true b c d next k = refl
    chain false true c d next k = refl
    chain false false true d next k = refl
    chain false false false true next k = refl
    chain false false false false next k = k

body_by : (b : List ℕ) → By line_numbers (read_body b)
unfolding By read_body any
body_by b =
    let f = field b in
    let d = drop 3 f in
    forms (is_ack b) (is_short b) (not (eqb (at f 0) 0x5B)) (is_command f) (not (is_data f)) (wrong_header d) ack (read_of (at f 1)) (command_of f)
    (within (data_of (at f 1) (header_of d)) (read_entries 0 (drop 12 d) []))
    (within_by line_numbers (data_of (at f 1) (header_of d)) (read_entries 0 (drop 12 d) []) (entries_by 0 (drop 12 d) []))
  where
    forms : (a b c d e f : Bool) (x y z : Telegram) (next : Answer Telegram) → By line_numbers next
        → By line_numbers (cond a (reads x) (cond b (refuse 9 c (reads y)) (cond d (reads z) (refuse 9 e (refuse 10 f next)))))
    forms true b c d e f x y z next k = tt
    forms false true true d e f x y z next k = refl
    forms false true false d e f x y z next k = tt
    forms false false c true e f x y z next k = tt
    forms false false c false true f x y z next k = refl
    forms false false c false false true x y z next k = refl
    forms false false c false false false x y z next k = k

pub reading_by : ReadingBy
unfolding By read_line any
reading_by s =
    let b = map byte_of s in
    chain (eqb (length s) 0) (any over s) (any odd s) (wrong_start b) (wrong_count b) (wrong_lengths b) (wrong_end b) (wrong_sum b) (read_body b) (body_by b)
  where
    chain : (a b c d e f g h : Bool) (next : Answer Telegram) → By line_numbers next
        → By line_numbers (refuse 1 a (refuse 2 b (refuse 3 c (refuse 4 d (refuse 5 e (refuse 6 f (refuse 7 g (refuse 8 h next))))))))
    chain true b c d e f g h next k = refl
    chain false true c d e f g h next k = refl
    chain false false true d e f g h next k = refl
    chain false false false true e f g h next k = refl
    chain false false false false true f g h next k = refl
    chain false false false false false true g h next k = refl
    chain false false false false false false true h next k = refl
    chain false false false false false false false true next k = refl
    chain false false false false false false false false next k = k

pub checking_by : CheckingBy
unfolding any
checking_by b = (
  go (eqb (length b % 2) 1) (read_line (chars b)),
  refuse_by _ 17 (eqb (length b % 2) 1) _ refl (more line_numbers _ _ refl (reading_by (chars b))),
)
  where
    go : (test : Bool) (a : Answer Telegram) → cond test (256 + 17) (line_number a) ≡ line_number (refuse 17 test a)
    go true a = refl
    go false a = refl

pub searching_by : SearchingBy
unfolding By find_in any
searching_by [] = refl
searching_by (c ∷ s) = go (length_here (c ∷ s)) (find_in s) (searching_by s)
  where
    go : (a : Answer ℕ) (b : Answer Spot) → By (18 ∷ []) b → By (18 ∷ []) (or_else a (further b))
    go (reads n) b h = tt
    go (refusal n) (refusal m) h = h
    go (refusal n) (reads p) h = tt

pub after_by : AfterBy
unfolding By find_after any
after_by t [] times = refl
after_by t (c ∷ s) [] = refl
after_by t (c ∷ s) (time ∷ times) = go (cond (leb t time) (length_here (c ∷ s)) (refusal 18)) (find_after t s times) (after_by t s times)
  where
    go : (a : Answer ℕ) (b : Answer TimedSpot) → By (18 ∷ []) b → By (18 ∷ []) (or_later a time (moved_timed 1 b))
    go (reads n) b h = tt
    go (refusal n) (refusal m) h = h
    go (refusal n) (reads p) h = tt

pub length_by : LengthBy
unfolding By any
length_by (Known n) = (refl, tt)
length_by NotYet = (refl, tt)
length_by NoLine = (refl, refl)

pub either_by : EitherBy
either_by mbus optical = go (find_in mbus)
  where
    go : (a : Answer Spot) → By (18 ∷ []) (or_optical a (find_in optical))
    go (reads p) = reads_by _ _
    go (refusal n) = within_by _ (live_on Optical) (find_in optical) (searching_by optical)

pub writing_by : WritingBy
unfolding any
writing_by t places = refuse_by _ 20 (unwritable t) _ refl (refuse_by _ 21 (ltb places (length (line_of t))) _ refl (reads_by _ _))

pub wake_by : WakeBy
unfolding any
wake_by count out = refuse_by _ 52 (outside_wake count) _ refl (refuse_by _ 21 (ltb (length out) count) _ refl (reads_by _ _))

pub gap_by : GapBy
unfolding any
gap_by ended begins =
    refuse_by _ 50 (ltb begins ended || ltb (begins - ended) gap_least) _ refl (refuse_by _ 51 (ltb gap_most (begins - ended)) _ refl (reads_by _ _))

pub error_by : ErrorBy
unfolding any
error_by m1 m2 s1 s2 =
    refuse_by _ 60 (errors.count_over m1 m2 s1 s2) _ refl (refuse_by _ 61 (ltb m2 m1) _ refl (refuse_by _ 62 (leb s2 s1) _ refl (reads_by _ _)))

start_by : (v : Outline) (t : Clock) → By (42 ∷ []) (start_with v t)
unfolding By any
start_by (outlines.Refused n) t = refl
start_by outlines.Ack t = refl
start_by (outlines.Asks q) t = tt
start_by (outlines.Data a) t = refl

called_by : (x : Exchange) (t : Clock) (called : Bool) (y : Exchange) → By (40 ∷ 41 ∷ []) (step x t called y)
unfolding any
called_by x t called y = refuse_by _ 40 (earlier x.last.0 t.0) _ refl (refuse_by _ 41 (not called) _ refl (reads_by _ y))

sending_by : (b : Slot) (v : Outline) (t : Clock) → By (40 ∷ 41 ∷ 42 ∷ 43 ∷ []) (send_ended_in b v t)
unfolding any
sending_by Idle v t = more (42 ∷ []) _ _ refl (start_by v t)
sending_by (Busy x) v t =
    follow_by _ (sent_in x t) _
    (more (40 ∷ 41 ∷ []) _ _ refl (called_by x t (asks_resend x.state x.sends) (sending x.request (x.sends + 1) t)))
    (λ y. refuse_by _ 43 (not (asks_for x.request v)) (reads y) refl (reads_by _ y))

module _ (telegram : Telegram) (t : Clock) where
  pub begin_by : BeginBy telegram t
  begin_by = start_by (outlined (reads telegram)) t

  pub send_by : SendBy telegram t
  send_by b = sending_by (in_progress b) (outlined (reads telegram)) t

pub line_by : LineBy
unfolding any
line_by Idle line t = refusal_by Exchange _ 41 refl
line_by (Busy x) line t = called_by x t (waits x.state) (moved x (after_line x.request x.sends (past x t) (outlined (read_line line))) t)

pub tick_by : TickBy
unfolding any
tick_by Idle t = refusal_by Exchange _ 41 refl
tick_by (Busy x) t = called_by x t (waits x.state) (moved x (after_tick x.sends (past x t)) t)

pub set_up_by : SetUpBy
unfolding any
set_up_by own template = refuse_by _ 72 (templates.unfit_template template) _ refl (reads_by _ _)

measured_by : (c : Core) (v e : ℕ) → By (70 ∷ 71 ∷ []) (measured c v e)
unfolding any
measured_by c v e = refuse_by _ 71 (templates.overflows (in_force c) v e) _ refl (reads_by _ _)

pub heard_by : HeardBy
unfolding any
heard_by m line t = refuse_by _ 70 (earlier m.last.0 t.0) _ refl (reads_by _ _)

pub measure_by : MeasureBy
unfolding any
measure_by m v e t = refuse_by _ 70 (earlier m.last.0 t.0) _ refl (measured_by (returned t m.core) v e)

rows_by : (n : ℕ) (b : List ℕ) → By bundle_numbers (check_rows n b)
unfolding any
rows_by n b =
    let rows = rows_of n (drop 2 b) in
    refuse_by bundle_numbers 34 (wrong_rows 0 rows) _ refl
    (refuse_by bundle_numbers 35 (wrong_places (length b) (first_offset n) rows) _ refl
    (refuse_by bundle_numbers 36 (ltb (bodies_end (first_offset n) rows) (length b)) _ refl
    (refuse_by bundle_numbers 37 (any over (chars (drop (first_offset n) b))) _ refl
    (reads_by bundle_numbers n))))

pub bundle_by : BundleBy
unfolding any check_of
bundle_by b =
    refuse_by bundle_numbers 30 (ltb most_bytes (length b)) _ refl
    (refuse_by bundle_numbers 31 (ltb (length b) 2) _ refl
    (refuse_by bundle_numbers 32 (ltb most_rows (count_of b)) _ refl
    (refuse_by bundle_numbers 33 (ltb (length b) (first_offset (count_of b))) _ refl
    (rows_by (count_of b) b))))

pub row_by : RowBy
unfolding any row_at
row_by b i =
    follow_by _ (check_of b) _ (more bundle_numbers _ _ refl (bundle_by b)) (λ n. refuse_by _ 39 (leb n i) _ refl (reads_by _ _))

pub body_place_by : BodyPlaceBy
body_place_by b i = within_by _ place_of (row_at b i) (row_by b i)

pub salvage_by : SalvageBy
unfolding any salvage_of
salvage_by b out =
    let ns : List ℕ = 30 ∷ 31 ∷ 32 ∷ 33 ∷ 38 ∷ [] in
    follow_by ns (salvage_of b) _
    (refuse_by ns 30 (ltb most_bytes (length b)) _ refl
    (refuse_by ns 31 (ltb (length b) 2) _ refl
    (refuse_by ns 32 (ltb most_rows (count_of b)) _ refl
    (refuse_by ns 33 (ltb (length b) (first_offset (count_of b))) _ refl
    (reads_by ns (tell_of (count_of b) b (leading_rows (count_of b) b)))))))
    (λ s. refuse_by ns 38 (ltb (length out) s.filled) (reads s) refl (reads_by ns s))

pub sweep_by : SweepBy
unfolding any sweep_of
sweep_by buffer filled position =
    refuse_by bundle_numbers 30 (ltb (length buffer) filled) _ refl
    (follow_by bundle_numbers (check_of (take filled buffer)) _ (bundle_by (take filled buffer))
    (λ n. refuse_by bundle_numbers 34 (ltb 48 position) _ refl (reads_by bundle_numbers (length (swept_bundle position (take filled buffer))))))

pub lists_by : ListsBy
unfolding any columns_from
lists_by b =
    refuse_by (101 ∷ []) 101 (not (eqb (length b) columns_size) || ltb most_rows (number (take 8 b))) (reads (columns_in b)) refl (reads_by _ (columns_in b))

pub lists_into_by : ListsIntoBy
unfolding any
lists_into_by b out = needs_by _ columns_size out _ refl (within_by _ _ (check_of b) (more bundle_numbers _ _ refl (bundle_by b)))

pub contents_into_by : ContentsIntoBy
unfolding any
contents_into_by b out =
    follow_by _ (columns_from b) _ (more (101 ∷ []) _ _ refl (lists_by b)) (λ c. needs_by _ (first_offset c.count) out _ refl (reads_by _ _))

pub kept_row_by : KeptRowBy
unfolding any row_kept
kept_row_by b i = follow_by _ (columns_from b) _ (more (101 ∷ []) _ _ refl (lists_by b)) (λ c. refuse_by _ 39 (leb c.count i) _ refl (reads_by _ _))

pub kept_body_by : KeptBodyBy
kept_body_by b i = within_by _ place_of (row_kept b i) (kept_row_by b i)

first_by : (position : ℕ) (s : List ℕ) (from : ℕ) → By (101 ∷ 39 ∷ []) (first_from (is_position position) s from)
unfolding any
first_by position s from =
    let i : ℕ = from + in_front (is_position position) (drop from s) in
    refuse_by (101 ∷ 39 ∷ []) 39 (leb (length s) i) (reads i) refl (reads_by _ i)

pub next_by : NextBy
unfolding any next_kept
next_by b position from =
    follow_by _ (columns_from b) _ (more (101 ∷ []) _ _ refl (lists_by b)) (λ c. first_by position (take c.count c.positions) from)

-- adding and inserting, whatever makes the row wrong
pub trying_by : (wrong : Bool) (buffer : List ℕ) (filled : ℕ) (k : Recorded) → By (38 ∷ bundle_numbers) (try_of wrong buffer filled k)
unfolding any try_of
trying_by wrong buffer filled k =
    let ns : List ℕ = 38 ∷ bundle_numbers in
    refuse_by ns 30 (ltb (length buffer) filled) _ refl
    (follow_by ns (check_of (take filled buffer)) _ (more bundle_numbers ns _ refl (bundle_by (take filled buffer)))
    (λ n. refuse_by ns 34 wrong _ refl
    (refuse_by ns 37 (any over (chars k.body)) _ refl
    (refuse_by ns 38 (no_room buffer n (grown filled k)) _ refl
    (reads_by ns _)))))

pub adding_by : AddingBy
adding_by buffer filled k = rw (add_is buffer filled k) (trying_by (wrong_row (last_time (contents_of (take filled buffer))) (row_for (filled + 12) k)) buffer filled k)

pub counting_by : CountingBy
unfolding any counting_of
counting_by b position = follow_by _ (check_of b) _ (bundle_by b) (λ n. refuse_by _ 34 (wrong_position position) _ refl (reads_by _ _))

figures_by : (v1 v2 s1 s2 elapsed meter : ℕ) → By replay_numbers (error_of_figures v1 v2 s1 s2 elapsed meter)
unfolding any error_of_figures
figures_by v1 v2 s1 s2 elapsed meter =
    refuse_by replay_numbers 64 (volume_over v1 v2 s1 s2) _ refl
    (refuse_by replay_numbers 65 (wrong_interval elapsed || wrong_interval meter) _ refl
    (refuse_by replay_numbers 61 (ltb v2 v1) _ refl
    (refuse_by replay_numbers 62 (leb s2 s1) _ refl
    (reads_by replay_numbers (error_by_c1 v1 v2 s1 s2 elapsed meter)))))

answers_by : (ks : List Recorded) (s1 s2 elapsed : ℕ) → By replay_numbers (error_from ks s1 s2 elapsed)
unfolding any
answers_by [] s1 s2 elapsed = refusal_by ℤ replay_numbers 63 refl
answers_by (only ∷ []) s1 s2 elapsed = refusal_by ℤ replay_numbers 63 refl
answers_by (first ∷ (second ∷ later)) s1 s2 elapsed =
    figures_by (row_tells first).volume (row_tells (last_of second later)).volume s1 s2 elapsed
    (interval (row_tells first).time (row_tells (last_of second later)).time)

pub replay_by : ReplayBy
unfolding any replay_of
replay_by b position s1 s2 elapsed =
    follow_by _ (check_of b) _ (more bundle_numbers replay_numbers _ refl (bundle_by b))
    (λ n. refuse_by replay_numbers 34 (wrong_position position) _ refl (answers_by (answers_of position (records_of b)) s1 s2 elapsed))

pub listing_by : ListingBy
unfolding any
listing_by text out = refuse_by _ 21 (ltb (length out) (length text)) _ refl (reads_by _ _)

table_by : (rows : List words.Row) (n : ℕ) → By (100 ∷ []) (words_in rows n)
unfolding any words_in
table_by [] n = refusal_by (List ℕ) _ 100 refl
table_by (r ∷ rows) n = cond_by _ (eqb n r.number) _ _ (reads_by _ _) (table_by rows n)

pub words_by : WordsBy
unfolding any text_of
words_by n out =
    follow_by _ (text_of n) (fitted out) (more (100 ∷ []) _ _ refl (table_by words.refusal_texts n))
    (λ w. refuse_by _ 21 (ltb (length out) (length (zero_ended w))) _ refl (reads_by _ _))

recorded_by : {A : Type 0} (written : A → List ℕ) (taken : List ℕ → A) (b : List ℕ) → By (no_record ∷ []) (recorded written taken b)
unfolding any
recorded_by written taken b = refuse_by _ no_record (not (same b (written (taken b)))) _ refl (reads_by _ _)

pub telegram_record_by : TelegramRecordBy
telegram_record_by b = recorded_by telegram_bytes telegram_in b

pub exchange_record_by : ExchangeRecordBy
unfolding any
exchange_record_by b =
    cond_by _ (same b none_bytes) _ _ (reads_by _ Idle)
    (within_by _ Busy (exchange_from b)
    (follow_by _ (recorded exchange_bytes exchange_in b) _ (recorded_by exchange_bytes exchange_in b)
    (λ x. refuse_by _ 101 (not (reached x)) _ refl (reads_by _ _))))

pub meter_record_by : MeterRecordBy
unfolding any
meter_record_by b =
    follow_by _ (telegram_from (drop 56 b)) _ (telegram_record_by (drop 56 b))
    (λ t. let m = meter_in b t in
    refuse_by _ 101 (not (same b (meter_bytes m))) _ refl (refuse_by _ 101 (unreached m) _ refl (reads_by _ _)))

placed_by : {A B : Type 0} (ns : List ℕ) (n : ℕ) (out : List B) (a : Answer A) → among ns 21 → By ns a → By ns (placed n out a)
placed_by ns n out a h k = follow_by ns a _ k (λ x. needs_by ns n out (reads x) h (reads_by ns x))

pub meaning_for_by : MeaningForBy
unfolding any
meaning_for_by u out = placed_by _ 4 out (meaning_of u) refl (refuse_by _ 11 (eqb (quantity_of u) unknown) _ refl (reads_by _ _))

module _ (b out : List ℕ) where
  pub read_for_by : ReadForBy b out
  unfolding any
  read_for_by = placed_by _ telegram_size out (read_line b) refl (more line_numbers _ _ refl (reading_by b))

  pub write_for_by : WriteForBy b out
  unfolding any
  write_for_by =
      follow_by _ (telegram_from b) _ (more (101 ∷ []) _ _ refl (telegram_record_by b))
      (λ t. more (20 ∷ 21 ∷ []) _ _ refl (writing_by t (length out)))

  pub find_for_by : FindForBy b out
  unfolding any
  find_for_by = placed_by _ 16 out (find_in b) refl (more (18 ∷ []) _ _ refl (searching_by b))

  pub after_for_by : AfterForBy b out
  unfolding any
  after_for_by t times = placed_by _ 24 out (find_after t b times) refl (more (18 ∷ []) _ _ refl (after_by t b times))

  pub kept_into_by : KeptIntoBy b out
  unfolding any
  kept_into_by i =
      follow_by _ (columns_from b) _ (more (101 ∷ []) _ _ refl (lists_by b))
      (λ c. needs_by _ 12 out (row_kept b i) refl (more (101 ∷ 39 ∷ []) _ _ refl (kept_row_by b i)))

  pub either_for_by : EitherForBy b out
  unfolding any
  either_for_by optical = placed_by _ 16 out (find_either b optical) refl (more (18 ∷ []) _ _ refl (either_by b optical))

  pub row_into_by : RowIntoBy b out
  unfolding any
  row_into_by i = needs_by _ 12 out (row_at b i) refl (more (39 ∷ bundle_numbers) _ _ refl (row_by b i))

pub request_for_by : RequestForBy
request_for_by kind address method out = writing_by (bare (kind_in kind) address method) (length out)

pub error_for_by : ErrorForBy
unfolding any
error_for_by m1 m2 s1 s2 out = needs_by _ 1 out (indication_of m1 m2 s1 s2) refl (more (60 ∷ 61 ∷ 62 ∷ []) _ _ refl (error_by m1 m2 s1 s2))

pub replay_for_by : ReplayForBy
unfolding any
replay_for_by b position s1 s2 elapsed out =
    needs_by _ 1 out (replay_of b position s1 s2 elapsed) refl (more replay_numbers _ _ refl (replay_by b position s1 s2 elapsed))

module _ (b : List ℕ) (t : ℕ) where
  abbrev time : Clock
  time = record { 0 = t }

  stood_by : (ns : List ℕ) → less (101 ∷ []) ns ≡ true → By ns (slot_from b)
  stood_by ns l = more (101 ∷ []) ns _ l (exchange_record_by b)

  pub send_ended_for_by : SendEndedForBy b t
  unfolding any
  send_ended_for_by kind address method =
      follow_by _ (slot_from b) _ (stood_by _ refl)
      (λ x. more (40 ∷ 41 ∷ 42 ∷ 43 ∷ []) _ _ refl (send_by (bare (kind_in kind) address method) time x))

  pub tick_for_by : TickForBy b t
  unfolding any
  tick_for_by = follow_by _ (slot_from b) _ (stood_by _ refl) (λ x. more (40 ∷ 41 ∷ []) _ _ refl (tick_by x time))

  pub heard_for_by : HeardForBy b t
  unfolding any
  heard_for_by line reply =
      follow_by _ (slot_from b) _ (stood_by _ refl)
      (λ x. needs_by _ telegram_size reply _ refl (more (40 ∷ 41 ∷ []) _ _ refl (line_by x line time)))

pub set_up_for_by : SetUpForBy
unfolding any
set_up_for_by out own template =
    follow_by _ (telegram_from template) _ (more (101 ∷ []) _ _ refl (telegram_record_by template))
    (λ t. needs_by _ meter_size out (set_up own t) refl (more (72 ∷ []) _ _ refl (set_up_by own t)))

pub meter_heard_for_by : MeterHeardForBy
unfolding any
meter_heard_for_by b line t out =
    follow_by _ (meter_from b) _ (more (101 ∷ []) _ _ refl (meter_record_by b))
    (λ m. needs_by _ telegram_size out (heard_at m line t) refl (more (70 ∷ []) _ _ refl (heard_by m line t)))

pub measure_for_by : MeasureForBy
unfolding any
measure_for_by b v e t =
    follow_by _ (meter_from b) _ (more (101 ∷ []) _ _ refl (meter_record_by b))
    (λ m. more (70 ∷ 71 ∷ []) _ _ refl (measure_by m v e t))

pub drawing_by : DrawingBy
unfolding any
drawing_by b out =
    placed_by _ (length (picture_of b)) out _ refl (within_by _ _ (check_of b) (more bundle_numbers _ _ refl (bundle_by b)))

pub verdicts_by : VerdictsBy
unfolding verdicts_in
verdicts_by b = within_by _ _ (check_of b) (bundle_by b)

pub kept_verdicts_by : KeptVerdictsBy
unfolding any verdicts_kept
kept_verdicts_by lists b =
    follow_by _ (columns_from lists) _ (more (101 ∷ []) _ _ refl (lists_by lists))
    (λ c. refuse_by _ 34 (wrong_rows 0 (kept_rows c)) _ refl (refuse_by _ 35 (any (body_past (length b)) (kept_rows c)) _ refl (reads_by _ _)))

pub verdicts_into_by : VerdictsIntoBy
unfolding any
verdicts_into_by b out =
    follow_by _ (verdicts_in b) _ (more bundle_numbers _ _ refl (verdicts_by b)) (λ v. needs_by _ (4 * length v) out _ refl (reads_by _ _))

pub kept_verdicts_into_by : KeptVerdictsIntoBy
unfolding any
kept_verdicts_into_by lists b out =
    follow_by _ (verdicts_kept lists b) _ (more (101 ∷ 34 ∷ 35 ∷ []) _ _ refl (kept_verdicts_by lists b))
    (λ v. needs_by _ (4 * length v) out _ refl (reads_by _ _))

pub verdict_into_by : VerdictIntoBy
unfolding any
verdict_into_by b i out =
    needs_by _ 4 out _ refl
    (follow_by _ (verdicts_in b) _ (more bundle_numbers _ _ refl (verdicts_by b)) (λ v. refuse_by _ 39 (leb (length v) i) _ refl (reads_by _ _)))
