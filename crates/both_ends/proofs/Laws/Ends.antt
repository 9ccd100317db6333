-- Whatever happens between both ends, from the first send to the end: the statements for 01's exchange and meter.
use Prim.Native.Nat.{ℕ, ◌+◌, ◌≤◌, ◌<◌}
use native.Mathlib.Nat.{le_refl, le_trans, lt_of_le_of_lt}
use native.Mathlib.Omega.{arith}
use mathlib.Core.Bool.{true, false, true≢false}
use mathlib.Core.List.{List, [], ◌∷◌, ◌++◌}
use mathlib.Core.Logic.{◌⊎◌, inl, inr, ⊎_elim}
use mathlib.Core.Path.{◌≡◌, refl, sym, ap, subst, ◌∙◌}
use borrow.Author.Tests.{le-ltb}
use lib.Count.{ones_in}
use Rattle.bench_clock.specs.declared.Clock.{Clock}
use Rattle.bench_clock.specs.Times.{reply_time, return_time}
use Rattle.bench_clock.proofs.Laws.Times.{le_late}
use Rattle.mbus_rules.specs.declared.Request.{Request}
use Rattle.mbus_rules.specs.declared.Request.TheVariants.{Read, Enter, Leave}
use Rattle.mbus_rules.specs.declared.Outline.TheVariants as outlines
use Rattle.base_rules.specs.Answers.{Answer, reads}
use Rattle.base_characters.specs.Characters.{odd, carrier}
use Rattle.base_characters.specs.Flips.{Place, flips}
use Rattle.base_rules.specs.Lists.{any}
use Rattle.mbus_rules.specs.Lines.{read_body, read_line}
use Rattle.mbus_rules.specs.Telegrams.{ack}
use Rattle.mbus_rules.specs.Writing.{line_of}
use Rattle.exchange_replies.specs.Fits.{fits}
use Rattle.exchange_steps.specs.declared.State.TheVariants.{Well}
use Rattle.exchange_steps.specs.Steps.{begun, is_well}
use Rattle.meter_steps.specs.declared.Core.{Core}
use Rattle.meter_steps.specs.declared.Meter.{Meter}
use Rattle.meter_steps.specs.declared.Mode.TheVariants.{Use}
use Rattle.exchange_steps.specs.Histories.{exchange_after}
use Rattle.meter_steps.specs.Histories.{is_read}
use Rattle.meter_steps.specs.Meters.{Said, says, Deed, mode_at, returned, addressed, instructed}
use Rattle.both_ends.specs.Line.{Between, Happening, reaches_meter, reaches_bench, own_ends, request_line, lines_said, lines_answered}
use Rattle.both_ends.specs.Line.{meter_hears, at_bench, happens, happened, opening, alone_after, alone}
use Rattle.both_ends.specs.Hypotheses.{time_at, Rising, Fair}
use Rattle.both_ends.specs.Statements.{Done, clears_at_most, obeying, HasDone, BothTold, Entering, Leaving}
use Rattle.both_ends.proofs.Laws.Meters.{core_stays}
use Rattle.both_ends.proofs.Laws.Arrivals.{Readable, enter_readable, leave_readable, whole_outlined, whole_obeyed}
use Rattle.both_ends.proofs.Laws.Phases.{Free, Held, Clears, free_later, held_later, free-next, held_next}

-- times that rise come to the end
in_order : (hs : List Happening) (now end : ℕ) → Rising now end hs → now ≤ end
in_order [] now end r = r
in_order (h ∷ hs) now end r = le_trans r.0 (in_order hs (time_at now h) end r.1)

module _ (q : Request) (first : Clock) (plain : is_read q ≡ false) (readable : Readable q) where
  -- Once obeyed, it stays so.
  held_on : (hs : List Happening) (now end k : ℕ) (w : Between) (n : Meter) → end < first.0 + return_time
      → Held q first now k w n → Rising now end hs → Fair own_ends w hs → Held q first end k (happened own_ends w hs) (alone own_ends n hs)
  unfolding happened alone
  held_on [] now end k w n within f rising fair = held_later q first now end k rising w n f
  held_on (h ∷ hs) now end k w n within f rising fair =
      held_on hs (time_at now h) end k (happens own_ends w h) (alone_after own_ends n h) within
      (held_next q first plain readable now k w n f h rising.0 (lt_of_le_of_lt (in_order hs (time_at now h) end rising.1) within) fair.0)
      rising.1 fair.1

  -- It was obeyed when a line reached the meter, and from then on.
  pub record WasObeyed (m : Meter) (hs : List Happening) (end : ℕ) (w : Between) : Type 0 where
    pub before : List Happening
    pub at : Clock
    pub flipped : List Place
    pub behind : List Happening
    pub history : hs ≡ before ++ (reaches_meter at flipped ∷ behind)
    pub count : ℕ
    pub held : Held q first end count w (alone own_ends (obeying at q (alone own_ends m before)) behind)
    pub clears : Clears q (mode_at at (alone own_ends m before).core.mode) count

  -- one happening more in front
  obeyed_later : (h : Happening) (hs : List Happening) (m : Meter) (end : ℕ) (w : Between)
      → WasObeyed (alone_after own_ends m h) hs end w → WasObeyed m (h ∷ hs) end w
  unfolding alone
  obeyed_later h hs m end w o = record {
    before = h ∷ o.before;
    at = o.at;
    flipped = o.flipped;
    behind = o.behind;
    history = ap (λ (l : List Happening). h ∷ l) o.history;
    count = o.count;
    held = o.held;
    clears = o.clears;
  }

  -- Whatever happens: nothing was obeyed, or the request was.
  free_on : (hs : List Happening) (now end : ℕ) (w : Between) (n : Meter) → end < first.0 + return_time
      → Free q first now w n → Rising now end hs → Fair own_ends w hs
      → Free q first end (happened own_ends w hs) (alone own_ends n hs) ⊎ WasObeyed n hs end (happened own_ends w hs)
  unfolding happened alone
  free_on [] now end w n within f rising fair = inl (free_later q first now end rising w n f)
  free_on (h ∷ hs) now end w n within f rising fair =
      ⊎_elim
      (λ still.
      ⊎_elim inl (λ o. inr (obeyed_later h hs n end _ o))
      (free_on hs (time_at now h) end (happens own_ends w h) (alone_after own_ends n h) within still rising.1 fair.1))
      (λ b. inr (record {
        before = [];
        at = b.at;
        flipped = b.flipped;
        behind = hs;
        history = ap (λ (x : Happening). x ∷ hs) b.arrival;
        count = b.count;
        held = held_on hs b.at.0 end b.count (happens own_ends w h) (obeying b.at q n) within b.held
            (subst (λ (x : Happening). Rising (time_at now x) end hs) b.arrival rising.1) fair.1;
        clears = b.clears;
      }))
      (free-next q first plain readable now w n f h rising.0 fair.0)

  module _ (end : Clock) (within : end.0 < first.0 + return_time) (m : Meter) (ready : m.last.0 ≤ first.0)
      (hs : List Happening) (rising : Rising first.0 end.0 hs) (fair : Fair own_ends (opening q first m) hs) where
    abbrev ending : Between
    ending = happened own_ends (opening q first m) hs

    phases : Free q first end.0 ending (alone own_ends m hs) ⊎ WasObeyed m hs end.0 ending
    phases =
        free_on hs first.0 end.0 (opening q first m) m within
        (record {
          begun = le_refl first.0;
          request = refl;
          unfinished = refl;
          lines = (refl, tt);
          silent = refl;
          alike = λ t g. refl;
          last = ready;
          last_alone = ready;
          cleared = refl;
        }) rising fair

    has_done : (o : WasObeyed m hs end.0 ending) → HasDone q first end ending
    has_done o = subst (λ (c : Core). Done first q c.mode) (sym (core_stays first end q ending.meter.core o.held.done within)) o.held.done

    told_free : Free q first end.0 ending (alone own_ends m hs) → BothTold own_ends m hs q first end ending
    told_free f = record {
      well = λ w. absurd (true≢false (sym (ap is_well w) ∙ f.unfinished));
      badly = λ cause e. inr (f.alike end (le_refl end.0));
      once = omega (arith, f.cleared);
      totals = inl (f.cleared, f.alike end (le_refl end.0));
    }

    few_clearings : (o : WasObeyed m hs end.0 ending) → ending.clearings ≤ clears_at_most q
    few_clearings o = ⊎_elim (λ e. omega (arith, o.held.cleared)) (λ c. omega (arith, o.held.cleared, c.at_most)) o.clears

    from_use : (o : WasObeyed m hs end.0 ending) → 1 ≤ ending.clearings → mode_at o.at (alone own_ends m o.before).core.mode ≡ Use
    from_use o h = ⊎_elim (λ e. absurd (omega (arith, o.held.cleared))) (λ c. c.from_use) o.clears

    told_held : WasObeyed m hs end.0 ending → BothTold own_ends m hs q first end ending
    told_held o = record {
      well = λ w. has_done o;
      badly = λ cause e. inl (has_done o);
      once = few_clearings o;
      totals = inr (record {
        before = o.before;
        at = o.at;
        flipped = o.flipped;
        behind = o.behind;
        history = o.history;
        as_obeyed = o.held.twins;
        cleared_from_use = from_use o;
      });
    }

    pub told : BothTold own_ends m hs q first end ending
    told = ⊎_elim told_free told_held phases

-- ---- an exchange that nothing disturbs

ack_read : read_line (line_of ack) ≡ reads ack
unfolding read_line read_body any odd ones_in line_of carrier
ack_read = refl

ack_fits : (q : Request) → is_read q ≡ false → fits q outlines.Ack ≡ true
ack_fits (Read a) e = absurd (true≢false e)
ack_fits (Enter a s) e = refl
ack_fits (Leave a) e = refl

acknowledges : (t : Clock) (c : Core) (q : Request) → is_read q ≡ false → (instructed t c q).said ≡ says ack
acknowledges t c (Read a) e = absurd (true≢false e)
acknowledges t c (Enter a s) e = refl
acknowledges t c (Leave a) e = refl

-- The first send reaches a meter that it is addressed to, and the answer reaches the bench within the window: it ends well.
module _ (q : Request) (plain : is_read q ≡ false) (readable : Readable q) (m : Meter) (own : addressed m.core.address q ≡ true)
    (first t u : Clock) (ready : m.last.0 ≤ t.0) (after : first.0 ≤ u.0) (in_window : u.0 ≤ first.0 + reply_time) where
  heard_well : (exchange_after (begun q first) (own_ends.heard (begun q first) (line_of ack) u)).state ≡ Well
  heard_well = rw (ack_read, le-ltb u.0 first.0 after, le_late first.0 u.0 in_window, ack_fits q plain)

  pub undisturbed : (happened own_ends (opening q first m) (reaches_meter t [] ∷ reaches_bench u [] ∷ [])).bench.state ≡ Well
  unfolding happened happens flips
  undisturbed =
      subst (λ (a : Answer Deed). (at_bench own_ends (meter_hears (opening q first m) t [] a) u [] (lines_answered a)).bench.state ≡ Well)
      (sym (whole_obeyed m (request_line q) t ready q (whole_outlined q readable) own))
      (subst (λ (s : Said). (at_bench own_ends (meter_hears (opening q first m) t [] (reads (instructed t (returned t m.core) q))) u [] (lines_said s)
      ).bench.state ≡ Well) (sym (acknowledges t (returned t m.core) q plain)) heard_well)

-- ---- the statements

pub entering : Entering own_ends
entering a s h method first end within m ready hs rising fair =
    told (Enter a s) first refl (enter_readable a s h method) end within m ready hs rising fair

pub leaving : Leaving own_ends
leaving a h first end within m ready hs rising fair = told (Leave a) first refl (leave_readable a h) end within m ready hs rising fair
