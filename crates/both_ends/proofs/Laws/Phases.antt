-- What holds as long as nothing was obeyed, what holds from the first line that was, and that whatever happens next keeps it.
use Prim.Native.Nat.{ℕ, ◌+◌, ◌≤◌, ◌<◌}
use native.Mathlib.Nat.{le_refl, le_trans}
use native.Mathlib.Omega.{arith}
use mathlib.Core.Bool.{Bool, true, false, cond, ◌&&◌}
use mathlib.Core.List.{List, [], ◌∷◌, ◌++◌}
use mathlib.Core.Logic.{◌⊎◌, inl, inr, ⊎_elim}
use mathlib.Core.Path.{◌≡◌, refl, sym, ap, subst, ◌∙◌}
use lib.Dec.{eqb, ltb}
use borrow.Author.Tests.{eq-eqb}
use Rattle.bench_clock.specs.declared.Clock.{Clock}
use Rattle.bench_clock.specs.Times.{return_time}
use Rattle.mbus_rules.specs.declared.Request.{Request}
use Rattle.mbus_rules.specs.declared.Request.TheVariants.{Read, Enter, Leave}
use Rattle.mbus_rules.specs.declared.Outline.TheVariants as outlines
use Rattle.base_rules.specs.Answers.{Answer, reads, refusal}
use Rattle.mbus_rules.specs.Outlines.{outlined}
use Rattle.mbus_shape.specs.Shapes.{asked_of}
use Rattle.base_characters.specs.Flips.{Place, flips}
use Rattle.exchange_steps.specs.declared.Exchange.{Exchange}
use Rattle.exchange_steps.specs.declared.State.{State}
use Rattle.exchange_steps.specs.declared.Slot.TheVariants.{Busy}
use Rattle.exchange_steps.specs.Steps.{most_sends, failed, after_tick, waits, sending, begun, past, is_well}
use Rattle.exchange_steps.proofs.Laws.Steps.{step_cases, send_cases, in_progress_is}
use Rattle.exchange_steps.specs.declared.Cause.{Cause}
use Rattle.exchange_steps.specs.declared.Cause.TheVariants.{Silent}
use Rattle.meter_template.specs.declared.Pair.{Pair}
use Rattle.meter_steps.specs.declared.Core.{Core}
use Rattle.meter_steps.specs.declared.Meter.{Meter}
use Rattle.meter_steps.specs.declared.Mode.{Mode}
use Rattle.meter_steps.specs.declared.Mode.TheVariants.{Use, Verifying}
use Rattle.exchange_steps.specs.Histories.{exchange_after}
use Rattle.meter_steps.specs.Histories.{is_read}
use Rattle.meter_steps.specs.Meters.{Deed, quiet, zeros, mode_at, with_mode, returned, cleared_from, instructed}
use Rattle.both_ends.specs.Line.{Between, Happening, reaches_meter, lost_to_meter, reaches_bench, lost_to_bench, ticks, send_ends, measures}
use Rattle.both_ends.specs.Line.{own_ends, request_line, lines_sent, cleared_by, without_first, with_bench, with_meter, meter_hears}
use Rattle.both_ends.specs.Line.{at_meter, at_bench, happens, alone_after}
use Rattle.both_ends.specs.Hypotheses.{time_at, UpToThree, FewInFirst, FewFlipped}
use Rattle.both_ends.specs.Statements.{Done, clears_at_most, obeying}
use Rattle.both_ends.proofs.Laws.Meters.{returned_again, settles, again, core_stays, measure_both, force_twins, added_twins, sides}
use Rattle.both_ends.proofs.Laws.Arrivals.{Readable, asked_outlined, obeyed_or_quiet}

-- ---- lines on their way to the meter

-- every line of a list is this line
abbrev pub AllAre : List ℕ → List (List ℕ) → Type 0
AllAre l [] = Unit {0}
AllAre l (s ∷ ss) = (s ≡ l) × AllAre l ss

all_behind : (l : List ℕ) (ss : List (List ℕ)) → AllAre l ss → AllAre l (without_first ss)
all_behind l [] a = tt
all_behind l (s ∷ ss) a = a.1

all_joined : (l : List ℕ) (ss ts : List (List ℕ)) → AllAre l ss → AllAre l ts → AllAre l (ss ++ ts)
all_joined l [] ts a b = b
all_joined l (s ∷ ss) ts a b = (a.0, all_joined l ss ts a.1 b)

-- ---- the exchange

-- every step of the exchange keeps its request,
module _ (x : Exchange) (q : Request) (request : x.request ≡ q) (t : Clock) where
  abbrev Asks : Answer Exchange → Type 0
  Asks a = (exchange_after x a).request ≡ q

  tick_asks : Asks (own_ends.tick x t)
  tick_asks = step_cases x t Asks (waits x.state) _ (λ n. request) (λ h c. request)

  heard_asks : (line : List ℕ) → Asks (own_ends.heard x line t)
  heard_asks line = step_cases x t Asks (waits x.state) _ (λ n. request) (λ h c. request)

  -- at the end of a send: of the request that it was begun with, on this exchange
  sent_cases : (P : Answer Exchange → Type 0) → ((n : ℕ) → P (refusal n)) → ((y : Exchange) → y.request ≡ q → is_well y.state ≡ false → P (reads y))
      → P (own_ends.sent x t)
  sent_cases P refused taken =
      send_cases (Busy x) (outlined (reads (asked_of x.request))) t P refused
      (λ none other e. taken (begun other t) (let same : outlines.Asks other ≡ outlines.Asks x.request = sym e ∙ asked_outlined x.request in cc) refl)
      (λ y e asked l c. let same : Busy x ≡ Busy y = in_progress_is (Busy x) y e in taken (sending y.request (y.sends + 1) t) (cc) refl)

  sent_asks : Asks (own_ends.sent x t)
  sent_asks = sent_cases Asks (λ n. request) (λ y asked unfinished. asked)

  -- a send is one of that request,
  sent_lines : AllAre (request_line q) (lines_sent (own_ends.sent x t))
  sent_lines = sent_cases (λ (a : Answer Exchange). AllAre (request_line q) (lines_sent a)) (λ n. tt) (λ y asked unfinished. (ap request_line asked, tt))

-- and neither a tick nor a send ends it well.
failed_unfinished : (sends : ℕ) (cause : Cause) → is_well (failed sends cause) ≡ false
failed_unfinished sends cause = go (ltb sends most_sends)
  where
    go : (b : Bool) → is_well (cond b (State.Resend cause) (State.Failed cause)) ≡ false
    go true = refl
    go false = refl

tick_state : (sends : ℕ) (silent : Bool) → is_well (after_tick sends silent) ≡ false
tick_state sends true = failed_unfinished sends Silent
tick_state sends false = refl

module _ (x : Exchange) (t : Clock) (unfinished : is_well x.state ≡ false) where
  abbrev Unfinished : Answer Exchange → Type 0
  Unfinished a = is_well (exchange_after x a).state ≡ false

  tick_unfinished : Unfinished (own_ends.tick x t)
  tick_unfinished = step_cases x t Unfinished (waits x.state) _ (λ n. unfinished) (λ h c. tick_state x.sends (past x t))

  sent_unfinished : Unfinished (own_ends.sent x t)
  sent_unfinished = sent_cases x x.request refl t Unfinished (λ n. unfinished) (λ y asked waiting. waiting)

-- ---- how often the totals were cleared

uncleared : (p r : Pair) → p ≡ r → cleared_by p r ≡ 0
uncleared p r e = rw (eq-eqb p.volume r.volume (ap (λ (x : Pair). x.volume) e), eq-eqb p.energy r.energy (ap (λ (x : Pair). x.energy) e))

-- An instruction clears the totals once, and only an enter that comes from use does.
pub record ClearsFromUse (q : Request) (mode : Mode) (k : ℕ) : Type 0 where
  pub at_most : k ≤ clears_at_most q
  pub from_use : mode ≡ Use

abbrev pub Clears : Request → Mode → ℕ → Type 0
Clears q mode k = (k ≡ 0) ⊎ ClearsFromUse q mode k

cleared_once : (p r : Pair) → cleared_by p r ≤ 1
cleared_once p r = go (eqb p.volume r.volume && eqb p.energy r.energy)
  where
    go : (b : Bool) → cond b 0 1 ≤ 1
    go true = omega arith
    go false = omega arith

instruction_clears : (t : Clock) (q : Request) (c : Core) → Clears q c.mode (cleared_by c.verified (instructed t c q).core.verified)
instruction_clears t (Read a) c = inl (uncleared c.verified c.verified refl)
instruction_clears t (Leave a) c = inl (uncleared c.verified c.verified refl)
instruction_clears t (Enter a s) c = go c.mode
  where
    go : (mode : Mode) → Clears (Enter a s) mode (cleared_by c.verified (cleared_from mode c.verified))
    go Use = inr (record { at_most = cleared_once c.verified zeros; from_use = refl })
    go (Verifying s' since) = inl (uncleared c.verified c.verified refl)

-- ---- the two phases

module _ (q : Request) (first : Clock) where
  -- Nothing was obeyed: no answer is on its way, so that the exchange did not end well, and the meter is as the one that is alone.
  pub record Free (now : ℕ) (w : Between) (n : Meter) : Type 0 where
    pub begun : first.0 ≤ now
    pub request : w.bench.request ≡ q
    pub unfinished : is_well w.bench.state ≡ false
    pub lines : AllAre (request_line q) w.to_meter
    pub silent : w.to_bench ≡ []
    pub alike : (t : Clock) → now ≤ t.0 → returned t w.meter.core ≡ returned t n.core
    pub last : w.meter.last.0 ≤ now
    pub last_alone : n.last.0 ≤ now
    pub cleared : w.clearings ≡ 0

  -- The request was obeyed: the meter has done what it asks and is, but for the time of that, as one that obeyed it once and then only measured.
  pub record Held (now k : ℕ) (w : Between) (n : Meter) : Type 0 where
    pub begun : first.0 ≤ now
    pub request : w.bench.request ≡ q
    pub lines : AllAre (request_line q) w.to_meter
    pub twins : with_mode w.meter.core Use ≡ with_mode n.core Use
    pub done : Done first q w.meter.core.mode
    pub done_once : Done first q n.core.mode
    pub last : w.meter.last.0 ≤ now
    pub last_once : n.last.0 ≤ now
    pub cleared : w.clearings ≡ k

  -- ---- nothing was obeyed, with another exchange or another meter

  module _ (now later : ℕ) (h : now ≤ later) (w : Between) (n : Meter) (f : Free now w n) where
    free_bench : (x : Exchange) (down up : List (List ℕ)) → x.request ≡ q → is_well x.state ≡ false → AllAre (request_line q) down → up ≡ []
        → Free later (with_bench w x down up) n
    free_bench x down up request unfinished all none = record {
      begun = le_trans f.begun h;
      request = request;
      unfinished = unfinished;
      lines = all;
      silent = none;
      alike = λ t g. f.alike t (le_trans h g);
      last = le_trans f.last h;
      last_alone = le_trans f.last_alone h;
      cleared = f.cleared;
    }

    pub free_later : Free later w n
    free_later = free_bench w.bench w.to_meter w.to_bench f.request f.unfinished f.lines f.silent

    free_meter : (m k : Meter) (down up : List (List ℕ)) (cleared : ℕ) → AllAre (request_line q) down → up ≡ []
        → ((t : Clock) → later ≤ t.0 → returned t m.core ≡ returned t k.core) → m.last.0 ≤ later → k.last.0 ≤ later → cleared ≡ 0
        → Free later (with_meter w m down up cleared) k
    free_meter m k down up cleared all none alike last last_alone uncleared = record {
      begun = le_trans f.begun h;
      request = f.request;
      unfinished = f.unfinished;
      lines = all;
      silent = none;
      alike = alike;
      last = last;
      last_alone = last_alone;
      cleared = omega (arith, f.cleared);
    }

  -- ---- the request was obeyed, with another exchange or another meter

  module _ (now later k : ℕ) (h : now ≤ later) (w : Between) (n : Meter) (f : Held now k w n) where
    held_bench : (x : Exchange) (down up : List (List ℕ)) → x.request ≡ q → AllAre (request_line q) down → Held later k (with_bench w x down up) n
    held_bench x down up request all = record {
      begun = le_trans f.begun h;
      request = request;
      lines = all;
      twins = f.twins;
      done = f.done;
      done_once = f.done_once;
      last = le_trans f.last h;
      last_once = le_trans f.last_once h;
      cleared = f.cleared;
    }

    pub held_later : Held later k w n
    held_later = held_bench w.bench w.to_meter w.to_bench f.request f.lines

    held_meter : (m r : Meter) (down up : List (List ℕ)) (cleared : ℕ) → AllAre (request_line q) down → with_mode m.core Use ≡ with_mode r.core Use
        → Done first q m.core.mode → Done first q r.core.mode → m.last.0 ≤ later → r.last.0 ≤ later → cleared ≡ 0
        → Held later k (with_meter w m down up cleared) r
    held_meter m r down up cleared all twins done once last last_once uncleared = record {
      begun = le_trans f.begun h;
      request = f.request;
      lines = all;
      twins = twins;
      done = done;
      done_once = once;
      last = last;
      last_once = last_once;
      cleared = omega (arith, f.cleared);
    }

  module _ (plain : is_read q ≡ false) (readable : Readable q) where
    -- ---- nothing was obeyed

    module _ (now : ℕ) (w : Between) (n : Meter) (f : Free now w n) where
      -- what a line that reaches the meter at t leaves: nothing was obeyed still, or the request was obeyed now
      abbrev Next : Clock → Between → Type 0
      Next t v = Free t.0 v n ⊎ ((k : ℕ) × Held t.0 k v (obeying t q n) × Clears q (mode_at t n.core.mode) k)

      module _ (t : Clock) (h : now ≤ t.0) (rest : List (List ℕ)) (all : AllAre (request_line q) rest) where
        abbrev found : Core
        found = returned t w.meter.core

        same : found ≡ returned t n.core
        same = f.alike t h

        free-quiet : Next t (meter_hears w t rest (reads (quiet found)))
        free-quiet =
            inl (free_meter now t.0 h w n f (record { last = t; core = found }) n rest (w.to_bench ++ []) _ all
            (ap (λ (ss : List (List ℕ)). ss ++ []) f.silent) (λ u g. returned_again t u w.meter.core g ∙ f.alike u (le_trans h g)) (le_refl t.0)
            (le_trans f.last_alone h) (uncleared w.meter.core.verified w.meter.core.verified refl))

        free-obeys : Next t (meter_hears w t rest (reads (instructed t found q)))
        free-obeys = inr (
          cleared_by found.verified (instructed t found q).core.verified,
          record {
            begun = le_trans f.begun h;
            request = f.request;
            lines = all;
            twins = ap (λ (c : Core). with_mode (instructed t c q).core Use) same;
            done = settles first t q found plain (le_trans f.begun h);
            done_once = settles first t q (returned t n.core) plain (le_trans f.begun h);
            last = le_refl t.0;
            last_once = le_refl t.0;
            cleared = omega (arith, f.cleared);
          },
          subst (λ (mode : Mode). Clears q mode (cleared_by found.verified (instructed t found q).core.verified)) (ap (λ (c : Core). c.mode) same)
              (instruction_clears t q found),
        )

        free-hears : (ps : List Place) → UpToThree (request_line q) ps → Next t (meter_hears w t rest (own_ends.hears w.meter (flips ps (request_line q)) t))
        free-hears ps few =
            ⊎_elim (λ e. subst (λ (a : Answer Deed). Next t (meter_hears w t rest a)) (sym e) free-obeys)
            (λ e. subst (λ (a : Answer Deed). Next t (meter_hears w t rest a)) (sym e) free-quiet)
            (obeyed_or_quiet q readable ps few w.meter t (le_trans f.last h))

      free-reaches : (t : Clock) → now ≤ t.0 → (ps : List Place) (ss : List (List ℕ)) → AllAre (request_line q) ss → FewInFirst ss ps
          → Next t (at_meter own_ends w t ps ss)
      free-reaches t h ps [] all few = inl (free_later now t.0 h w n f)
      free-reaches t h ps (line ∷ rest) all few =
          subst (λ (s : List ℕ). UpToThree s ps → Next t (meter_hears w t rest (own_ends.hears w.meter (flips ps s) t))) (sym all.0)
          (free-hears t h rest all.1 ps) few

      -- no line is on its way to the bench, so none reaches it
      free-deaf : (t : Clock) → now ≤ t.0 → (ps : List Place) (ss : List (List ℕ)) → ss ≡ [] → Free t.0 (at_bench own_ends w t ps ss) n
      free-deaf t h ps ss e =
          subst (λ (ss : List (List ℕ)). Free t.0 (at_bench own_ends w t ps ss) n) (sym e) (free_later now t.0 h w n f)

      -- both meters measure, or both are refused
      free-measures : (t : Clock) → now ≤ t.0 → (v e : ℕ) → Free t.0 (happens own_ends w (measures v e t)) (alone_after own_ends n (measures v e t))
      unfolding happens
      free-measures t h v e =
          measure_both (λ (m k : Meter). Free t.0 (with_meter w m w.to_meter w.to_bench 0) k) w.meter n
          (returned t w.meter.core) (returned t w.meter.core) t v e (le_trans f.last h) (le_trans f.last_alone h) refl (sym (f.alike t h)) refl
          (free_meter now t.0 h w n f w.meter n w.to_meter w.to_bench 0 f.lines f.silent (λ u g. f.alike u (le_trans h g))
          (le_trans f.last h) (le_trans f.last_alone h) refl)
          (free_meter now t.0 h w n f _ _ w.to_meter w.to_bench 0 f.lines f.silent (λ u g. refl) (le_refl t.0) (le_refl t.0) refl)

      -- Whatever happens next: nothing was obeyed still; or a line reached the meter, which obeyed.
      pub record Begins (h : Happening) : Type 0 where
        pub at : Clock
        pub flipped : List Place
        pub arrival : h ≡ reaches_meter at flipped
        pub count : ℕ
        pub held : Held at.0 count (happens own_ends w h) (obeying at q n)
        pub clears : Clears q (mode_at at n.core.mode) count

      begins : (t : Clock) (ps : List Place) → Next t (happens own_ends w (reaches_meter t ps))
          → Free t.0 (happens own_ends w (reaches_meter t ps)) n ⊎ Begins (reaches_meter t ps)
      begins t ps next =
          ⊎_elim inl (λ k. inr (record { at = t; flipped = ps; arrival = refl; count = k.0; held = k.1; clears = k.2 })) next

      pub free-next : (h : Happening) → now ≤ time_at now h → FewFlipped w h
          → Free (time_at now h) (happens own_ends w h) (alone_after own_ends n h) ⊎ Begins h
      unfolding happens
      free-next (reaches_meter t ps) h few = begins t ps (free-reaches t h ps w.to_meter f.lines few)
      free-next lost_to_meter h few =
          inl (free_bench now now h w n f w.bench (without_first w.to_meter) w.to_bench f.request f.unfinished
          (all_behind (request_line q) w.to_meter f.lines) f.silent)
      free-next (reaches_bench t ps) h few = inl (free-deaf t h ps w.to_bench f.silent)
      free-next lost_to_bench h few =
          inl (free_bench now now h w n f w.bench w.to_meter (without_first w.to_bench) f.request f.unfinished f.lines
          (ap without_first f.silent))
      free-next (ticks t) h few =
          inl (free_bench now t.0 h w n f (exchange_after w.bench (own_ends.tick w.bench t)) w.to_meter w.to_bench
          (tick_asks w.bench q f.request t) (tick_unfinished w.bench t f.unfinished) f.lines f.silent)
      free-next (send_ends t) h few =
          inl (free_bench now t.0 h w n f (exchange_after w.bench (own_ends.sent w.bench t)) (w.to_meter ++ lines_sent (own_ends.sent w.bench t))
          w.to_bench (sent_asks w.bench q f.request t) (sent_unfinished w.bench t f.unfinished)
          (all_joined (request_line q) w.to_meter _ f.lines (sent_lines w.bench q f.request t)) f.silent)
      free-next (measures v e t) h few = inl (free-measures t h v e)

    -- ---- the request was obeyed

    module _ (now k : ℕ) (w : Between) (n : Meter) (f : Held now k w n) where
      held-deaf : (t : Clock) → now ≤ t.0 → (ps : List Place) (ss : List (List ℕ)) → Held t.0 k (at_bench own_ends w t ps ss) n
      held-deaf t h ps [] = held_later now t.0 k h w n f
      held-deaf t h ps (line ∷ rest) =
          held_bench now t.0 k h w n f (exchange_after w.bench (own_ends.heard w.bench (flips ps line) t)) w.to_meter rest
          (heard_asks w.bench q f.request t (flips ps line)) f.lines

      module _ (t : Clock) (h : now ≤ t.0) (within : t.0 < first.0 + return_time) where
        -- a line that the meter takes: beside the mode it leaves what was there
        held-line : (c : Core) (up rest : List (List ℕ)) → with_mode c Use ≡ with_mode w.meter.core Use → Done first q c.mode
            → AllAre (request_line q) rest
            → Held t.0 k (with_meter w (record { last = t; core = c }) rest up (cleared_by w.meter.core.verified c.verified)) n
        held-line c up rest same done all =
            held_meter now t.0 k h w n f (record { last = t; core = c }) n rest up _ all (same ∙ f.twins) done f.done_once (le_refl t.0)
            (le_trans f.last_once h) (uncleared w.meter.core.verified c.verified (sym (ap (λ (x : Core). x.verified) same)))

        stays : returned t w.meter.core ≡ w.meter.core
        stays = core_stays first t q w.meter.core f.done within

        held-hears : (ps : List Place) (rest : List (List ℕ)) → AllAre (request_line q) rest → UpToThree (request_line q) ps
            → Held t.0 k (meter_hears w t rest (own_ends.hears w.meter (flips ps (request_line q)) t)) n
        held-hears ps rest all few =
            ⊎_elim
            (λ e. subst (λ (a : Answer Deed). Held t.0 k (meter_hears w t rest a) n)
            (sym (e ∙ ap (λ (c : Core). reads (instructed t c q)) stays))
            (held-line (instructed t w.meter.core q).core _ rest (again first t q w.meter.core f.done)
            (settles first t q w.meter.core plain (le_trans f.begun h)) all))
            (λ e. subst (λ (a : Answer Deed). Held t.0 k (meter_hears w t rest a) n) (sym (e ∙ ap (λ (c : Core). reads (quiet c)) stays))
            (held-line w.meter.core _ rest refl f.done all))
            (obeyed_or_quiet q readable ps few w.meter t (le_trans f.last h))

        held-reaches : (ps : List Place) (ss : List (List ℕ)) → AllAre (request_line q) ss → FewInFirst ss ps → Held t.0 k (at_meter own_ends w t ps ss) n
        held-reaches ps [] all few = held_later now t.0 k h w n f
        held-reaches ps (line ∷ rest) all few =
            subst (λ (s : List ℕ). UpToThree s ps → Held t.0 k (meter_hears w t rest (own_ends.hears w.meter (flips ps s) t)) n) (sym all.0)
            (held-hears ps rest all.1) few

        held-measures : (v e : ℕ) → Held t.0 k (happens own_ends w (measures v e t)) (alone_after own_ends n (measures v e t))
        unfolding happens
        held-measures v e =
            let side = sides first q w.meter.core n.core f.done f.done_once in
            measure_both (λ (m r : Meter). Held t.0 k (with_meter w m w.to_meter w.to_bench 0) r) w.meter n w.meter.core n.core t v e
            (le_trans f.last h) (le_trans f.last_once h) stays (core_stays first t q n.core f.done_once within)
            (force_twins w.meter.core n.core f.twins side)
            (held_meter now t.0 k h w n f w.meter n w.to_meter w.to_bench 0 f.lines f.twins f.done f.done_once
            (le_trans f.last h) (le_trans f.last_once h) refl)
            (held_meter now t.0 k h w n f _ _ w.to_meter w.to_bench 0 f.lines (added_twins w.meter.core n.core v e f.twins side)
            f.done f.done_once (le_refl t.0) (le_refl t.0) refl)

      -- Whatever happens next within 30 minutes of the first send leaves it so.
      pub held_next : (h : Happening) → now ≤ time_at now h → time_at now h < first.0 + return_time → FewFlipped w h
          → Held (time_at now h) k (happens own_ends w h) (alone_after own_ends n h)
      unfolding happens
      held_next (reaches_meter t ps) h within few = held-reaches t h within ps w.to_meter f.lines few
      held_next lost_to_meter h within few =
          held_bench now now k h w n f w.bench (without_first w.to_meter) w.to_bench f.request
          (all_behind (request_line q) w.to_meter f.lines)
      held_next (reaches_bench t ps) h within few = held-deaf t h ps w.to_bench
      held_next lost_to_bench h within few = held_bench now now k h w n f w.bench w.to_meter (without_first w.to_bench) f.request f.lines
      held_next (ticks t) h within few =
          held_bench now t.0 k h w n f (exchange_after w.bench (own_ends.tick w.bench t)) w.to_meter w.to_bench
          (tick_asks w.bench q f.request t) f.lines
      held_next (send_ends t) h within few =
          held_bench now t.0 k h w n f (exchange_after w.bench (own_ends.sent w.bench t)) (w.to_meter ++ lines_sent (own_ends.sent w.bench t))
          w.to_bench (sent_asks w.bench q f.request t)
          (all_joined (request_line q) w.to_meter _ f.lines (sent_lines w.bench q f.request t))
      held_next (measures v e t) h within few = held-measures t h within v e
