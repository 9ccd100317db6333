-- One line of a request that arrives at the meter, with up to three bits flipped: it is the request, or it is refused.
use Prim.Native.Nat.{ℕ, ◌≤◌, ◌<◌}
use mathlib.Core.Bool.{true, false}
use mathlib.Core.List.{List}
use mathlib.Core.Logic.{◌⊎◌, inl, inr, ⊎_elim}
use mathlib.Core.Path.{◌≡◌, refl, ap, ◌∙◌}
use borrow.Author.Tests.{le-ltb}
use Rattle.bench_clock.specs.declared.Clock.{Clock}
use Rattle.mbus_rules.specs.declared.Kind.TheVariants as kinds
use Rattle.mbus_rules.specs.declared.Request.{Request}
use Rattle.mbus_rules.specs.declared.Request.TheVariants.{Read, Enter, Leave}
use Rattle.mbus_rules.specs.declared.Telegram.{Telegram}
use Rattle.mbus_rules.specs.declared.Outline.TheVariants as outlines
use Rattle.base_rules.specs.Answers.{Answer, reads, refusal}
use Rattle.base_characters.specs.Flips.{Place, flips}
use Rattle.base_rules.specs.Lists.{any}
use Rattle.mbus_rules.specs.Lines.{read_line, is_method}
use Rattle.mbus_rules.specs.Telegrams.{enter_of, leave_of}
use Rattle.mbus_rules.specs.Outlines.{outlined}
use Rattle.mbus_rules.specs.Writing.{unwritable}
use Rattle.mbus_rules.proofs.Laws.LineCode.{accepted_is_sent}
use Rattle.mbus_rules.proofs.Laws.LineLaws.{bare_sized}
use Rattle.mbus_rules.proofs.Laws.RoundTrip.{write_then_read}
use Rattle.base_rules.proofs.Laws.Tests.{by_test}
use Rattle.mbus_shape.specs.Shapes.{asked_of}
use Rattle.meter_steps.specs.declared.Meter.{Meter}
use Rattle.meter_steps.specs.Meters.{quiet, returned, addressed, instructed}
use Rattle.both_ends.specs.Line.{own_ends, request_line}
use Rattle.both_ends.specs.Hypotheses.{UpToThree}

-- ---- the lines of the requests read as them

-- the line of the request reads as its telegram
abbrev pub Readable : Request → Type 0
Readable q = read_line (request_line q) ≡ reads (asked_of q)

enter_writable : (a s : ℕ) → is_method s ≡ true → unwritable (enter_of a s) ≡ false
unfolding unwritable any
enter_writable a s h = rw h

pub enter_readable : (a s : ℕ) → a < 256 → is_method s ≡ true → Readable (Enter a s)
enter_readable a s h m = write_then_read (enter_of a s) (bare_sized kinds.Enter a s h) (enter_writable a s m)

leave_writable : (a : ℕ) → unwritable (leave_of a) ≡ false
unfolding unwritable any
leave_writable a = refl

pub leave_readable : (a : ℕ) → a < 256 → Readable (Leave a)
leave_readable a h = write_then_read (leave_of a) (bare_sized kinds.Leave a 0 h) (leave_writable a)

-- ---- what arrives

pub asked_outlined : (q : Request) → outlined (reads (asked_of q)) ≡ outlines.Asks q
asked_outlined (Read a) = refl
asked_outlined (Enter a s) = refl
asked_outlined (Leave a) = refl

pub whole_outlined : (q : Request) → Readable q → outlined (read_line (request_line q)) ≡ outlines.Asks q
whole_outlined q readable = ap outlined readable ∙ asked_outlined q

module _ (q : Request) (readable : Readable q) (ps : List Place) (few : UpToThree (request_line q) ps) where
  -- A line with up to three flips that is accepted is the line that was sent.
  pub arrives : (outlined (read_line (flips ps (request_line q))) ≡ outlines.Asks q)
      ⊎ ((n : ℕ) × (outlined (read_line (flips ps (request_line q))) ≡ outlines.Refused n))
  arrives = go (read_line (flips ps (request_line q))) refl
    where
      go : (a : Answer Telegram) → read_line (flips ps (request_line q)) ≡ a
          → (outlined (read_line (flips ps (request_line q))) ≡ outlines.Asks q)
          ⊎ ((n : ℕ) × (outlined (read_line (flips ps (request_line q))) ≡ outlines.Refused n))
      go (refusal n) e = inr (n, ap outlined e)
      go (reads x) e =
          let same = accepted_is_sent (request_line q) ps (asked_of q, readable) few.places few.few (x, e) in
          inl (ap (λ (s : List ℕ). outlined (read_line s)) same ∙ whole_outlined q readable)

-- ---- what the meter makes of it

module _ (m : Meter) (line : List ℕ) (t : Clock) (in_time : m.last.0 ≤ t.0) where
  -- A damaged line gets silence, and nothing but the return happens;
  damaged_quiet : (n : ℕ) → outlined (read_line line) ≡ outlines.Refused n → own_ends.hears m line t ≡ reads (quiet (returned t m.core))
  damaged_quiet n refused = rw (le-ltb t.0 m.last.0 in_time, refused)

  -- a request to another address likewise;
  unasked_quiet : (q : Request) → outlined (read_line line) ≡ outlines.Asks q → addressed m.core.address q ≡ false
      → own_ends.hears m line t ≡ reads (quiet (returned t m.core))
  unasked_quiet q asks other = rw (le-ltb t.0 m.last.0 in_time, asks, other)

  -- an instruction is obeyed.
  pub whole_obeyed : (q : Request) → outlined (read_line line) ≡ outlines.Asks q → addressed m.core.address q ≡ true
      → own_ends.hears m line t ≡ reads (instructed t (returned t m.core) q)
  whole_obeyed q asks own = rw (le-ltb t.0 m.last.0 in_time, asks, own)

-- So a line of the request is obeyed, or it gets silence.
pub obeyed_or_quiet : (q : Request) → Readable q → (ps : List Place) → UpToThree (request_line q) ps → (m : Meter) (t : Clock) → m.last.0 ≤ t.0
    → (own_ends.hears m (flips ps (request_line q)) t ≡ reads (instructed t (returned t m.core) q))
    ⊎ (own_ends.hears m (flips ps (request_line q)) t ≡ reads (quiet (returned t m.core)))
obeyed_or_quiet q readable ps few m t h =
    ⊎_elim
    (λ asks. by_test (addressed m.core.address q)
    (λ own. inl (whole_obeyed m (flips ps (request_line q)) t h q asks own))
    (λ other. inr (unasked_quiet m (flips ps (request_line q)) t h q asks other)))
    (λ refused. inr (damaged_quiet m (flips ps (request_line q)) t h refused.0 refused.1))
    (arrives q readable ps few)
