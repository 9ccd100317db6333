-- What is enough for each call is enough by the rules.
use Prim.Native.Nat.{ℕ, ◌+◌, ◌%◌, ◌<◌}
use mathlib.Core.Bool.{Bool, true, false, not, ◌||◌, or-true, true≢false}
use mathlib.Core.List.{List, [], ◌∷◌, map}
use mathlib.Core.Logic.{◌⊎◌, inl, inr}
use mathlib.Core.Path.{◌≡◌, refl, sym, ap, ◌∙◌}
use native.Mathlib.Omega.{arith}
use borrow.Author.Tests.{lt-ltb, le-ltb}
use lib.Dec.{eqb}
use lib.ListN.{length, length-append}
use Rattle.base_rules.specs.Answers.{Answer, reads, refusal, refuse, follow}
use Rattle.base_rules.specs.Lists.{any, total}
use Rattle.base_rules.proofs.Laws.Tests.{by_test, neither}
use Rattle.base_characters.specs.Characters.{carrier}
use Rattle.text_filling.specs.Texts.{text}
use Rattle.text_words.specs.Refusals.{Row, refusal_texts, words_in, text_of}
use Rattle.text_words.specs.Saying.{fitted, zero_ended}
use Rattle.mbus_rules.specs.declared.Kind.{Kind}
use Rattle.mbus_rules.specs.Telegrams.{read_of, enter_of, leave_of}
use Rattle.mbus_rules.specs.Lines.{is_method, read_line}
use Rattle.mbus_rules.specs.Outlines.{outlined}
use Rattle.mbus_rules.specs.Quantities.{energy, volume}
use Rattle.mbus_rules.specs.Writing.{line_of, unwritable}
use Rattle.mbus_rules.proofs.Laws.RoundTrip.{enough_places}
use Rattle.bench_clock.proofs.Laws.Times.{le_late}
use Rattle.exchange_steps.specs.Steps.{after_line, after_tick, moved, past}
use Rattle.meter_template.specs.Templates.{is_data_kind, lacks, unfit_template, plus}
use Rattle.meter_steps.specs.Meters.{quiet, begun_meter, returned, in_force, with_force, hears, measured}
use Rattle.demands.specs.Succeeds.{RoomIsEnough, command_bytes, RequestsAreWritten, LinesAreHeard}
use Rattle.demands.specs.Succeeds.{TicksAreSteps, TemplatesAreTaken, MeterSteps, WordsAreSaid, VersionIs}

pub room_is_enough : RoomIsEnough
room_is_enough A B size out a x e h = (rw (e, le-ltb (length out) size h), rw (le-ltb (length out) size h) e)

-- ---- requests

read_writable : (a : ℕ) → unwritable (read_of a) ≡ false
unfolding unwritable any
read_writable a = refl

leave_writable : (a : ℕ) → unwritable (leave_of a) ≡ false
unfolding unwritable any
leave_writable a = refl

enter_writable : (a s : ℕ) → is_method s ≡ true → unwritable (enter_of a s) ≡ false
unfolding unwritable any
enter_writable a s m = rw m

a_method : (s : ℕ) → (s ≡ 0x90) ⊎ ((s ≡ 0x91) ⊎ (s ≡ 0x92)) → is_method s ≡ true
a_method s (inl e) = rw e
a_method s (inr (inl e)) = rw e
a_method s (inr (inr e)) = rw e

command_sum : (a s : ℕ) → 0x53 + (a + (0x50 + (s + 0))) ≡ 0x53 + a + 0x50 + s
command_sum a s = omega arith

-- a command's line, with its sum
commanded : (a s n : ℕ) → n ≡ 0x53 + a + 0x50 + s
    → map carrier (0x68 ∷ 0x04 ∷ 0x04 ∷ 0x68 ∷ 0x53 ∷ a ∷ 0x50 ∷ s ∷ n % 256 ∷ 0x16 ∷ []) ≡ map carrier (command_bytes a s)
commanded a s n e = rw e

pub requests_are_written : RequestsAreWritten
unfolding line_of total
requests_are_written a out = (
  λ h. enough_places (read_of a) (length out) (read_writable a) h
      ∙ ap (λ (n : ℕ). reads (map carrier (0x10 ∷ 0x5B ∷ a ∷ n % 256 ∷ 0x16 ∷ []))) (sum_of a),
  λ s m h. enough_places (enter_of a s) (length out) (enter_writable a s (a_method s m)) h ∙ ap reads (commanded a s _ (command_sum a s)),
  λ h. enough_places (leave_of a) (length out) (leave_writable a) h ∙ ap reads (commanded a 0 _ (command_sum a 0)),
)
  where
    sum_of : (a : ℕ) → 0x5B + (a + 0) ≡ 0x5B + a
    sum_of a = omega arith

-- ---- the bench

-- ---- the exchange and the meter

pub lines_are_heard : LinesAreHeard
lines_are_heard x line t waiting on = (
  moved x (after_line x.request x.sends (past x t) (outlined (read_line line))) t,
  rw (le-ltb t.0 x.last.0 on, waiting),
)

pub ticks_are_steps : TicksAreSteps
ticks_are_steps x t waiting on = (
  (moved x (after_tick x.sends (past x t)) t, rw (le-ltb t.0 x.last.0 on, waiting)),
  λ in_time. rw (le-ltb t.0 x.last.0 on, waiting, le_late x.began.0 t.0 in_time),
)

all_four : (a b c d : Bool) → a ≡ false → b ≡ false → c ≡ false → d ≡ false → (a || b || c || d) ≡ false
all_four a b c d p q r s = rw (p, q, r, s)

pub templates_are_taken : TemplatesAreTaken
templates_are_taken own t data_kind writable e v =
    let fit : unfit_template t ≡ false =
    all_four (not (is_data_kind t.kind)) (unwritable t) (lacks energy t.entries) (lacks volume t.entries)
    (ap (λ (k : Kind). not (is_data_kind k)) data_kind) writable (ap not e) (ap not v) in
    (begun_meter own t, ap (λ (b : Bool). refuse 72 b (reads (begun_meter own t))) fit, refl, refl, refl, refl)

pub meter_steps : MeterSteps
meter_steps m t on = (
  λ line. (hears t (returned t m.core) (outlined (read_line line)), rw (le-ltb t.0 m.last.0 on)),
  λ v e volumes energies. (
    quiet (with_force (returned t m.core) (plus (in_force (returned t m.core)) v e)),
    rw (
      le-ltb t.0 m.last.0 on,
      le-ltb 99999999 ((in_force (returned t m.core)).volume + v) volumes,
      le-ltb 99999999 ((in_force (returned t m.core)).energy + e) energies,
    ),
  ),
  λ v e over. rw (le-ltb t.0 m.last.0 on) (passes_over v e over),
)
  where
    passes_over : (v e : ℕ) → (99999999 < (in_force (returned t m.core)).volume + v) ⊎ (99999999 < (in_force (returned t m.core)).energy + e)
        → measured (returned t m.core) v e ≡ refusal 71
    passes_over v e (inl h) = rw (lt-ltb 99999999 ((in_force (returned t m.core)).volume + v) h)
    passes_over v e (inr h) = rw (lt-ltb 99999999 ((in_force (returned t m.core)).energy + e) h, or-true)

-- ---- words

abbrev numbers : List Row → List ℕ
numbers rows = map (λ (r : Row). r.number) rows

worded : (rows : List Row) (n : ℕ) → any (eqb n) (numbers rows) ≡ true → (words : List ℕ) × (words_in rows n ≡ reads words)
unfolding words_in any
worded [] n e = absurd (true≢false (sym e))
worded (r ∷ rows) n e = by_test (eqb n r.number) (λ t. (text r.words, rw t)) (λ t. let w = worded rows n (rw t at e) in (w.0, rw t w.1))

no_words : (rows : List Row) (n : ℕ) → any (eqb n) (numbers rows) ≡ false → words_in rows n ≡ refusal 100
unfolding words_in any
no_words [] n e = refl
no_words (r ∷ rows) n e =
    let both = neither (eqb n r.number) (any (eqb n) (numbers rows)) e in
    rw both.0 (no_words rows n both.1)

fits_in : (words out : List ℕ) → length words < length out → fitted out words ≡ reads words
fits_in words out h = rw (le-ltb (length out) (length (zero_ended words)) (omega (arith, length-append words (0 ∷ []))))

pub words_are_said : WordsAreSaid
unfolding text_of
words_are_said = (
  λ n e. let w = worded refusal_texts n e in (w.0, w.1, λ out h. ap (λ (a : Answer (List ℕ)). follow a (fitted out)) w.1 ∙ fits_in w.0 out h),
  λ n e. no_words refusal_texts n e,
)

-- It is the header's.
pub version_is : VersionIs
version_is = refl
