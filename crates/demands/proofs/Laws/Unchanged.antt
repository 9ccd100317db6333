-- Proofs of the statements of specs/Unchanged.
use Prim.Native.Nat.{ℕ, ◌+◌}
use mathlib.Core.List.{List, []}
use mathlib.Core.Path.{◌≡◌, refl, ap, ◌∙◌}
use lib.ListN.{length}
use Rattle.std.specs.Prelude.{Result, Err}
use Rattle.bench_clock.specs.Wakes.{wake_of, wake_line}
use Rattle.base_rules.specs.Answers.{Answer, refusal, within, follow}
use Rattle.base_rules.specs.declared.refusals.Refusal.{Refusal}
use Rattle.base_rules.specs.Shown.{refused_by}
use Rattle.mbus_rules.specs.Writing.{write_line}
use Rattle.base_lent.specs.Lent.{told, stored, done}
use Rattle.base_lent.specs.Handed.{Hands}
use Rattle.mbus_either.specs.Stretches.{StretchOf}
use Rattle.bundle_check.specs.Stretches.{bytes_at}
use Rattle.bundle_salvage.specs.Salvaging.{salvage_into, new_bundle}
use Rattle.bundle_sweep.specs.Sweeping.{sweep_of, buffer_swept}
use Rattle.bundle_adding.specs.Adding.{add_of}
use Rattle.bundle_adding.specs.Adding as adding
use Rattle.run_listing.specs.Listings.{listing_of}
use Rattle.run_listing.specs.Shown.{listed_in}
use Rattle.text_words.specs.Saying.{fitted, number_of}
use Rattle.text_words.specs.Saying as saying
use Rattle.host_exchange.specs.Calls as exchanges
use Rattle.host_meter.specs.Calls as meters
use Rattle.mbus_length.specs.declared.HowLong.{HowLong}
use Rattle.host_incoming.specs.Calls.{length_number, length_left}
use Rattle.host_bundle.specs.Lent.{left_in}
use Rattle.host_bundle.specs.Salvaging.{salvage_for}
use Rattle.run_picture.specs.Pictures.{picture_of}
use Rattle.run_picture.specs.Shown.{drawn_in}
use Rattle.host_verdicts.specs.Told.{records_told}
use Rattle.demands.specs.Unchanged.{Unchanged, WritingUnchanged, WakeUnchanged, AddingUnchanged, SweepingUnchanged, TurningUnchanged}
use Rattle.demands.specs.Unchanged.{SalvagingUnchanged, ListingUnchanged, DrawingUnchanged, StretchEmpty, EitherEmpty, LeavesUntouched, ReplyUnchanged}
use Rattle.demands.specs.Unchanged.{AnswerUnchanged, GivesUntouched, BufferUnchanged, SweptBufferUnchanged, SecondBufferUnchanged, PlacesUnchanged}
use Rattle.demands.specs.Unchanged.{PictureUnchanged, VerdictsUnchanged, SaysUntouched, LengthUntouched, LengthNotYet, HandsUntouched}

by_answer : {A B : Type 0} (leaves : Answer A → B) (before : B) → Unchanged leaves before → (a : Answer A) (n : ℕ) (after : B)
    → a ≡ refusal n → after ≡ leaves a → after ≡ before
by_answer leaves before u a n after e l = l ∙ ap leaves e ∙ u n

module _ (n : ℕ) where
  pub writing_unchanged : WritingUnchanged n
  writing_unchanged t before after r e p = by_answer (stored (λ (line : List ℕ). line) before) before (λ m. refl) (write_line t (length before)) n after e
      p.places

  pub wake_unchanged : WakeUnchanged n
  wake_unchanged count before after e p = by_answer (stored wake_line before) before (λ m. refl) (wake_of count before) n after e p

  pub adding_unchanged : AddingUnchanged n
  adding_unchanged before after filled k r e p =
      by_answer (λ a. adding.buffer_after a before filled k) before (λ m. refl) (add_of before filled k) n after e p.leaves

  pub sweeping_unchanged : SweepingUnchanged n
  sweeping_unchanged before after filled position r e p =
      by_answer (λ a. buffer_swept a before filled position) before (λ m. refl) (sweep_of before filled position) n after e p.leaves

  pub turning_unchanged : TurningUnchanged n
  turning_unchanged written a before after r e p = by_answer (stored written before) before (λ m. refl) a n after e p.left

  pub salvaging_unchanged : SalvagingUnchanged n
  salvaging_unchanged b before after r e p = by_answer (stored (new_bundle b) before) before (λ m. refl) (salvage_into b before) n after e p.left

  pub listing_unchanged : ListingUnchanged n
  listing_unchanged b before after r e p =
      by_answer (stored (λ (m : ℕ). listing_of b) before) before (λ m. refl) (listed_in (listing_of b) before) n after e p.holds

  pub drawing_unchanged : DrawingUnchanged n
  drawing_unchanged b before after r e p =
      by_answer (stored (λ (m : ℕ). picture_of b) before) before (λ m. refl) (drawn_in b before) n after e p.holds

  pub stretch_empty : StretchEmpty n
  stretch_empty a whole part e p = by_answer (λ x. bytes_at x whole.now) [] (λ m. refl) a n part.now e p.bytes

  pub either_empty : EitherEmpty n
  either_empty mbus optical r e p = let q : StretchOf (refusal n) mbus optical r.stretch = rw e at p.stretch in q.characters

  number_told : {A : Type 0} (tell : A → ℕ) (a : Answer A) (r : ℕ) → a ≡ refusal n → r ≡ told tell a → r ≡ 256 + n
  number_told tell a r e p = p ∙ ap (told tell) e

  module _ {A B : Type 0} (tell : A → ℕ) (written : A → List B) (a : Answer A) where
    pub leaves_untouched : LeavesUntouched n tell written a
    leaves_untouched before after r e p = record {
      number = number_told tell a r e p.answer;
      same = by_answer (stored written before) before (λ m. refl) a n after e p.left;
    }

  module _ {A : Type 0} (a : Result A Refusal) where
    pub hands_untouched : HandsUntouched n a
    hands_untouched before after r e p = let q : Hands (Err (refused_by n)) before after r = rw e at p in record { number = q.0; same = q.1 }

  pub reply_unchanged : ReplyUnchanged n
  reply_unchanged a telegram before after out then r e p = by_answer (λ x. exchanges.replied x telegram out) out (λ m. refl) a n then e p.reply

  pub answer_unchanged : AnswerUnchanged n
  answer_unchanged a t before after out then r e p = by_answer (stored (λ d. meters.said_bytes d.said) out) out (λ m. refl) a n then e p.said

  pub gives_untouched : GivesUntouched n
  gives_untouched a before r after e p = record {
    number = number_told done a r e p.number;
    same = by_answer (left_in before) before (λ m. refl) a n after e p.place;
  }

  pub buffer_unchanged : BufferUnchanged n
  buffer_unchanged buffer filled k r after now e p =
      by_answer (λ a. adding.buffer_after a buffer filled k) buffer (λ m. refl) (add_of buffer filled k) n after e p.holds

  pub swept_buffer_unchanged : SweptBufferUnchanged n
  swept_buffer_unchanged buffer filled position r after now e p =
      by_answer (λ a. buffer_swept a buffer filled position) buffer (λ m. refl) (sweep_of buffer filled position) n after e p.holds

  pub second_buffer_unchanged : SecondBufferUnchanged n
  second_buffer_unchanged b out told r after then e p = by_answer (stored (new_bundle b) out) out (λ m. refl) (salvage_for b out told) n after e p.holds

  pub places_unchanged : PlacesUnchanged n
  places_unchanged b out written r after now e p =
      by_answer (stored (λ (m : ℕ). listing_of b) out) out (λ m. refl) (listed_in (listing_of b) out) n after e p.holds

  pub picture_unchanged : PictureUnchanged n
  picture_unchanged b out written r after now e p =
      by_answer (stored (λ (m : ℕ). picture_of b) out) out (λ m. refl) (drawn_in b out) n after e p.holds

  pub verdicts_unchanged : VerdictsUnchanged n
  verdicts_unchanged a out count r after now e p = (
    by_answer (stored records_told out) out (λ m. refl) a n after e p.tells.left,
    by_answer (λ x. left_in count (within (λ verdicts. length verdicts) x)) count (λ m. refl) a n now e p.counts,
  )

  pub says_untouched : SaysUntouched n
  says_untouched said out r after e p = record {
    number = p.answer ∙ ap number_of e;
    same = by_answer (saying.held out) out (λ m. refl) (follow said (fitted out)) n after e p.holds;
  }

pub length_untouched : LengthUntouched
length_untouched w before after r e p = record { number = p.answer ∙ ap length_number e; same = p.left ∙ ap (λ (x : HowLong). length_left x before) e }

pub length_not_yet : LengthNotYet
length_not_yet w before after r e p = (p.answer ∙ ap length_number e, p.left ∙ ap (λ (x : HowLong). length_left x before) e)
