-- Proofs of the statements of specs/Fitting.
use Prim.Native.Nat.{ℕ}
use mathlib.Core.Bool.{Bool, true, false, false≢true, or-true, ◌||◌}
use mathlib.Core.Logic.{◌↔◌, ◌⊎◌, inl, inr}
use mathlib.Core.Path.{◌≡◌, refl, ap}
use native.Mathlib.Omega.{arith}
use borrow.Author.Tests.{eqb-true, eq-eqb, ltb-true, lt-ltb}
use lib.Count.{ones_in}
use lib.Dec.{eqb}
use Rattle.base_rules.specs.Lists.{any, total}
use Rattle.base_rules.proofs.Laws.Tests.{by_test}
use Rattle.base_characters.specs.Characters.{odd, carrier}
use Rattle.base_digits.specs.Digits.{digits_of}
use Rattle.mbus_rules.specs.declared.Kind.{Kind}
use Rattle.mbus_rules.specs.declared.Kind.TheVariants as kinds
use Rattle.mbus_rules.specs.declared.Request.TheVariants.{Read, Enter, Leave}
use Rattle.mbus_rules.specs.Signs.{minus}
use Rattle.mbus_rules.specs.Moments.{wrong_moment}
use Rattle.mbus_rules.specs.Headers.{wrong_header}
use Rattle.mbus_rules.specs.Quantities.{quantity_of, width_of, paired}
use Rattle.mbus_rules.specs.Entries.{read_entries}
use Rattle.mbus_rules.specs.Lines.{is_method, read_body, read_line}
use Rattle.mbus_rules.specs.Outlines.{outline_of}
use Rattle.exchange_replies.specs.Fits.{fits}
use Rattle.exchange_steps.specs.declared.Cause.TheVariants.{WrongKind}
use Rattle.exchange_steps.specs.Steps.{cause_of}
use Rattle.demands.specs.Fitting.{ReadAsks, EnterAsks, LeaveAsks, AckAndDataAskNothing, FitsARead, FitsAnEnter, FitsALeave, RefusedFitsNothing}
use Rattle.demands.specs.Fitting.{CauseOfAFailure, EarlierIsBelow, ThreeMethods, answers_to, ThreeSendsAnswered}

pub read_asks : ReadAsks
read_asks t e = rw e

pub enter_asks : EnterAsks
enter_asks t e = rw e

pub leave_asks : LeaveAsks
leave_asks t e = rw e

pub ack_and_data_ask_nothing : AckAndDataAskNothing
ack_and_data_ask_nothing t request (inl k) e = let z : ◌≡◌ {A = ℕ} 0 1 = cc (ap (λ (x : Kind). outline_of x t.address t.method) k) in omega arith
ack_and_data_ask_nothing t request (inr k) e = let z : ◌≡◌ {A = ℕ} 0 1 = cc (ap (λ (x : Kind). outline_of x t.address t.method) k) in omega arith

-- the answer's address is FE or the asked one
either_address : (asked answers : ℕ) → (eqb asked 0xFE || eqb asked answers ≡ true) ↔ ((asked ≡ 0xFE) ⊎ (asked ≡ answers))
either_address asked answers = (there, back)
  where
    there : eqb asked 0xFE || eqb asked answers ≡ true → (asked ≡ 0xFE) ⊎ (asked ≡ answers)
    there e = by_test (eqb asked 0xFE) (λ f. inl (eqb-true asked 0xFE f)) (λ f. inr (eqb-true asked answers (rw f at e)))

    back : (asked ≡ 0xFE) ⊎ (asked ≡ answers) → eqb asked 0xFE || eqb asked answers ≡ true
    back (inl f) = rw (eq-eqb asked 0xFE f)
    back (inr f) = rw (eq-eqb asked answers f) (or-true (eqb asked 0xFE))

-- the same by the kind of the answer
reads_fit : (k : Kind) (asked a s : ℕ) → (fits (Read asked) (outline_of k a s) ≡ true) ↔ ((k ≡ kinds.Data) × ((asked ≡ 0xFE) ⊎ (asked ≡ a)))
reads_fit kinds.Ack asked a s = (λ e. absurd (false≢true e), λ p. let z : ◌≡◌ {A = ℕ} 0 1 = cc p.0 in absurd (omega arith))
reads_fit kinds.Read asked a s = (λ e. absurd (false≢true e), λ p. let z : ◌≡◌ {A = ℕ} 0 1 = cc p.0 in absurd (omega arith))
reads_fit kinds.Enter asked a s = (λ e. absurd (false≢true e), λ p. let z : ◌≡◌ {A = ℕ} 0 1 = cc p.0 in absurd (omega arith))
reads_fit kinds.Leave asked a s = (λ e. absurd (false≢true e), λ p. let z : ◌≡◌ {A = ℕ} 0 1 = cc p.0 in absurd (omega arith))
reads_fit kinds.Data asked a s = (λ e. (refl, (either_address asked a).0 e), λ p. (either_address asked a).1 p.1)

pub fits_a_read : FitsARead
fits_a_read asked t = reads_fit t.kind asked t.address t.method

-- only an ack passes
only_ack : (passes : Kind → Bool) → passes kinds.Ack ≡ true → passes kinds.Read ≡ false → passes kinds.Enter ≡ false → passes kinds.Leave ≡ false
    → passes kinds.Data ≡ false → (k : Kind) → (passes k ≡ true) ↔ (k ≡ kinds.Ack)
only_ack passes a r e l d kinds.Ack = (λ x. refl, λ x. a)
only_ack passes a r e l d kinds.Read = (λ x. absurd (false≢true (cc)), λ x. let z : ◌≡◌ {A = ℕ} 0 1 = cc in absurd (omega arith))
only_ack passes a r e l d kinds.Enter = (λ x. absurd (false≢true (cc)), λ x. let z : ◌≡◌ {A = ℕ} 0 1 = cc in absurd (omega arith))
only_ack passes a r e l d kinds.Leave = (λ x. absurd (false≢true (cc)), λ x. let z : ◌≡◌ {A = ℕ} 0 1 = cc in absurd (omega arith))
only_ack passes a r e l d kinds.Data = (λ x. absurd (false≢true (cc)), λ x. let z : ◌≡◌ {A = ℕ} 0 1 = cc in absurd (omega arith))

pub fits_an_enter : FitsAnEnter
fits_an_enter asked method t =
    only_ack (λ (k : Kind). fits (Enter asked method) (outline_of k t.address t.method)) refl refl refl refl refl t.kind

pub fits_a_leave : FitsALeave
fits_a_leave asked t = only_ack (λ (k : Kind). fits (Leave asked) (outline_of k t.address t.method)) refl refl refl refl refl t.kind

pub refused_fits_nothing : RefusedFitsNothing
refused_fits_nothing request n = refl

-- an accepted line is of the wrong kind, whichever it is
wrong_kind : (k : Kind) (a s : ℕ) → cause_of (outline_of k a s) ≡ WrongKind
wrong_kind kinds.Ack a s = refl
wrong_kind kinds.Read a s = refl
wrong_kind kinds.Enter a s = refl
wrong_kind kinds.Leave a s = refl
wrong_kind kinds.Data a s = refl

pub cause_of_a_failure : CauseOfAFailure
cause_of_a_failure = (λ n. refl, λ t. wrong_kind t.kind t.address t.method)

pub earlier_is_below : EarlierIsBelow
earlier_is_below last t = (ltb-true t last, lt-ltb t last)

pub three_methods : ThreeMethods
three_methods s = (there, back)
  where
    there : is_method s ≡ true → (s ≡ 0x90) ⊎ ((s ≡ 0x91) ⊎ (s ≡ 0x92))
    there e =
        by_test (eqb s 0x90) (λ y. inl (eqb-true s 0x90 y))
        (λ m. by_test (eqb s 0x91) (λ y. inr (inl (eqb-true s 0x91 y))) (λ n. inr (inr (eqb-true s 0x92 (rw (m, n) at e)))))

    back : (s ≡ 0x90) ⊎ ((s ≡ 0x91) ⊎ (s ≡ 0x92)) → is_method s ≡ true
    back (inl e) = rw e
    back (inr (inl e)) = rw e
    back (inr (inr e)) = rw e

pub three_sends_answered : ThreeSendsAnswered
unfolding answers_to read_line read_body read_entries any total odd carrier ones_in wrong_header digits_of minus wrong_moment quantity_of width_of paired
three_sends_answered = refl
