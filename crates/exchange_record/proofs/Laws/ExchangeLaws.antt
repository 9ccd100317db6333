-- Laws about the record of an exchange, or of none.
use Prim.Native.Nat.{ℕ, ◌+◌, ◌^◌, ◌<◌}
use mathlib.Core.Bool.{Bool, true, false, not, cond}
use mathlib.Core.List.{List, [], ◌∷◌, ◌++◌}
use mathlib.Core.Path.{◌≡◌, refl, sym, ap, ◌∙◌}
use native.Mathlib.Omega.{arith}
use borrow.Author.Tests.{not-false}
use lib.ListN.{length, length-append}
use Rattle.mbus_rules.specs.declared.Request.{Request}
use Rattle.mbus_rules.specs.declared.Request.TheVariants.{Read, Enter, Leave}
use Rattle.base_rules.specs.Answers.{Answer, reads, refusal, refuse, within, follow}
use Rattle.base_rules.specs.Lists.{at}
use Rattle.base_rules.proofs.Laws.Tests.{passed}
use Rattle.exchange_steps.specs.declared.Cause.{Cause}
use Rattle.exchange_steps.specs.declared.Cause.TheVariants.{Silent, Damaged, WrongKind}
use Rattle.exchange_steps.specs.declared.State.{State}
use Rattle.exchange_steps.specs.declared.State.TheVariants.{Waiting, Resend, Well, Failed}
use Rattle.exchange_steps.specs.declared.Exchange.{Exchange}
use Rattle.exchange_steps.specs.declared.Slot.{Slot}
use Rattle.exchange_steps.specs.declared.Slot.TheVariants.{Idle, Busy}
use Rattle.base_numbers.specs.Numbers.{bytes_of}
use Rattle.base_numbers.proofs.Laws.Numbers.{number_bytes}
use Rattle.base_numbers.specs.Records.{record_of}
use Rattle.base_lent.specs.Recorded.{no_record, recorded}
use Rattle.base_lent.proofs.Laws.Recorded.{record_read, record_written, record_same, record_differs, wrong_size}
use Rattle.base_lent.specs.Same.{same}
use Rattle.base_lent.proofs.Laws.Same.{same_equal, same_itself, same_not}
use Rattle.exchange_record.specs.Exchanges.{request_bytes, cause_number, state_number, cause_in, exchange_head, exchange_bytes, cause_of_number, state_of}
use Rattle.exchange_record.specs.Exchanges.{exchange_in, reached, exchange_from, none_bytes, slot_bytes, slot_from}

-- ---- sizes

head_length : (r : Request) (s : State) (n : ℕ) → length (exchange_head r s n) ≡ 8
head_length (Read a) s n = refl
head_length (Enter a m) s n = refl
head_length (Leave a) s n = refl

pub exchange_length : (x : Exchange) → length (exchange_bytes x) ≡ 24
unfolding exchange_bytes bytes_of
exchange_length x =
    length-append (exchange_head x.request x.state x.sends) _ ∙ ap (λ (n : ℕ). n + 16) (head_length x.request x.state x.sends)

-- ---- what is written is read

-- the times fit their type
pub record ExchangeFits (x : Exchange) : Type 0 where
  pub began : x.began.0 < 256 ^ 8
  pub last : x.last.0 < 256 ^ 8

cause_read : (c : Cause) → cause_of_number (cause_number c) ≡ c
cause_read Silent = refl
cause_read Damaged = refl
cause_read WrongKind = refl

state_read : (s : State) → state_of (state_number s) (cause_in s) ≡ s
state_read Waiting = refl
state_read (Resend c) = ap Resend (cause_read c)
state_read Well = refl
state_read (Failed c) = ap Failed (cause_read c)

abbrev with_request : Exchange → Request → Exchange
with_request x r = record { request = r; state = x.state; sends = x.sends; began = x.began; last = x.last }

taken : (x : Exchange) (r : Request) → ExchangeFits x → exchange_in (exchange_bytes (with_request x r)) ≡ with_request x r
unfolding exchange_in exchange_bytes bytes_of
taken x (Read a) f = rw (state_read x.state, number_bytes 8 x.began.0 f.began, number_bytes 8 x.last.0 f.last)
taken x (Enter a m) f = rw (state_read x.state, number_bytes 8 x.began.0 f.began, number_bytes 8 x.last.0 f.last)
taken x (Leave a) f = rw (state_read x.state, number_bytes 8 x.began.0 f.began, number_bytes 8 x.last.0 f.last)

abbrev if_reached : Exchange → Answer Exchange
if_reached x = refuse no_record (not (reached x)) (reads x)

-- The record of an exchange that a run reaches reads as that exchange,
pub exchange_read : (x : Exchange) → ExchangeFits x → reached x ≡ true → exchange_from (exchange_bytes x) ≡ reads x
exchange_read x f r =
    ap (λ (a : Answer Exchange). follow a if_reached) (record_read exchange_bytes exchange_in x (taken x x.request f))
    ∙ rw r

-- and what is read is such an exchange, and is written as the same bytes.
pub record ReadFrom (b : List ℕ) (x : Exchange) : Type 0 where
  pub bytes : exchange_bytes x ≡ b
  pub so : reached x ≡ true

pub exchange_written : (b : List ℕ) (x : Exchange) → exchange_from b ≡ reads x → ReadFrom b x
exchange_written b x e = go (recorded exchange_bytes exchange_in b) refl e
  where
    go : (a : Answer Exchange) → recorded exchange_bytes exchange_in b ≡ a → follow a if_reached ≡ reads x → ReadFrom b x
    go (refusal n) r e = let z : ◌≡◌ {A = ℕ} 0 1 = cc in absurd (omega arith)
    go (reads y) r e =
        let p = passed no_record (not (reached y)) (reads y) x e in
        let q : ◌≡◌ {A = Answer Exchange} (reads y) (reads x) = p.1 in
        let same : y ≡ x = cc in
        record {
          bytes = ap exchange_bytes (sym same) ∙ record_written exchange_bytes exchange_in b y r;
          so = ap reached (sym same) ∙ not-false (reached y) p.0;
        }

pub exchange_size : (b : List ℕ) (x : Exchange) → exchange_from b ≡ reads x → length b ≡ 24
exchange_size b x e = ap length (sym (exchange_written b x e).bytes) ∙ exchange_length x

-- no record of an exchange has another size
pub other_size : (b : List ℕ) → (length b ≡ 24 → ⊥) → exchange_from b ≡ refusal no_record
other_size b h = rw (wrong_size exchange_bytes exchange_in 24 (λ a. exchange_length (exchange_in a)) b h)

-- ---- as the code finds them

-- the number of the state is the fourth byte
pub state_told : (x : Exchange) → at (exchange_bytes x) 3 ≡ state_number x.state
unfolding exchange_bytes
state_told x = go x.request
  where
    go : (r : Request) → at (record_of (exchange_head r x.state x.sends) (x.began.0 ∷ x.last.0 ∷ []) []) 3 ≡ state_number x.state
    go (Read a) = refl
    go (Enter a m) = refl
    go (Leave a) = refl

pub request_listed : (r : Request) (rest : List ℕ) → at (request_bytes r) 0 ∷ at (request_bytes r) 1 ∷ at (request_bytes r) 2 ∷ rest ≡ request_bytes r ++ rest
request_listed (Read a) rest = refl
request_listed (Enter a m) rest = refl
request_listed (Leave a) rest = refl

module _ (b : List ℕ) {x : Exchange} {w : List ℕ} {r s : Bool} (t : x ≡ exchange_in b) (n : w ≡ exchange_bytes x) (e : r ≡ same b w) (k : s ≡ reached x) where
  then : {a : Answer Exchange} → recorded exchange_bytes exchange_in b ≡ a → exchange_from b ≡ follow a if_reached
  then p = ap (λ (a : Answer Exchange). follow a if_reached) p

  pub found : r ≡ true → s ≡ true → exchange_from b ≡ reads x
  found y z = then (record_same exchange_bytes exchange_in b t n e y) ∙ rw (sym k ∙ z)

  pub unreached : r ≡ true → s ≡ false → exchange_from b ≡ refusal no_record
  unreached y z = then (record_same exchange_bytes exchange_in b t n e y) ∙ rw (sym k ∙ z)

  pub unlike : r ≡ false → exchange_from b ≡ refusal no_record
  unlike y = then (record_differs exchange_bytes exchange_in b t n e y)

-- ---- none or an exchange

-- no exchange's record begins with 0, so that none is told from all of them
no_zeros : (x : Exchange) → at (exchange_bytes x) 0 ≡ 0 → ⊥
unfolding exchange_bytes
no_zeros x e = go x.request e
  where
    go : (r : Request) → at (record_of (exchange_head r x.state x.sends) (x.began.0 ∷ x.last.0 ∷ []) []) 0 ≡ 0 → ⊥
    go (Read a) e = omega arith
    go (Enter a m) e = omega arith
    go (Leave a) e = omega arith

not_none : (x : Exchange) → same (exchange_bytes x) none_bytes ≡ false
not_none x = same_not (exchange_bytes x) none_bytes (λ e. no_zeros x (ap (λ (b : List ℕ). at b 0) e))

-- What is written is read: of none, and of an exchange that a run reaches;
pub none_read : slot_from (slot_bytes Idle) ≡ reads Idle
none_read = rw (same_itself none_bytes)

pub busy_read : (x : Exchange) → ExchangeFits x → reached x ≡ true → slot_from (slot_bytes (Busy x)) ≡ reads (Busy x)
busy_read x f r = rw (not_none x, exchange_read x f r)

-- and what is read was written.
pub busy_from : (b : List ℕ) (x : Exchange) → slot_from b ≡ reads (Busy x) → exchange_from b ≡ reads x
busy_from b x e = go (same b none_bytes) (exchange_from b) e
  where
    go : (s : Bool) (a : Answer Exchange) → ◌≡◌ {A = Answer Slot} (cond s (reads Idle) (within Busy a)) (reads (Busy x)) → a ≡ reads x
    go true a e = cc
    go false (refusal n) e = cc
    go false (reads y) e = cc

none_from : (b : List ℕ) → slot_from b ≡ reads Idle → b ≡ none_bytes
none_from b e = same_equal b none_bytes (go (same b none_bytes) (exchange_from b) e)
  where
    go : (s : Bool) (a : Answer Exchange) → ◌≡◌ {A = Answer Slot} (cond s (reads Idle) (within Busy a)) (reads Idle) → s ≡ true
    go true a e = refl
    go false (refusal n) e = cc
    go false (reads y) e = cc

pub slot_written : (b : List ℕ) (w : Slot) → slot_from b ≡ reads w → slot_bytes w ≡ b
slot_written b Idle e = sym (none_from b e)
slot_written b (Busy x) e = (exchange_written b x (busy_from b x e)).bytes

pub slot_length : (w : Slot) → length (slot_bytes w) ≡ 24
slot_length Idle = refl
slot_length (Busy x) = exchange_length x

pub slot_size : (b : List ℕ) (w : Slot) → slot_from b ≡ reads w → length b ≡ 24
slot_size b w e = ap length (sym (slot_written b w e)) ∙ slot_length w
