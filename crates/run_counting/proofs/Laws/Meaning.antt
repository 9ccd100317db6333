-- What it means that a row counts, in 02's words.
use Prim.Native.Nat.{ℕ, ◌+◌, ◌-◌, ◌≤◌, ◌<◌}
use mathlib.Core.Bool.{Bool, true, false, not, ◌&&◌, false≢true}
use mathlib.Core.List.{List, [], ◌∷◌}
use mathlib.Core.Path.{◌≡◌, refl}
use native.Mathlib.Omega.{arith}
use borrow.Author.Tests.{leb-true, le-leb, ltb-false, le-ltb, ne_eqb, not-true}
use lib.Dec.{eqb}
use Rattle.base_characters.specs.Characters.{chars}
use Rattle.base_rules.specs.Lists.{any}
use Rattle.mbus_rules.specs.declared.Request.TheVariants.{Read, Enter, Leave}
use Rattle.mbus_rules.specs.declared.Outline.{Outline}
use Rattle.mbus_rules.specs.declared.Outline.TheVariants.{Refused, Ack, Asks, Data}
use Rattle.base_rules.proofs.Laws.TestLaws.{every}
use Rattle.bench_clock.specs.Times.{late, reply_time}
use Rattle.bench_clock.specs.Wakes.{is_wake}
use Rattle.exchange_replies.specs.Fits.{fits}
use Rattle.bundle_check.specs.Records.{Recorded}
use Rattle.run_counting.specs.Counting.{is_sent, row_outline, looked, send_end, begins_from, counts_after, counts}

-- ---- rows that are not looked at

pub not_looked : (position : ℕ) (k : Recorded) → ((k.position ≡ position → ⊥) → looked position k ≡ false)
    × (is_wake (chars k.body) ≡ true → looked position k ≡ false)
unfolding looked
not_looked position k = (λ d. rw (ne_eqb k.position position d), λ w. rw w (go (eqb k.position position)))
  where
    go : (t : Bool) → (t && false) ≡ false
    go true = refl
    go false = refl

-- ---- rows that count

module _ (since : List Recorded) (k : Recorded) where
  -- what is left to say once the send is known
  abbrev Answers : Outline → ℕ → Type 0
  Answers outline end =
      (address : ℕ)
      × (outline ≡ Asks (Read address))
      × (any (begins_from end) since ≡ false)
      × (end ≤ k.time)
      × (k.time ≤ end + reply_time)
      × (fits (Read address) (row_outline k) ≡ true)

  answered : (outline : Outline) (end : ℕ) → counts_after outline end since k ≡ true → Answers outline end
  answered (Asks (Read address)) end e =
      let p = every (not (any (begins_from end) since)) (begins_from end k ∷ not (late end k.time) ∷ fits (Read address) (row_outline k) ∷ []) e in
      let from : end ≤ k.time = leb-true end k.time p.1.0 in
      let soon : k.time - end ≤ reply_time = ltb-false reply_time (k.time - end) (not-true (late end k.time) p.1.1.0) in
      (address, refl, not-true (any (begins_from end) since) p.0, from, omega arith, p.1.1.1.0)
  answered (Asks (Enter address method)) end e = absurd (false≢true e)
  answered (Asks (Leave address)) end e = absurd (false≢true e)
  answered (Refused n) end e = absurd (false≢true e)
  answered Ack end e = absurd (false≢true e)
  answered (Data address) end e = absurd (false≢true e)

pub counted_means : (send : Recorded) (since : List Recorded) (k : Recorded) → counts (send ∷ since) k ≡ true
    → (is_sent k ≡ false)
    × ((address : ℕ)
    × (row_outline send ≡ Asks (Read address))
    × (any (begins_from (send_end send)) since ≡ false)
    × (send_end send ≤ k.time)
    × (k.time ≤ send_end send + reply_time)
    × (fits (Read address) (row_outline k) ≡ true))
counted_means send since k e =
    let p = every (is_sent send) (not (is_sent k) ∷ counts_after (row_outline send) (send_end send) since k ∷ []) e in
    (not-true (is_sent k) p.1.0, answered since k (row_outline send) (send_end send) p.1.1.0)

pub left_over : (send : Recorded) (since : List Recorded) (k : Recorded) → k.time < send_end send → counts (send ∷ since) k ≡ false
left_over send since k h = go (counts (send ∷ since) k) refl
  where
    go : (t : Bool) → counts (send ∷ since) k ≡ t → t ≡ false
    go false e = refl
    go true e = absurd (let p = counted_means send since k e in omega (arith, p.1.3))

pub means_counted : (send : Recorded) (address : ℕ) (since : List Recorded) (k : Recorded)
    → is_sent send ≡ true → row_outline send ≡ Asks (Read address) → is_sent k ≡ false → any (begins_from (send_end send)) since ≡ false
    → send_end send ≤ k.time → k.time ≤ send_end send + reply_time → fits (Read address) (row_outline k) ≡ true → counts (send ∷ since) k ≡ true
means_counted send address since k s r h a f l t =
    let soon : k.time - send_end send ≤ reply_time = omega arith in
    rw (s, h, r, a, le-leb (send_end send) k.time f, le-ltb reply_time (k.time - send_end send) soon, t)
