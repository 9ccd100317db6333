-- A heard row counts exactly when the exchange that the read began ends well by it.
use Prim.Native.Nat.{ℕ}
use mathlib.Core.Bool.{Bool, true, false, cond, not, ◌&&◌, ◌||◌, false≢true}
use mathlib.Core.List.{List, [], ◌∷◌, ◌++◌}
use mathlib.Core.Path.{◌≡◌, refl, sym, ap, ◌∙◌}
use borrow.Author.Tests.{leb-true, leb-false, le-ltb, lt-ltb}
use lib.Dec.{ltb}
use Rattle.base_rules.specs.Answers.{Answer, reads, refusal}
use Rattle.base_rules.specs.Lists.{any}
use Rattle.mbus_rules.specs.declared.Request.TheVariants.{Read}
use Rattle.mbus_rules.specs.declared.Outline.TheVariants.{Asks}
use Rattle.base_rules.proofs.Laws.Tests.{neither, by_test}
use Rattle.bench_clock.specs.Times.{late}
use Rattle.exchange_replies.specs.Fits.{fits}
use Rattle.exchange_steps.specs.declared.Exchange.{Exchange}
use Rattle.base_rules.specs.Shown as answers
use Rattle.exchange_steps.specs.Steps.{begun, waits, moved, failed, cause_of, after_line, is_well, ends_well}
use Rattle.exchange_steps.specs.declared.Cause.TheVariants.{Silent}
use Rattle.exchange_steps.specs.declared.State.TheVariants.{Well}
use Rattle.exchange_steps.specs.Histories.{exchange_after}
use Rattle.bundle_check.specs.Records.{Recorded}
use Rattle.run_counting.specs.Counting.{is_sent, row_outline, send_end, begins_from, answers_read, counts, onward, kept_if, counted_after}
use Rattle.run_counting.proofs.Laws.Others.{counted_append, stretch_since}
use Rattle.run_counting.specs.Exchanges.{row_clock, row_heard, told_rows, ends_well_by}

-- ---- an exchange that waits no more

module _ (x : Exchange) (w : waits x.state ≡ false) where
  row_refused : (k : Recorded) (P : Answer Exchange → Type 0) → P (refusal 40) → P (refusal 41) → P (row_heard x k)
  row_refused k P p q = rw w (go (ltb k.time x.last.0))
    where
      go : (early : Bool) → P (cond early (refusal 40) (refusal 41))
      go true = p
      go false = q

ended_stays : (x : Exchange) → waits x.state ≡ false → (ks : List Recorded) → told_rows x ks ≡ x
unfolding told_rows
ended_stays x w [] = refl
ended_stays x w (k ∷ ks) = ap (λ (y : Exchange). told_rows y ks) (row_refused x w k (λ a. exchange_after x a ≡ x) refl refl) ∙ ended_stays x w ks

ended_not_well : (x : Exchange) → waits x.state ≡ false → (k : Recorded) → ends_well_by x k ≡ false
ended_not_well x w k = row_refused x w k (λ a. ends_well (answers.shown a) ≡ false) refl refl

-- ---- a read that was just sent

module _ (address end : ℕ) where
  abbrev fresh : Exchange
  fresh = begun (Read address) (row_clock end)

  abbrev after : Recorded → Exchange
  after k = moved fresh (after_line (Read address) 1 (late end k.time) (row_outline k)) (row_clock k.time)

  early_refused : (k : Recorded) → begins_from end k ≡ false → row_heard fresh k ≡ refusal 40
  early_refused k e = rw (lt-ltb k.time end (leb-false end k.time e))

  later_taken : (k : Recorded) → begins_from end k ≡ true → row_heard fresh k ≡ reads (after k)
  later_taken k e = rw (le-ltb k.time end (leb-true end k.time e))

  decides : (k : Recorded) → waits (after k).state ≡ false
  decides k = go (late end k.time) (fits (Read address) (row_outline k))
    where
      go : (silent fit : Bool) → waits (cond silent (failed 1 Silent) (cond fit Well (failed 1 (cause_of (row_outline k))))) ≡ false
      go true fit = refl
      go false true = refl
      go false false = refl

  decides_well : (k : Recorded) → is_well (after k).state ≡ (not (late end k.time) && fits (Read address) (row_outline k))
  decides_well k = go (late end k.time) (fits (Read address) (row_outline k))
    where
      go : (silent fit : Bool) → is_well (cond silent (failed 1 Silent) (cond fit Well (failed 1 (cause_of (row_outline k))))) ≡ (not silent && fit)
      go true fit = refl
      go false true = refl
      go false false = refl

  -- while no row begins at or after the end it waits; after one that does it waits no more
  still_fresh : (since : List Recorded) → any (begins_from end) since ≡ false → told_rows fresh since ≡ fresh
  unfolding told_rows any
  still_fresh [] e = refl
  still_fresh (k ∷ since) e =
      let p = neither (begins_from end k) (any (begins_from end) since) e in
      ap (λ (a : Answer Exchange). told_rows (exchange_after fresh a) since) (early_refused k p.0) ∙ still_fresh since p.1

  decided : (since : List Recorded) → any (begins_from end) since ≡ true → waits (told_rows fresh since).state ≡ false
  unfolding told_rows any
  decided [] e = absurd (false≢true e)
  decided (k ∷ since) e =
      by_test (begins_from end k)
      (λ h.
      ap (λ (a : Answer Exchange). waits (told_rows (exchange_after fresh a) since).state) (later_taken k h)
      ∙ ap (λ (x : Exchange). waits x.state) (ended_stays (after k) (decides k) since) ∙ decides k)
      (λ h.
      ap (λ (a : Answer Exchange). waits (told_rows (exchange_after fresh a) since).state) (early_refused k h)
      ∙ decided since (ap (λ (t : Bool). t || any (begins_from end) since) (sym h) ∙ e))

  pub ends_well_by_lem : (since : List Recorded) (k : Recorded) → answers_read address end since k ≡ ends_well_by (told_rows fresh since) k
  ends_well_by_lem since k = go (any (begins_from end) since) refl (begins_from end k) refl
    where
      go : (heard : Bool) → any (begins_from end) since ≡ heard → (later : Bool) → begins_from end k ≡ later
          → answers_read address end since k ≡ ends_well_by (told_rows fresh since) k
      go true h later l = rw h (sym (ended_not_well (told_rows fresh since) (decided since h) k))
      go false h true l = rw (h, l, still_fresh since h, later_taken k l) (sym (decides_well k))
      go false h false l = rw (h, l, still_fresh since h, early_refused k l)

-- A row heard after an accepted read and the rows heard since counts exactly when the exchange that the read began, told of those rows,
-- ends well by it.
pub counts_as : (send : Recorded) (address : ℕ) (since : List Recorded) (k : Recorded)
    → is_sent send ≡ true → row_outline send ≡ Asks (Read address) → is_sent k ≡ false
    → counts (send ∷ since) k ≡ ends_well_by (told_rows (begun (Read address) (row_clock (send_end send))) since) k
counts_as send address since k s r h = rw (s, h, r) (ends_well_by_lem address (send_end send) since k)

-- the same of the whole list of rows
pub counted_as : (front : List Recorded) (send : Recorded) (address : ℕ) (since : List Recorded) (k : Recorded) (later : List Recorded)
    → is_sent send ≡ true → row_outline send ≡ Asks (Read address) → any is_sent since ≡ false → is_sent k ≡ false
    → counted_after [] ((front ++ (send ∷ since)) ++ (k ∷ later))
    ≡ counted_after [] (front ++ (send ∷ since))
    ++ kept_if (ends_well_by (told_rows (begun (Read address) (row_clock (send_end send))) since) k) k (counted_after (send ∷ (since ++ (k ∷ []))) later)
unfolding counted_after
counted_as front send address since k later s r n h =
    let on : onward (send ∷ since) k ≡ send ∷ (since ++ (k ∷ [])) = rw h in
    counted_append [] (front ++ (send ∷ since)) (k ∷ later)
    ∙ ap (λ (l : List Recorded). counted_after [] (front ++ (send ∷ since)) ++ counted_after l (k ∷ later)) (stretch_since front send since s n)
    ∙ ap (λ (l : List Recorded). counted_after [] (front ++ (send ∷ since)) ++ kept_if (counts (send ∷ since) k) k (counted_after l later)) on
    ∙ ap (λ (t : Bool). counted_after [] (front ++ (send ∷ since)) ++ kept_if t k (counted_after (send ∷ (since ++ (k ∷ []))) later))
    (counts_as send address since k s r h)
