-- The laws by which the code reads a record.
use Prim.Native.Nat.{ℕ, ◌+◌}
use mathlib.Core.Bool.{Bool, true, false, not, true≢false}
use mathlib.Core.List.{List, [], ◌++◌, append_assoc}
use mathlib.Core.Path.{◌≡◌, refl, sym, ap, ap₂, ◌∙◌}
use native.Mathlib.Omega.{arith}
use borrow.Author.Tests.{eqb-true, eqb-false}
use lib.Dec.{eqb}
use lib.ListN.{length, take, drop, length-drop, length-append, take-append-drop}
use lib.Seq.{take_all, take_at}
use Rattle.std.specs.Prelude.{Result, Ok, Err}
use Rattle.base_rules.specs.declared.refusals.Refusal.{Refusal}
use Rattle.mbus_rules.specs.declared.Telegram.{Telegram}
use Rattle.base_rules.specs.Answers.{Answer, reads, refusal, follow}
use Rattle.base_rules.specs.Shown.{shown}
use Rattle.base_rules.proofs.Laws.AnswerLaws.{shown_ok, shown_refused}
use Rattle.base_rules.proofs.Laws.Tests.{by_test}
use Rattle.meter_steps.specs.declared.Meter.{Meter}
use Rattle.base_lent.specs.Recorded.{no_record}
use Rattle.base_lent.specs.Same.{same}
use Rattle.base_lent.proofs.Laws.Same.{same_equal, same_itself, same_not}
use Rattle.base_lent.specs.Copying.{copied}
use Rattle.base_lent.proofs.Laws.Copying.{copied_on, copied_full}
use Rattle.base_numbers.specs.Numbers.{bytes_of}
use Rattle.base_numbers.proofs.Laws.Numbers.{length_bytes}
use Rattle.base_numbers.proofs.Laws.RecordLaws.{record_length}
use Rattle.mbus_records.specs.Telegrams.{telegram_bytes, telegram_from}
use Rattle.mbus_records.proofs.Laws.TelegramLaws.{telegram_size, telegram_written}
use Rattle.meter_record.specs.MeterRecords.{meter_head, core_words, meter_front, meter_bytes, meter_in, unreached, recalled, meter_from}

-- ---- the front, and the template behind it

front_whole : (m : Meter) → meter_front m ++ telegram_bytes m.core.template ≡ meter_bytes m
unfolding meter_bytes
front_whole m = simp append_assoc

front_length : (m : Meter) → length (meter_front m) ≡ 56
front_length m =
    record_length (meter_head m.last.0 m.core.address m.core.mode) (core_words m.core) []
    ∙ ap (λ (n : ℕ). n + 40) (length-append (bytes_of 8 m.last.0) _ ∙ ap (λ (n : ℕ). n + 8) (length_bytes 8 m.last.0))

-- laid one behind the other they are the record
pub front_laid : (d : List ℕ) (m : Meter) {f t a z : List ℕ} → length d ≡ 192 → length f ≡ 56 → length t ≡ 136 → f ≡ meter_front m
    → t ≡ telegram_bytes m.core.template → a ≡ copied d 0 f → z ≡ copied a 56 t → z ≡ meter_bytes m
front_laid d m {f} {t} {a} {z} ld lf lt ef et ea ez =
    ez ∙ ap (λ (x : List ℕ). copied x 56 t) ea
    ∙ copied_on d f t 56 lf (omega arith)
    ∙ copied_full d (f ++ t) (omega (arith, length-append f t))
    ∙ ap₂ (λ (x y : List ℕ). x ++ y) ef et
    ∙ front_whole m

-- where the end is known, the front tells whether all is the same
same_front : (b front rest : List ℕ) (k : ℕ) → length front ≡ k → rest ≡ drop k b → same b (front ++ rest) ≡ same (take k b) front
same_front b front rest k l e =
    by_test (same (take k b) front) (λ t. rw (t, ← whole (same_equal (take k b) front t)) (same_itself b))
    (λ f. same_not b (front ++ rest) (λ w. true≢false (sym (rw (fore w) (same_itself front)) ∙ f)) ∙ sym f)
  where
    whole : take k b ≡ front → b ≡ front ++ rest
    whole t = sym (take-append-drop k b) ∙ ap₂ (λ (x y : List ℕ). x ++ y) t (sym e)

    fore : b ≡ front ++ rest → take k b ≡ front
    fore w = ap (take k) w ∙ take_at front rest k l

pub template_in : (b : List ℕ) (t : Telegram) → (meter_in b t).core.template ≡ t
unfolding meter_in
template_in b t = refl

-- by the front that was written for the meter, and whether it is the same
module _ (b : List ℕ) (m : Meter) {w : List ℕ} {s : Bool} (behind : telegram_bytes m.core.template ≡ drop 56 b) (n : w ≡ meter_front m)
    (e : s ≡ same (take 56 b) w) where
  tested : not (same b (meter_bytes m)) ≡ not s
  tested =
      ap not (ap (same b) (sym (front_whole m))
      ∙ same_front b (meter_front m) (telegram_bytes m.core.template) 56 (front_length m) behind
      ∙ sym (e ∙ ap (same (take 56 b)) n))

  pub recalled_other : not s ≡ true → recalled b m ≡ refusal no_record
  recalled_other h = rw (tested, h)

  module _ {u : Bool} (r : u ≡ unreached m) where
    pub recalled_unreached : not s ≡ false → u ≡ true → recalled b m ≡ refusal no_record
    recalled_unreached h k = rw (tested, h, ← r, k)

    pub recalled_same : not s ≡ false → u ≡ false → recalled b m ≡ reads m
    recalled_same h k = rw (tested, h, ← r, k)

-- no record of a meter has another size
pub meter_size : (b : List ℕ) → (length b ≡ 192 → ⊥) → meter_from b ≡ refusal no_record
meter_size b h = rw (telegram_size (drop 56 b) (λ e. h (omega (arith, length-drop 56 b))))

pub read_size : (b : List ℕ) (m : Meter) → meter_from b ≡ reads m → length b ≡ 192
read_size b m e = by_test (eqb (length b) 192) (λ y. eqb-true (length b) 192 y) (λ n. absurd (other (meter_size b (eqb-false (length b) 192 n))))
  where
    other : meter_from b ≡ refusal no_record → ⊥
    other f = let z : ◌≡◌ {A = ℕ} 0 1 = cc in omega arith

-- by what the bytes of the template read as
module _ (b : List ℕ) (size : length b ≡ 192) {r : Result Telegram Refusal} (e : r ≡ shown (telegram_from (take 136 (drop 56 b)))) where
  whole : r ≡ shown (telegram_from (drop 56 b))
  whole = e ∙ ap (λ (l : List ℕ). shown (telegram_from l)) (take_all 136 (drop 56 b) (omega (arith, length-drop 56 b)))

  pub from_refused : {x : Refusal} → r ≡ Err x → meter_from b ≡ refusal x.0
  from_refused h =
      ap (λ (a : Answer Telegram). follow a (λ (x : Telegram). recalled b (meter_in b x)))
      (shown_refused (telegram_from (drop 56 b)) (sym whole ∙ h))

  module _ {t : Telegram} (h : r ≡ Ok t) where
    read : telegram_from (drop 56 b) ≡ reads t
    read = shown_ok (telegram_from (drop 56 b)) t (sym whole ∙ h)

    pub from_accepted : meter_from b ≡ recalled b (meter_in b t)
    from_accepted = ap (λ (a : Answer Telegram). follow a (λ (x : Telegram). recalled b (meter_in b x))) read

    -- and the template's own bytes are those of the record
    pub from_known : telegram_bytes t ≡ drop 56 b
    from_known = telegram_written (drop 56 b) t read
