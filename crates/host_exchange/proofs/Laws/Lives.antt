-- The life of a record: after any calls it is the record of what the steps lead to.
use Prim.Native.Nat.{ℕ, ◌≤◌}
use mathlib.Core.Bool.{Bool}
use mathlib.Core.List.{List, [], ◌∷◌}
use mathlib.Core.Path.{◌≡◌, refl, sym, ap, ◌∙◌}
use borrow.Author.Tests.{le-ltb}
use lib.ListN.{length}
use Rattle.base_rules.specs.Answers.{Answer, reads, refusal, refuse, follow}
use Rattle.exchange_steps.specs.declared.Exchange.{Exchange}
use Rattle.exchange_steps.specs.declared.Slot.{Slot}
use Rattle.exchange_steps.specs.declared.Slot.TheVariants.{Idle}
use Rattle.exchange_steps.specs.Histories.{Step, heard, answer, stands, next, run, after}
use Rattle.base_lent.proofs.Laws.Copying.{laid_full}
use Rattle.base_lent.specs.Lent.{stored}
use Rattle.mbus_records.specs.Telegrams.{telegram_size}
use Rattle.exchange_record.specs.Exchanges.{exchange_bytes, none_bytes, slot_bytes, slot_from}
use Rattle.exchange_record.proofs.Laws.ExchangeLaws.{exchange_length, slot_length}
use Rattle.exchange_record.proofs.Laws.Reached.{GoodBy}
use Rattle.exchange_record.proofs.Laws.Runs.{good_read, next_good}
use Rattle.exchange_record.specs.Sizes.{TimesFit}
use Rattle.host_exchange.specs.Calls.{step_for, heard_for, record_after}

-- one call, on the record of what there is
step_kept : (b : Slot) (s : Step) → GoodBy b → stored exchange_bytes (slot_bytes b) (step_for (slot_bytes b) s) ≡ slot_bytes (next b s)
step_kept b s g =
    ap (λ (a : Answer Slot). stored exchange_bytes (slot_bytes b) (follow a (λ x. answer x s))) (good_read b g) ∙ go (answer b s)
  where
    go : (a : Answer Exchange) → stored exchange_bytes (slot_bytes b) a ≡ slot_bytes (stands b a)
    go (refusal n) = refl
    go (reads x) = laid_full (slot_bytes b) (exchange_bytes x) (exchange_length x ∙ sym (slot_length b))

life : (b : Slot) → GoodBy b → (h : List Step) → TimesFit h → record_after (slot_bytes b) h ≡ slot_bytes (run b h)
unfolding record_after run TimesFit
life b g [] f = refl
life b g (s ∷ h) f = ap (λ (c : List ℕ). record_after c h) (step_kept b s g) ∙ life (next b s) (next_good b s g f.0) h f.1

-- From zeros.
pub record_follows : (h : List Step) → TimesFit h → record_after none_bytes h ≡ slot_bytes (after h)
record_follows h f = life Idle tt h f

-- A line heard is such a step wherever there is room for the reply.
pub heard_steps : (b line : List ℕ) (t : ℕ) (reply : List ℕ) → telegram_size ≤ length reply
    → heard_for b line t reply ≡ step_for b (heard line (record { 0 = t }))
heard_steps b line t reply h =
    ap (λ (c : Bool). follow (slot_from b) (λ x. refuse 21 c (answer x (heard line (record { 0 = t }))))) (le-ltb (length reply) telegram_size h)
