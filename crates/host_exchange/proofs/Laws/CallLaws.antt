-- Laws: the ways out of each call.
use Prim.Native.Nat.{ℕ, ◌+◌, ◌≤◌}
use Rattle.std.specs.Prelude.{Result, Ok, Err}
use mathlib.Core.Bool.{Bool, true, false, cond}
use mathlib.Core.List.{List}
use mathlib.Core.Path.{◌≡◌, refl, sym, ap, ap₂, subst, ◌∙◌}
use native.Mathlib.Omega.{arith}
use borrow.Author.Tests.{ne_eqb}
use lib.Dec.{eqb, ltb}
use lib.ListN.{length}
use Rattle.bench_clock.specs.declared.Clock.{Clock}
use Rattle.mbus_rules.specs.declared.Kind.{Kind}
use Rattle.mbus_rules.specs.declared.Telegram.{Telegram}
use Rattle.base_rules.specs.Answers.{Answer, reads, refusal}
use Rattle.base_rules.specs.declared.refusals.Refusal.{Refusal}
use Rattle.base_rules.specs.Shown as answers
use Rattle.base_rules.proofs.Laws.AnswerLaws.{shown_ok, shown_err}
use Rattle.mbus_rules.specs.Lines.{read_line}
use Rattle.base_rules.specs.Lists.{at}
use Rattle.mbus_rules.specs.Telegrams.{bare, blank, telegram_read}
use Rattle.exchange_steps.specs.declared.State.{State}
use Rattle.exchange_steps.specs.declared.State.TheVariants.{Waiting, Resend, Well, Failed}
use Rattle.exchange_steps.specs.declared.Exchange.{Exchange}
use Rattle.exchange_steps.specs.declared.Slot.{Slot}
use Rattle.exchange_steps.specs.declared.Heard.{Heard}
use Rattle.exchange_steps.specs.Steps.{is_well, ends_well, heard_of}
use Rattle.exchange_steps.specs.Histories.{Step, send_ended, heard, answer}
use Rattle.base_lent.proofs.Laws.Copying.{laid_length}
use Rattle.base_lent.specs.Copying.{copied}
use Rattle.base_lent.specs.Lent.{told, stored}
use Rattle.base_lent.proofs.Laws.LentLaws.{all_copied, leaves_all, leaves_copied}
use Rattle.mbus_telegrams.specs.Kinds.{kind_in}
use Rattle.mbus_records.specs.Telegrams.{telegram_size, telegram_bytes}
use Rattle.exchange_record.specs.Exchanges.{state_number, exchange_size, exchange_bytes, slot_from}
use Rattle.exchange_record.proofs.Laws.ExchangeLaws.{exchange_length, slot_size, state_told}
use Rattle.host_exchange.specs.Calls.{step_for, send_ended_for, heard_for, Answers, replied, HearsReply, answer_of}

pub answer_shown : (a : Answer Exchange) → answer_of (answers.shown a) ≡ a
answer_shown (refusal n) = refl
answer_shown (reads x) = refl

pub shown_as : (a : Answer Exchange) (s : Result Exchange Refusal) → s ≡ answers.shown a → answer_of s ≡ a
shown_as a s e = ap answer_of e ∙ answer_shown a

-- 3 is told of an exchange that ended well, and of nothing else
pub told_well : (a : Answer Exchange) (telegram : Telegram) (out : List ℕ)
    → replied a telegram out ≡ cond (eqb (told (λ x. state_number x.state) a) 3) (stored telegram_bytes out (reads telegram)) out
told_well (refusal n) telegram out = rw (ne_eqb (256 + n) 3 (λ e. absurd (omega arith)))
told_well (reads x) telegram out = go x.state
  where
    go : (s : State) → cond (is_well s) (stored telegram_bytes out (reads telegram)) out
        ≡ cond (eqb (state_number s) 3) (stored telegram_bytes out (reads telegram)) out
    go Waiting = refl
    go (Resend cause) = refl
    go Well = refl
    go (Failed cause) = refl

-- the ways out of keeping a step
pub kept_refused : (b : List ℕ) {s : Result Exchange Refusal} {n : Refusal} → s ≡ Err n → Answers (answer_of s) b b (256 + n.0)
kept_refused b e = leaves_all exchange_bytes b (λ x. state_number x.state) (ap answer_of e)

pub kept_to : (b : List ℕ) {s : Result Exchange Refusal} {x : Exchange} {w after : List ℕ} {r : ℕ} → s ≡ Ok x → w ≡ exchange_bytes x → exchange_size ≤ length b
    → after ≡ copied b 0 w → r ≡ at w 3 → Answers (answer_of s) b after r
kept_to b {s} {x} e w h l n =
    leaves_copied exchange_bytes b (λ y. state_number y.state) (ap answer_of e) w (omega (arith, ap length w, exchange_length x)) l
    (n ∙ ap (λ (c : List ℕ). at c 3) w ∙ state_told x)

-- and the length of the record stays
pub kept_length : {a : Answer Exchange} {before after : List ℕ} {r : ℕ} → exchange_size ≤ length before → Answers a before after r → length after ≡ length before
kept_length {a} {before} {after} h k = ap length k.left ∙ go a
  where
    go : (a : Answer Exchange) → length (stored exchange_bytes before a) ≡ length before
    go (refusal n) = refl
    go (reads x) = laid_length before (exchange_bytes x) 0 (omega (arith, exchange_length x))

-- a record that is read has its size
pub room_read : (b : List ℕ) {s : Result Slot Refusal} {x : Slot} → s ≡ answers.shown (slot_from b) → s ≡ Ok x → exchange_size ≤ length b
room_read b {s} {x} e f = omega (arith, slot_size b x (shown_ok (slot_from b) x (sym e ∙ f)))

-- a step on a record that is refused, and on one that is read
module _ (b : List ℕ) (step : Step) {s : Result Slot Refusal} (e : s ≡ answers.shown (slot_from b)) where
  pub not_read : {n : Refusal} → s ≡ Err n → Answers (step_for b step) b b (256 + n.0)
  not_read {n} f = rw (shown_err (slot_from b) n.0 (sym e ∙ f)) (record { answer = refl; left = refl })

  pub was_read : {x : Slot} {u : Result Exchange Refusal} {after : List ℕ} {r : ℕ} → s ≡ Ok x → u ≡ answers.shown (answer x step) → Answers (answer_of u) b after r
      → Answers (step_for b step) b after r
  was_read {x} {u} f g k = rw (shown_ok (slot_from b) x (sym e ∙ f), ← shown_as (answer x step) u g) k

-- the end of a send, by the telegram that was made for it
pub send_was_read : (b : List ℕ) (kind address method t : ℕ) {s : Result Slot Refusal} → s ≡ answers.shown (slot_from b)
    → {x : Slot} {k : Kind} {m : Telegram} {u : Result Exchange Refusal} {after : List ℕ} {r : ℕ} → s ≡ Ok x → k ≡ kind_in kind → m ≡ bare k address method
    → u ≡ answers.shown (answer x (send_ended m (record { 0 = t }))) → Answers (answer_of u) b after r → Answers (send_ended_for b kind address method t) b after r
send_was_read b kind address method t e {x} {k} {m} {u} i made sent g kept =
    let whole : m ≡ bare (kind_in kind) address method = sent ∙ ap (λ (q : Kind). bare q address method) made in
    was_read b (send_ended (bare (kind_in kind) address method) (record { 0 = t })) e i
    (g ∙ ap (λ (q : Telegram). answers.shown (answer x (send_ended q (record { 0 = t })))) whole) kept

-- the two ways out of keeping what a line gave
module _ {a : Answer Exchange} {telegram : Telegram} {before after out : List ℕ} {r : ℕ} (k : Answers a before after r) where
  pub heard_well : {w then : List ℕ} → eqb r 3 ≡ true → w ≡ telegram_bytes telegram → length w ≤ length out
      → then ≡ copied out 0 w → HearsReply a telegram before after out then r
  heard_well {w} {then} e n h l = record {
    step = k;
    reply =
        all_copied telegram_bytes out telegram n h l
        ∙ sym (told_well a telegram out ∙ ap (λ (b : Bool). cond b (stored telegram_bytes out (reads telegram)) out)
        (ap (λ (q : ℕ). eqb q 3) (sym k.answer) ∙ e));
  }

  pub heard_other : eqb r 3 ≡ false → HearsReply a telegram before after out out r
  heard_other e = record {
    step = k;
    reply = sym (told_well a telegram out ∙ ap (λ (b : Bool). cond b (stored telegram_bytes out (reads telegram)) out)
        (ap (λ (q : ℕ). eqb q 3) (sym k.answer) ∙ e));
  }

-- where a line did not end the exchange well, it does not matter which telegram stands beside it
replied_well : (a : Answer Exchange) (u v : Telegram) (out : List ℕ) → replied a (cond (ends_well (answers.shown a)) u v) out ≡ replied a u out
replied_well (refusal n) u v out = refl
replied_well (reads x) u v out = go (is_well x.state)
  where
    go : (b : Bool) → cond b (stored telegram_bytes out (reads (cond b u v))) out ≡ cond b (stored telegram_bytes out (reads u)) out
    go true = refl
    go false = refl

-- a line, by what keeping the answer left
pub heard_line : (x : Slot) (line : List ℕ) (t : Clock) {h : Heard} {b after out then : List ℕ} {r : ℕ} → h ≡ heard_of x (read_line line) t
    → HearsReply (answer_of h.stepped) h.reply b after out then r
    → HearsReply (answer x (heard line t)) (telegram_read (read_line line)) b after out then r
heard_line x line t {h} {b} {after} {out} {then} {r} g k =
    let next : Answer Exchange = answer x (heard line t) in
    let said : answer_of h.stepped ≡ next = shown_as next h.stepped (ap (λ (q : Heard). q.stepped) g) in
    let reply : h.reply ≡ cond (ends_well (answers.shown next)) (telegram_read (read_line line)) blank = ap (λ (q : Heard). q.reply) g in
    record {
      step = subst (λ (q : Answer Exchange). Answers q b after r) said k.step;
      reply = k.reply ∙ ap₂ (λ (q : Answer Exchange) (w : Telegram). replied q w out) said reply
          ∙ replied_well next (telegram_read (read_line line)) blank out;
    }

-- a line on a record that is refused, with a reply's record that is too short, and with one that is not
module _ (b line : List ℕ) (t : ℕ) (out : List ℕ) {s : Result Slot Refusal} (e : s ≡ answers.shown (slot_from b)) where
  abbrev Told : List ℕ → List ℕ → ℕ → Type 0
  Told after then r = HearsReply (heard_for b line t out) (telegram_read (read_line line)) b after out then r

  pub hears_none : {n : Refusal} → s ≡ Err n → Told b out (256 + n.0)
  hears_none {n} f = rw (shown_err (slot_from b) n.0 (sym e ∙ f)) (record { step = record { answer = refl; left = refl }; reply = refl })

  pub hears_short : {x : Slot} → s ≡ Ok x → ltb (length out) telegram_size ≡ true → Told b out (256 + 21)
  hears_short {x} f h = rw (shown_ok (slot_from b) x (sym e ∙ f), h) (record { step = record { answer = refl; left = refl }; reply = refl })

  pub hears_line : {x : Slot} {after then : List ℕ} {r : ℕ} → s ≡ Ok x → ltb (length out) telegram_size ≡ false
      → HearsReply (answer x (heard line (record { 0 = t }))) (telegram_read (read_line line)) b after out then r → Told after then r
  hears_line {x} f l k = rw (shown_ok (slot_from b) x (sym e ∙ f), l) k
