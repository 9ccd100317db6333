-- Laws: the ways out of each call.
use Prim.Native.Nat.{ℕ, ◌+◌, ◌≤◌}
use mathlib.Core.Bool.{Bool, true, false}
use mathlib.Core.List.{List}
use mathlib.Core.Path.{◌≡◌, refl, sym, ap, subst, ◌∙◌}
use native.Mathlib.Omega.{arith}
use borrow.Author.Tests.{ltb-false}
use lib.Dec.{ltb}
use lib.ListN.{length}
use Rattle.mbus_rules.specs.declared.Kind.{Kind}
use Rattle.std.specs.Prelude.{Result, Ok, Err}
use Rattle.base_rules.specs.declared.refusals.Refusal.{Refusal}
use Rattle.mbus_rules.specs.declared.Telegram.{Telegram}
use Rattle.base_rules.specs.Answers.{Answer, reads, refusal, refuse, within}
use Rattle.mbus_rules.specs.Lines.{read_line}
use Rattle.mbus_rules.proofs.Laws.RoundTrip.{longest_line}
use Rattle.base_rules.specs.Shown.{shown}
use Rattle.base_rules.proofs.Laws.AnswerLaws.{shown_ok, shown_refused}
use Rattle.mbus_rules.specs.Telegrams.{bare}
use Rattle.mbus_rules.specs.Writing.{line_of, unwritable, write_line, longest}
use Rattle.std.proofs.Common.{Result, Ok, Err}
use Rattle.base_rules.specs.declared.refusals.Refusal.{Refusal}
use Rattle.base_rules.specs.Shown as program
use Rattle.base_rules.proofs.Laws.AnswerLaws.{shown_ok, shown_err}
use Rattle.base_characters.specs.Carrying.{Writes}
use Rattle.base_lent.specs.Copying.{copied}
use Rattle.base_lent.specs.Lent.{told, needs, Leaves}
use Rattle.base_lent.proofs.Laws.LentLaws.{none_copied, leaves_copied}
use Rattle.mbus_telegrams.specs.Kinds.{kind_in}
use Rattle.mbus_records.specs.Telegrams.{telegram_size, telegram_bytes, telegram_from}
use Rattle.host_lines.specs.Calls.{read_for, kind_of, write_for, request_for}

-- ---- what is stored

-- bytes that were handed to `store`, as they are left and told
module _ {A : Type 0} (number : A → ℕ) (written : A → List ℕ) (x : A) (out : List ℕ) {w after : List ℕ} {short : Bool} (e : w ≡ written x)
    (t : short ≡ ltb (length out) (length w)) (l : after ≡ copied out 0 w) where
  pub placed_short : (k : ℕ) → length w ≡ k → short ≡ true → Leaves number written (needs k out (reads x)) out after (256 + 21)
  placed_short k n s =
      let test : ltb (length out) (length w) ≡ true = sym t ∙ s in
      let so : ltb (length out) k ≡ true = rw n at test in
      rw (l, none_copied out w test, so) (record { answer = refl; left = refl })

  pub placed_whole : (k : ℕ) → length w ≡ k → short ≡ false → {r : ℕ} → r ≡ number x → Leaves number written (needs k out (reads x)) out after r
  placed_whole k n s q =
      let test : ltb (length out) (length w) ≡ false = sym t ∙ s in
      let so : ltb (length out) k ≡ false = rw n at test in
      rw so (leaves_copied written out number refl e (ltb-false (length out) (length w) test) l q)

-- ---- reading

module _ (line out : List ℕ) {s : Result Telegram Refusal} (e : s ≡ shown (read_line line)) where
  pub line_refused : {r : Refusal} → s ≡ Err r → Leaves kind_of telegram_bytes (read_for line out) out out (256 + r.0)
  line_refused f = rw (shown_refused (read_line line) (sym e ∙ f)) (record { answer = refl; left = refl })

  pub line_read : {t : Telegram} → s ≡ Ok t → {after : List ℕ} {r : ℕ} → Leaves kind_of telegram_bytes (needs telegram_size out (reads t)) out after r
      → Leaves kind_of telegram_bytes (read_for line out) out after r
  line_read {t} f k = rw (shown_ok (read_line line) t (sym e ∙ f)) k

-- ---- writing

abbrev Line : Answer (List ℕ) → List ℕ → List ℕ → ℕ → Type 0
Line a out after r = Leaves length (λ line. line) a out after r

told_err : (a : Answer (List ℕ)) {n : ℕ} → within length a ≡ refusal n → 256 + n ≡ told length a
told_err (refusal m) e = cc
told_err (reads s) e = cc

told_ok : (a : Answer (List ℕ)) {n : ℕ} → within length a ≡ reads n → n ≡ told length a
told_ok (refusal m) e = cc
told_ok (reads s) e = cc

module _ (t : Telegram) {out after : List ℕ} {w : Result ℕ Refusal} (l : Writes (write_line t (length out)) out after w) where
  pub not_written : {refused : Refusal} → w ≡ Err refused → Line (write_line t (length out)) out after (256 + refused.0)
  not_written {refused} f = record {
    answer = told_err (write_line t (length out)) (shown_err _ refused.0 (sym l.answer ∙ f));
    left = l.places;
  }

  pub line_written : {n : ℕ} → w ≡ Ok n → Line (write_line t (length out)) out after n
  line_written {n} f = record { answer = told_ok (write_line t (length out)) (shown_ok _ n (sym l.answer ∙ f)); left = l.places }

-- no line is longer than the longest
few : (t : Telegram) (u v : Bool) → unwritable t ≡ u → {w : Result ℕ Refusal} {n : ℕ} → w ≡ program.shown
    (within length (refuse 20 u (refuse 21 v (reads (line_of t))))) → w ≡ Ok n → n ≤ longest
few t true v g e f = let z : ◌≡◌ {A = ℕ} 0 1 = cc in absurd (omega arith)
few t false true g e f = let z : ◌≡◌ {A = ℕ} 0 1 = cc in absurd (omega arith)
few t false false g {w} {n} e f = let same : length (line_of t) ≡ n = cc in rw (← same) (longest_line t g)

pub written_few : (t : Telegram) {out after : List ℕ} {w : Result ℕ Refusal} {n : ℕ} → Writes (write_line t (length out)) out after w → w ≡ Ok n
    → n ≤ longest
written_few t {out} l f = few t (unwritable t) (ltb (length out) (length (line_of t))) refl l.answer f

module _ (b out : List ℕ) {s : Result Telegram Refusal} (e : s ≡ shown (telegram_from b)) where
  pub no_record : {r : Refusal} → s ≡ Err r → Line (write_for b out) out out (256 + r.0)
  no_record f = rw (shown_refused (telegram_from b) (sym e ∙ f)) (record { answer = refl; left = refl })

  pub record_line : {t : Telegram} → s ≡ Ok t → {after : List ℕ} {r : ℕ} → Line (write_line t (length out)) out after r → Line (write_for b out) out after r
  record_line {t} f k = rw (shown_ok (telegram_from b) t (sym e ∙ f)) k

pub request_line : (kind address method : ℕ) (out : List ℕ) {k : Kind} {request : Telegram} {after : List ℕ} {r : ℕ} → k ≡ kind_in kind
    → request ≡ bare k address method → Line (write_line request (length out)) out after r
    → Line (request_for kind address method out) out after r
request_line kind address method out {k} {request} {after} {r} e f n =
    let whole : request ≡ bare (kind_in kind) address method = f ∙ ap (λ (q : Kind). bare q address method) e in
    subst (λ (q : Telegram). Line (write_line q (length out)) out after r) whole n
