-- Laws: the ways out of each call.
use Prim.Native.Nat.{ℕ, ◌+◌, ◌≤◌}
use mathlib.Core.Bool.{Bool, true, false}
use mathlib.Core.List.{List}
use mathlib.Core.Path.{◌≡◌, refl, sym, ap, ◌∙◌}
use native.Mathlib.Omega.{arith}
use borrow.Author.Tests.{ltb-false}
use lib.Dec.{ltb}
use lib.ListN.{length}
use Rattle.mbus_rules.specs.declared.Entry.{Entry}
use Rattle.base_rules.specs.Answers.{Answer, reads, refusal, refuse, within}
use Rattle.std.proofs.Common.{Result, Ok, Err}
use Rattle.base_rules.specs.declared.refusals.Refusal.{Refusal}
use Rattle.base_rules.specs.Shown.{shown}
use Rattle.base_rules.proofs.Laws.AnswerLaws.{shown_ok, shown_err}
use Rattle.base_characters.specs.Carrying.{Writes}
use Rattle.base_lent.specs.Copying.{copied}
use Rattle.base_lent.specs.Lent.{told, done, Leaves}
use Rattle.base_lent.proofs.Laws.LentLaws.{leaves_all, leaves_copied}
use Rattle.cjt_rules.specs.declared.CjtTelegram.{CjtTelegram}
use Rattle.cjt_rules.specs.declared.CjtTelegram.TheVariants as telegrams
use Rattle.cjt_rules.specs.CjtWriting.{cjt_line_of, unwritten, write_cjt_line}
use Rattle.cjt_rules.proofs.Laws.RoundTrip.{request_line, answer_line}
use Rattle.cjt_energy.specs.Energies.{entry_for}
use Rattle.mbus_records.specs.Telegrams.{entry_bytes}
use Rattle.mbus_records.proofs.Laws.TelegramLaws.{entry_length}
use Rattle.cjt_records.specs.CjtRecords.{cjt_from}
use Rattle.host_cjt.specs.CjtCalls.{write_cjt_for, entry_size, entry_cjt_for}

-- ---- an energy as an entry

module _ (count code : ℕ) (out : List ℕ) where
  pub entry_short : ltb (length out) entry_size ≡ true → Leaves done entry_bytes (entry_cjt_for count code out) out out (256 + 21)
  entry_short s =
      let a : entry_cjt_for count code out ≡ refusal 21 = rw s in
      leaves_all entry_bytes out done a

  module _ (s : ltb (length out) entry_size ≡ false) {v : Result Entry Refusal} (e : v ≡ shown (entry_for count code)) where
    pub entry_refused : {r : Refusal} → v ≡ Err r → Leaves done entry_bytes (entry_cjt_for count code out) out out (256 + r.0)
    entry_refused {r} f =
        let a : entry_for count code ≡ refusal r.0 = shown_err (entry_for count code) r.0 (sym e ∙ f) in
        let b : entry_cjt_for count code out ≡ refusal r.0 = rw (s, a) in
        leaves_all entry_bytes out done b

    pub entry_given : {x : Entry} → v ≡ Ok x → {w after : List ℕ} → w ≡ entry_bytes x → after ≡ copied out 0 w
        → Leaves done entry_bytes (entry_cjt_for count code out) out after 0
    entry_given {x} f {w} d l =
        let a : entry_for count code ≡ reads x = shown_ok (entry_for count code) x (sym e ∙ f) in
        let size : length w ≡ 16 = ap length d ∙ entry_length x in
        let room : 16 ≤ length out = ltb-false (length out) 16 s in
        let b : entry_cjt_for count code out ≡ reads x = rw (s, a) in
        leaves_copied entry_bytes out done b d (omega arith) l refl

-- ---- writing

abbrev Line : Answer (List ℕ) → List ℕ → List ℕ → ℕ → Type 0
Line a out after r = Leaves length (λ line. line) a out after r

told_err : (a : Answer (List ℕ)) {n : ℕ} → within length a ≡ refusal n → 256 + n ≡ told length a
told_err (refusal m) e = cc
told_err (reads s) e = cc

told_ok : (a : Answer (List ℕ)) {n : ℕ} → within length a ≡ reads n → n ≡ told length a
told_ok (refusal m) e = cc
told_ok (reads s) e = cc

module _ (t : CjtTelegram) {out after : List ℕ} {w : Result ℕ Refusal} (l : Writes (write_cjt_line t (length out)) out after w) where
  pub not_written : {refused : Refusal} → w ≡ Err refused → Line (write_cjt_line t (length out)) out after (256 + refused.0)
  not_written {refused} f = record {
    answer = told_err (write_cjt_line t (length out)) (shown_err _ refused.0 (sym l.answer ∙ f));
    left = l.places;
  }

  pub line_written : {n : ℕ} → w ≡ Ok n → Line (write_cjt_line t (length out)) out after n
  line_written {n} f = record { answer = told_ok (write_cjt_line t (length out)) (shown_ok _ n (sym l.answer ∙ f)); left = l.places }

-- no line is longer than 59
line_lengths : (t : CjtTelegram) → length (cjt_line_of t) ≤ 59
line_lengths (telegrams.Request q) = omega (arith, request_line q)
line_lengths (telegrams.Answer a) = omega (arith, answer_line a)

few : (t : CjtTelegram) (u v : Bool) {w : Result ℕ Refusal} {n : ℕ} → w ≡ shown (within length (refuse 20 u (refuse 21 v (reads (cjt_line_of t)))))
    → w ≡ Ok n → n ≤ 59
few t true v e f = let z : ◌≡◌ {A = ℕ} 0 1 = cc in absurd (omega arith)
few t false true e f = let z : ◌≡◌ {A = ℕ} 0 1 = cc in absurd (omega arith)
few t false false {w} {n} e f = let same : length (cjt_line_of t) ≡ n = cc in rw (← same) (line_lengths t)

pub written_few : (t : CjtTelegram) {out after : List ℕ} {w : Result ℕ Refusal} {n : ℕ} → Writes (write_cjt_line t (length out)) out after w → w ≡ Ok n
    → n ≤ 59
written_few t {out} l f = few t (unwritten t) (ltb (length out) (length (cjt_line_of t))) l.answer f

-- ---- what was read

module _ (b out : List ℕ) {s : Result CjtTelegram Refusal} (e : s ≡ shown (cjt_from b)) where
  pub no_record : {r : Refusal} → s ≡ Err r → Line (write_cjt_for b out) out out (256 + r.0)
  no_record {r} f = rw (shown_err (cjt_from b) r.0 (sym e ∙ f)) (record { answer = refl; left = refl })

  pub record_line : {t : CjtTelegram} → s ≡ Ok t → {after : List ℕ} {r : ℕ} → Line (write_cjt_line t (length out)) out after r
      → Line (write_cjt_for b out) out after r
  record_line {t} f k = rw (shown_ok (cjt_from b) t (sym e ∙ f)) k
