-- Laws of `specs/Told`.
use Prim.Native.Nat.{ℕ, ◌+◌, ◌*◌, ◌-◌, ◌≤◌, ◌<◌}
use mathlib.Core.Bool.{true, false, not, ◌||◌}
use mathlib.Core.List.{List, []}
use mathlib.Core.Path.{◌≡◌, refl, sym, ap, subst, ◌∙◌}
use native.Mathlib.Nat.{zero-add}
use native.Mathlib.Omega.{arith}
use borrow.Author.Tests.{ltb-false, leb-false}
use lib.Dec.{ltb, leb, eqb}
use lib.ListN.{length, get_or, replicate, length-append, length-map, length-replicate}
use lib.Seq.{take_at, get_or-take, length-take-le}
use Rattle.base_rules.specs.Answers.{Answer, reads, refusal, refuse, within, follow}
use Rattle.base_rules.specs.Lists.{any}
use Rattle.std.specs.Prelude.{Result, Ok, Err}
use Rattle.base_rules.specs.declared.refusals.Refusal.{Refusal}
use Rattle.base_rules.specs.Shown.{shown, refused_by}
use Rattle.base_rules.proofs.Laws.AnswerLaws.{reads_same, shown_same}
use Rattle.base_rules.proofs.Laws.TestLaws.{not_refused}
use Rattle.base_rules.proofs.Laws.Tests.{neither, passed}
use Rattle.base_numbers.specs.Numbers.{bytes_of}
use Rattle.base_lent.specs.Copying.{copied}
use Rattle.base_lent.specs.Lent.{done}
use Rattle.base_lent.proofs.Laws.LentLaws.{leaves_all, leaves_copied}
use Rattle.base_lent.proofs.Laws.PieceLaws.{Pieced, pieced_next}
use Rattle.base_lent.specs.Recorded.{no_record}
use Rattle.bundle_rows.specs.Rows.{most_rows, body_in}
use Rattle.bundle_check.specs.Bundles.{check_of}
use Rattle.bundle_check.specs.Records.{records_of}
use Rattle.bundle_check.specs.RowRules.{wrong_rows}
use Rattle.bundle_check.proofs.Laws.BodyLaws.{few_rows}
use Rattle.bundle_columns.specs.Columns.{Columns, kept_rows}
use Rattle.bundle_columns.specs.Record.{columns_size, columns_in, columns_from}
use Rattle.bundle_columns.proofs.Laws.Turning.{length_kept}
use Rattle.run_counting.specs.Ears.{row_with}
use Rattle.run_counting.proofs.Laws.Walking.{length_records}
use Rattle.host_bundle.specs.Lent.{left_in}
use Rattle.run_verdicts.specs.declared.Verdict.{Verdict}
use Rattle.run_verdicts.specs.declared.Verdict.TheVariants.{Unasked}
use Rattle.run_verdicts.specs.declared.Verdicts.{Verdicts}
use Rattle.run_verdicts.specs.Verdicts.{verdicts_of}
use Rattle.run_verdicts.specs.Answering.{verdicts_in, body_past, records_kept, verdicts_kept}
use Rattle.run_verdicts.specs.Shown.{listed}
use Rattle.run_verdicts.proofs.Laws.Telling.{length_verdicts}
use Rattle.host_verdicts.specs.Records.{verdict_record}
use Rattle.host_verdicts.specs.Told.{records_told, verdicts_into, verdict_in, verdict_into, GivesVerdicts, GivesVerdict}
use Rattle.host_verdicts.specs.Told.{verdicts_among, answer_shown, Full, InFull, PutsVerdicts}
use Rattle.base_rules.proofs.Laws.ListLaws.{get_d_inside}

pub length_record : (v : Verdict) → length (verdict_record v) ≡ 4
unfolding bytes_of
length_record v = refl

-- ---- the walk's answer says what it was made of

pub answer_back : (a : Answer (List Verdict)) → answer_shown (shown (within listed a)) ≡ a
answer_back (refusal n) = refl
answer_back (reads verdicts) =
    ap reads (take_at verdicts (replicate (most_rows - length verdicts) Unasked) (length verdicts) refl)

full_shown : (a : Answer (List Verdict)) → ((verdicts : List Verdict) → a ≡ reads verdicts → length verdicts ≤ most_rows) → InFull (shown (within listed a))
full_shown (refusal n) few = tt
full_shown (reads verdicts) few =
    let most = few verdicts refl in
    record {
      few = most;
      whole =
          length-append verdicts (replicate (most_rows - length verdicts) Unasked)
          ∙ omega (arith, length-replicate (most_rows - length verdicts) Unasked);
    }

few_in : (b : List ℕ) (verdicts : List Verdict) → verdicts_in b ≡ reads verdicts → length verdicts ≤ most_rows
unfolding verdicts_in
few_in b verdicts e = go (check_of b) refl e
  where
    go : (a : Answer ℕ) → check_of b ≡ a → within (λ n. verdicts_of (records_of b)) a ≡ reads verdicts → length verdicts ≤ most_rows
    go (refusal k) h g = absurd (not_refused g)
    go (reads n) h g = omega (arith, ap length (reads_same g), length_verdicts [] (records_of b), length_records b n h, few_rows b n h)

few_columns : (lists : List ℕ) (c : Columns) → columns_from lists ≡ reads c → c.count ≤ most_rows
unfolding columns_from
few_columns lists c e =
    let size = ltb most_rows (columns_in lists).count in
    let p = passed no_record (not (eqb (length lists) columns_size) || size) (reads (columns_in lists)) c e in
    let same : (columns_in lists).count ≡ c.count = ap (λ (x : Columns). x.count) (reads_same p.1) in
    omega (arith, ltb-false most_rows (columns_in lists).count (neither (not (eqb (length lists) columns_size)) size p.0).1)

few_kept : (lists b : List ℕ) (verdicts : List Verdict) → verdicts_kept lists b ≡ reads verdicts → length verdicts ≤ most_rows
unfolding verdicts_kept
few_kept lists b verdicts e = go (columns_from lists) refl e
  where
    tried : Columns → Answer (List Verdict)
    tried c = refuse 35 (any (body_past (length b)) (kept_rows c)) (reads (verdicts_of (records_kept c b)))

    go : (a : Answer Columns) → columns_from lists ≡ a
        → follow a (λ c. refuse 34 (wrong_rows 0 (kept_rows c)) (tried c)) ≡ reads verdicts → length verdicts ≤ most_rows
    go (refusal k) h g = absurd (not_refused g)
    go (reads c) h g =
        let p = passed 34 (wrong_rows 0 (kept_rows c)) (tried c) verdicts g in
        let q = passed 35 (any (body_past (length b)) (kept_rows c)) (reads (verdicts_of (records_kept c b))) verdicts p.1 in
        omega (
          arith,
          ap length (reads_same q.1),
          length_verdicts [] (records_kept c b),
          length-map (kept_rows c) (λ r. row_with r (body_in b r)),
          length_kept c 0 c.count,
          few_columns lists c h,
        )

module _ {all : Result Verdicts Refusal} where
  pub full_in : (b : List ℕ) → all ≡ shown (within listed (verdicts_in b)) → InFull all
  full_in b e = rw e (full_shown (verdicts_in b) (few_in b))

  pub full_kept : (lists b : List ℕ) → all ≡ shown (within listed (verdicts_kept lists b)) → InFull all
  full_kept lists b e = rw e (full_shown (verdicts_kept lists b) (few_kept lists b))

  pub answer_is : (a : Answer (List Verdict)) → all ≡ shown (within listed a) → answer_shown all ≡ a
  answer_is a e = rw e (answer_back a)

-- ---- the records, one behind the other

pub puts_next : {verdicts : List Verdict} {d : List ℕ} {i : ℕ} {now s after : List ℕ} (z : Verdict) → Pieced verdict_record 4 d 0 verdicts i now
    → i < length verdicts → s ≡ verdict_record (get_or verdicts i z) → after ≡ copied now (4 * i) s → Pieced verdict_record 4 d 0 verdicts (i + 1) after
puts_next {i = i} {now} {s} z g h e k = pieced_next g h z e (k ∙ ap (λ (m : ℕ). copied now m s) (sym (zero-add (4 * i))))

-- ---- the verdicts in the first places

module _ (verdicts : List Verdict) {n : ℕ} (whole : length verdicts ≡ most_rows) (few : n ≤ most_rows) where
  pub length_among : length (verdicts_among verdicts n) ≡ n
  length_among = length-take-le n verdicts (omega arith)

  among_at : (i : ℕ) (d : Verdict) → i < n → get_or verdicts i d ≡ get_or (verdicts_among verdicts n) i Unasked
  among_at i d h = get_d_inside verdicts i d Unasked (omega arith) ∙ sym (get_or-take n verdicts i Unasked h)

-- ---- what is given

module _ (judged : Result Verdicts Refusal) (out : List ℕ) (count : ℕ) where
  abbrev Given : ℕ → List ℕ → ℕ → Type 0
  Given r out' count' = GivesVerdicts (verdicts_into (answer_shown judged) out) out count r out' count'

  unchanged : {n : ℕ} → verdicts_into (answer_shown judged) out ≡ refusal n → Given (256 + n) out count
  unchanged q = record {
    tells = leaves_all records_told out done q;
    counts = ap (λ (a : Answer (List Verdict)). left_in count (within (λ verdicts. length verdicts) a)) (sym q);
  }

  pub given_refused : {r : Refusal} → judged ≡ Err r → Given (256 + r.0) out count
  given_refused {r} e = unchanged {n = r.0} (rw e)

  pub given_as : (a : Answer (List Verdict)) {r count' : ℕ} {out' : List ℕ} → judged ≡ shown (within listed a) → Given r out' count'
      → GivesVerdicts (verdicts_into a out) out count r out' count'
  given_as a {r} {count'} {out'} e g =
      subst (λ (x : Answer (List Verdict)). GivesVerdicts (verdicts_into x out) out count r out' count') (answer_is a e) g

pub full_of : {judged : Result Verdicts Refusal} {all : Verdicts} → judged ≡ Ok all → InFull judged → Full all
full_of e f = subst InFull e f

module _ {all : Verdicts} (full : Full all) {judged : Result Verdicts Refusal} (e : judged ≡ Ok all) where
  abbrev told : List Verdict
  told = verdicts_among all.verdicts all.count

  size : length told ≡ all.count
  size = length_among all.verdicts full.whole full.few

  module _ (out : List ℕ) (count : ℕ) where
    pub given_short : ltb (length out) (4 * all.count) ≡ true → Given judged out count (256 + 21) out count
    given_short s = unchanged judged out count {n = 21} (rw (e, size, s))

    pub given_all : {out' : List ℕ} → ltb (length out) (4 * all.count) ≡ false → PutsVerdicts told out out' → Given judged out count 0 out' all.count
    given_all {out'} s p =
        let q : verdicts_into (answer_shown judged) out ≡ reads told = rw (e, size, s) in
        rw q (record { tells = record { answer = refl; left = p }; counts = sym size })

  module _ (i : ℕ) where
    pub found_none : leb all.count i ≡ true → Err (refused_by 39) ≡ shown (verdict_in (answer_shown judged) i)
    found_none s = rw (e, size, s)

    pub found_one : (z : Verdict) → leb all.count i ≡ false → Ok (get_or all.verdicts i z) ≡ shown (verdict_in (answer_shown judged) i)
    found_one z s = rw (e, size, s) (ap Ok (among_at all.verdicts full.whole full.few i z (leb-false all.count i s)))

pub found_refused : {judged : Result Verdicts Refusal} (i : ℕ) {r : Refusal} → judged ≡ Err r → Err r ≡ shown (verdict_in (answer_shown judged) i)
found_refused i e = rw e

-- ---- one verdict

module _ (a : Answer (List Verdict)) (i : ℕ) (out : List ℕ) where
  pub one_short : ltb (length out) 4 ≡ true → GivesVerdict (verdict_into a i out) out (256 + 21) out
  one_short e = rw e (leaves_all verdict_record out done refl)

  module _ {all : Result Verdicts Refusal} {s : Result Verdict Refusal} (e : ltb (length out) 4 ≡ false) (g : all ≡ shown (within listed a))
      (f : s ≡ shown (verdict_in (answer_shown all) i)) where
    is : (b : Answer Verdict) → s ≡ shown b → verdict_in a i ≡ b
    is b h = ap (λ (x : Answer (List Verdict)). verdict_in x i) (sym (answer_is a g)) ∙ shown_same (verdict_in (answer_shown all) i) b (sym f ∙ h)

    pub one_refused : {k : Refusal} → s ≡ Err k → GivesVerdict (verdict_into a i out) out (256 + k.0) out
    one_refused {k} h = rw e (leaves_all verdict_record out done (is (refusal k.0) h))

    pub one_given : {v : Verdict} {x after : List ℕ} → s ≡ Ok v → x ≡ verdict_record v → after ≡ copied out 0 x
        → GivesVerdict (verdict_into a i out) out 0 after
    one_given {v} {x} h d k =
        let room : length x ≤ length out = omega (arith, ap length d, length_record v, ltb-false (length out) 4 e) in
        rw e (leaves_copied verdict_record out done (is (reads v) h) d room k refl)
