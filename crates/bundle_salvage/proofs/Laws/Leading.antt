-- The leading rows that keep the rules: what they are, that no more do, and the loop that tries them.
use Prim.Native.Nat.{ℕ, zero, suc, ◌+◌, ◌*◌, ◌%◌, ◌≤◌, ◌<◌, zero-le}
use mathlib.Core.Bool.{Bool, true, false, cond, not, ◌||◌, true≢false}
use mathlib.Core.List.{List, [], ◌∷◌, ◌++◌}
use mathlib.Core.Path.{◌≡◌, refl, sym, ap, ◌∙◌}
use native.Mathlib.Nat.{not-suc-le-zero}
use native.Mathlib.Numerals.{add-one}
use native.Mathlib.Omega.{arith}
use borrow.Author.Tests.{eq-eqb, ne_eqb, lt-ltb, le-ltb, eqb-true, eqb-false}
use lib.Dec.{ltb, eqb}
use lib.ListN.{length, get_or, take, drop, length-drop, take-append-drop, drop_of_length-le}
use lib.Seq.{drop-cons, drop-drop, length-take-le}
use Rattle.base_characters.specs.Characters.{over, chars}
use Rattle.base_rules.specs.Lists.{any}
use Rattle.base_rules.proofs.Laws.Tests.{by_test, neither}
use Rattle.base_rules.proofs.Laws.ListLaws.{any_append}
use Rattle.bundle_rows.proofs.Laws.RowLaws.{length_rows, row_at_lem, row_in, field_right}
use Rattle.bundle_rows.specs.Fields.{wrong_field}
use Rattle.bundle_rows.specs.Rows.{most_rows, row_of, rows_of, first_offset, blank_row, unchecked_row, body_in}
use Rattle.bundle_rows.specs.declared.Row.{Row}
use Rattle.bundle_check.specs.Bundles.{most_bytes}
use Rattle.bundle_check.specs.Records.{records_in, bodies_for}
use Rattle.bundle_check.specs.RowRules.{wrong_row, row_time, wrong_rows, next_offset, wrong_place, wrong_places, bodies_end}
use Rattle.bundle_check.specs.Walks.{some_wrong, end_of}
use Rattle.bundle_check.proofs.Laws.RecordLaws.{characters_append}
use Rattle.bundle_check.proofs.Laws.RowRules.{place_right}
use Rattle.bundle_salvage.specs.declared.leading.Leading.{Leading}
use Rattle.bundle_salvage.specs.Salvaging.{rule_of, Keep, one_more, leading, leading_rows}
use Rattle.bundle_salvage.specs.Writing.{ContentsWhole}

-- ---- a row that keeps its rules, and each way of breaking one

pub record Right (b : List ℕ) (before place : ℕ) (r : Row) : Type 0 where
  pub field : wrong_row before r ≡ false
  pub placed : wrong_place (length b) place r ≡ false
  pub range : any over (chars (body_in b r)) ≡ false

module _ (b : List ℕ) (before place : ℕ) (r : Row) where
  pub rule_field : wrong_row before r ≡ true → rule_of b before place r ≡ 34
  unfolding rule_of
  rule_field e = rw e

  pub rule_place : wrong_row before r ≡ false → wrong_place (length b) place r ≡ true → rule_of b before place r ≡ 35
  unfolding rule_of
  rule_place e f = rw (e, f)

  pub rule_wide : wrong_row before r ≡ false → wrong_place (length b) place r ≡ false → any over (chars (body_in b r)) ≡ true → rule_of b before place r ≡ 37
  unfolding rule_of
  rule_wide e f g = rw (e, f, g)

  pub rule_none : Right b before place r → rule_of b before place r ≡ 0
  unfolding rule_of
  rule_none p = rw (p.field, p.placed, p.range)

  pub rule_right : rule_of b before place r ≡ 0 → Right b before place r
  rule_right z = by_test (wrong_row before r) (λ e. never (rule_field e))
      (λ e. by_test (wrong_place (length b) place r) (λ f. never (rule_place e f))
      (λ f. by_test (any over (chars (body_in b r))) (λ g. never (rule_wide e f g)) (λ g. record { field = e; placed = f; range = g })))
    where
      never : {n : ℕ} → rule_of b before place r ≡ suc n → Right b before place r
      never h = let no : ⊥ = omega arith in absurd no

-- ---- what the leading rows are

module _ (b : List ℕ) where
  pub leading_few : (before place : ℕ) (rows : List Row) → (leading b before place rows).kept ≤ length rows
  unfolding leading
  leading_few before place [] = zero-le
  leading_few before place (r ∷ rows) =
      by_test (eqb (rule_of b before place r) 0) (λ e. rw e (omega (arith, leading_few r.time (next_offset place r) rows))) (λ e. rw e zero-le)

  pub leading_keep : (before place : ℕ) (rows : List Row) → Keep b before place (take (leading b before place rows).kept rows)
  unfolding leading Keep
  leading_keep before place [] = tt
  leading_keep before place (r ∷ rows) =
      by_test (eqb (rule_of b before place r) 0)
      (λ e. rw e (eqb-true (rule_of b before place r) 0 e, leading_keep r.time (next_offset place r) rows)) (λ e. rw e tt)

  pub leading_end : (before place : ℕ) (rows : List Row)
      → (leading b before place rows).end ≡ bodies_end place (take (leading b before place rows).kept rows)
  unfolding leading end_of
  leading_end before place [] = refl
  leading_end before place (r ∷ rows) =
      by_test (eqb (rule_of b before place r) 0) (λ e. rw e (leading_end r.time (next_offset place r) rows)) (λ e. rw e)

  -- no more rows keep them
  pub leading_most : (k before place : ℕ) (rows : List Row) → k ≤ length rows → Keep b before place (take k rows) → k ≤ (leading b before place rows).kept
  unfolding leading Keep
  leading_most zero before place rows h p = zero-le
  leading_most (suc k) before place [] h p = absurd (not-suc-le-zero h)
  leading_most (suc k) before place (r ∷ rows) h p =
      rw (eq-eqb (rule_of b before place r) 0 p.0) (omega (arith, leading_most k r.time (next_offset place r) rows (omega arith) p.1))

  -- the rule is that of the first row that is dropped, and it is broken
  pub leading_rule : (before place : ℕ) (rows : List Row) → (leading b before place rows).kept < length rows
      → ((leading b before place rows).rule ≡ rule_of b (end_of row_time before (take (leading b before place rows).kept rows))
      (bodies_end place (take (leading b before place rows).kept rows)) (get_or rows (leading b before place rows).kept blank_row))
      × (0 < (leading b before place rows).rule)
  unfolding leading end_of
  leading_rule before place [] h = absurd (not-suc-le-zero h)
  leading_rule before place (r ∷ rows) h =
      by_test (eqb (rule_of b before place r) 0)
      (λ e. rw e (leading_rule r.time (next_offset place r) rows (omega (arith, rw e at h))))
      (λ e. rw e (refl, omega (arith, eqb-false (rule_of b before place r) 0 e)))

  -- rows that all keep them are all kept, and no rule is told
  pub leading_all : (before place : ℕ) (rows : List Row) → Keep b before place rows
      → leading b before place rows ≡ record { kept = length rows; rule = 0; end = bodies_end place rows }
  unfolding leading Keep end_of
  leading_all before place [] p = refl
  leading_all before place (r ∷ rows) p = rw (eq-eqb (rule_of b before place r) 0 p.0, leading_all r.time (next_offset place r) rows p.1)

  -- ---- by the rules of a whole bundle

  pub keep_fields : (before place : ℕ) (rows : List Row) → Keep b before place rows → wrong_rows before rows ≡ false
  unfolding Keep some_wrong
  keep_fields before place [] p = refl
  keep_fields before place (r ∷ rows) p = rw ((rule_right b before place r p.0).field, keep_fields r.time (next_offset place r) rows p.1)

  pub keep_places : (before place : ℕ) (rows : List Row) → Keep b before place rows → wrong_places (length b) place rows ≡ false
  unfolding Keep some_wrong
  keep_places before place [] p = refl
  keep_places before place (r ∷ rows) p = rw ((rule_right b before place r p.0).placed, keep_places r.time (next_offset place r) rows p.1)

  -- a body has an even number of bytes, and stands where the one before it ends
  right_even : (before place : ℕ) (r : Row) → Right b before place r → length (take r.length (drop place b)) % 2 ≡ 0
  right_even before place r p =
      let q = place_right (length b) place r p.placed in
      let f = neither (wrong_field r.position r.direction r.length) (ltb r.time before) p.field in
      let size : length (take r.length (drop place b)) ≡ r.length =
      length-take-le r.length (drop place b) (omega (arith, length-drop place b, q.1)) in
      rw size (field_right r.position r.direction r.length f.0).size_even

  pub keep_range : (before place : ℕ) (rows : List Row) → Keep b before place rows → any over (chars (bodies_for (records_in rows (drop place b)))) ≡ false
  unfolding Keep records_in bodies_for chars any
  keep_range before place [] p = refl
  keep_range before place (r ∷ rows) p =
      let right = rule_right b before place r p.0 in
      let q = place_right (length b) place r right.placed in
      let own : any over (chars (take r.length (drop place b))) ≡ false =
      ap (λ (k : ℕ). any over (chars (take r.length (drop k b)))) (sym q.0) ∙ right.range in
      let rest : any over (chars (bodies_for (records_in rows (drop r.length (drop place b))))) ≡ false =
      ap (λ (l : List ℕ). any over (chars (bodies_for (records_in rows l)))) (drop-drop r.length place b)
      ∙ keep_range r.time (next_offset place r) rows p.1 in
      ap (any over)
      (characters_append (take r.length (drop place b)) (bodies_for (records_in rows (drop r.length (drop place b)))) (right_even before place r right))
      ∙ any_append over (chars (take r.length (drop place b))) (chars (bodies_for (records_in rows (drop r.length (drop place b)))))
      ∙ rw (own, rest)

  -- and the other way
  pub keep_all : (before place : ℕ) (rows : List Row) → wrong_rows before rows ≡ false → wrong_places (length b) place rows ≡ false
      → any over (chars (drop place b)) ≡ false → Keep b before place rows
  unfolding Keep some_wrong
  keep_all before place [] f w c = tt
  keep_all before place (r ∷ rows) f w c =
      let ff = neither (wrong_row before r) (wrong_rows r.time rows) f in
      let ww = neither (wrong_place (length b) place r) (wrong_places (length b) (next_offset place r) rows) w in
      let q = place_right (length b) place r ww.0 in
      let own : List ℕ = take r.length (drop place b) in
      let rest : List ℕ = drop r.length (drop place b) in
      let fields = neither (wrong_field r.position r.direction r.length) (ltb r.time before) ff.0 in
      let size : length own ≡ r.length = length-take-le r.length (drop place b) (omega (arith, length-drop place b, q.1)) in
      let even : length own % 2 ≡ 0 = rw size (field_right r.position r.direction r.length fields.0).size_even in
      let parts : (any over (chars own) || any over (chars rest)) ≡ false =
      sym (any_append over (chars own) (chars rest)) ∙ ap (any over) (sym (characters_append own rest even))
      ∙ ap (λ (l : List ℕ). any over (chars l)) (take-append-drop r.length (drop place b)) ∙ c in
      let wide = neither (any over (chars own)) (any over (chars rest)) parts in (
        rule_none b before place r (record {
          field = ff.0;
          placed = ww.0;
          range = ap (λ (k : ℕ). any over (chars (take r.length (drop k b)))) q.0 ∙ wide.0;
        }),
        keep_all r.time (next_offset place r) rows ff.1 ww.1
            (ap (λ (l : List ℕ). any over (chars l)) (sym (drop-drop r.length place b)) ∙ wide.1),
      )
