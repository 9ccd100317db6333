-- What salvaging tells of a bundle cut short, by what 01 says of a row.
use Prim.Native.Nat.{ℕ, zero, suc, ◌+◌, ◌*◌, ◌-◌, ◌≤◌, ◌<◌}
use mathlib.Core.Bool.{false, true≢false}
use mathlib.Core.List.{List, [], ◌∷◌, map}
use mathlib.Core.Logic.{◌⊎◌, inl, inr}
use mathlib.Core.Path.{◌≡◌, refl, sym, ap, ap₂, subst, ◌∙◌}
use native.Mathlib.Nat.{not-suc-le-zero, add-zero}
use native.Mathlib.Omega.{arith}
use borrow.Author.Tests.{eq-eqb, lt-ltb, le-ltb, ltb-true, ltb-false}
use lib.Dec.{ltb}
use lib.ListN.{length, get_or, take, drop}
use Rattle.base_rules.specs.Answers.{reads}
use Rattle.base_rules.specs.Lists.{any, total}
use Rattle.base_rules.proofs.Laws.AnswerLaws.{reads_same}
use Rattle.base_rules.proofs.Laws.Tests.{by_test, neither}
use Rattle.base_numbers.specs.Numbers.{number}
use Rattle.base_characters.specs.Characters.{over, chars}
use Rattle.bundle_rows.specs.Fields.{wrong_field}
use Rattle.bundle_rows.specs.Lists.{All}
use Rattle.bundle_rows.specs.Rows.{most_rows, rows_of, first_offset, blank_row, body_in}
use Rattle.bundle_rows.specs.declared.Row.{Row}
use Rattle.bundle_rows.proofs.Laws.RowLaws.{length_rows, field_right}
use Rattle.bundle_check.specs.Bundles.{most_bytes, count_of, opened}
use Rattle.bundle_check.specs.RowRules.{wrong_row, row_time, next_offset, wrong_place, bodies_end}
use Rattle.bundle_check.specs.Walks.{end_of}
use Rattle.bundle_check.proofs.Laws.Accepted.{accepted_sound}
use Rattle.bundle_check.proofs.Laws.RowRules.{place_right}
use Rattle.bundle_salvage.specs.declared.Salvaged.{Salvaged}
use Rattle.bundle_salvage.specs.Salvaging.{rule_of, Keep, leading, tell_of, leading_rows, salvage_of}
use Rattle.bundle_salvage.proofs.Laws.Answers as answers
use Rattle.bundle_salvage.proofs.Laws.Leading.{rule_field, rule_place, rule_wide, rule_none, rule_right, leading_keep, leading_end, leading_most}
use Rattle.bundle_salvage.proofs.Laws.Leading.{leading_rule}
use Rattle.demands.specs.SalvageTold.{FieldsRight, PlaceRight, ContentsThere, row_damaged, time_before, bodies_before, place_due, KeepsRules}
use Rattle.demands.specs.SalvageTold.{AcceptedIsWhole, LowestBroken, SalvageTells, KeptOrDropped, KeptKeepRules, LeadingRowsKept, LowestIsTold}
use Rattle.demands.specs.SalvageTold.{RuleWhereAllAreKept, FilledBySalvage, SalvageValues}

-- ---- the tests of a row, and what 01 says

fields_so : (before : ℕ) (r : Row) → wrong_row before r ≡ false → FieldsRight before r
fields_so before r e =
    let p = neither (wrong_field r.position r.direction r.length) (ltb r.time before) e in
    let q = field_right r.position r.direction r.length p.0 in
    record {
      position = (q.position_least, q.position_most);
      direction = q.direction_most;
      even = q.size_even;
      size = (q.size_least, q.size_most);
      time = ltb-false r.time before p.1;
    }

pub so_fields : (before : ℕ) (r : Row) → FieldsRight before r → wrong_row before r ≡ false
so_fields before r p =
    rw (
      le-ltb r.position 1 p.position.0,
      le-ltb 48 r.position p.position.1,
      le-ltb 1 r.direction p.direction,
      p.even,
      le-ltb r.length 2 p.size.0,
      le-ltb 1004 r.length p.size.1,
      le-ltb r.time before p.time,
    )

place_so : (b : List ℕ) (place : ℕ) (r : Row) → wrong_place (length b) place r ≡ false → PlaceRight b place r
place_so b place r e = let p = place_right (length b) place r e in record { offset = p.0; inside = p.1 }

so_place : (b : List ℕ) (place : ℕ) (r : Row) → PlaceRight b place r → wrong_place (length b) place r ≡ false
so_place b place r p = rw (eq-eqb r.offset place p.offset, le-ltb (length b) (place + r.length) p.inside)

range_so : (s : List ℕ) → any over s ≡ false → All (λ (c : ℕ). c ≤ 511) s
unfolding any
range_so [] e = tt
range_so (c ∷ s) e = let p = neither (over c) (any over s) e in (ltb-false 511 c p.0, range_so s p.1)

pub so_range : (s : List ℕ) → All (λ (c : ℕ). c ≤ 511) s → any over s ≡ false
unfolding any
so_range [] p = refl
so_range (c ∷ s) p = rw (le-ltb 511 c p.0, so_range s p.1)

-- ---- row by row

-- what leading rows that keep the rules say of the row at a place
keep_at : (b : List ℕ) (before place k : ℕ) (rows : List Row) (i : ℕ) → Keep b before place (take k rows) → i < k → i < length rows
    → rule_of b (end_of row_time before (take i rows)) (bodies_end place (take i rows)) (get_or rows i blank_row) ≡ 0
unfolding Keep end_of
keep_at b before place zero rows i p l h = absurd (not-suc-le-zero l)
keep_at b before place (suc k) [] i p l h = absurd (not-suc-le-zero h)
keep_at b before place (suc k) (r ∷ rows) zero p l h = p.0
keep_at b before place (suc k) (r ∷ rows) (suc i) p l h = keep_at b r.time (next_offset place r) k rows i p.1 (omega arith) (omega arith)

-- and the other way
at_keep : (b : List ℕ) (before place k : ℕ) (rows : List Row) → k ≤ length rows
    → ((i : ℕ) → i < k → rule_of b (end_of row_time before (take i rows)) (bodies_end place (take i rows)) (get_or rows i blank_row) ≡ 0)
    → Keep b before place (take k rows)
unfolding Keep end_of
at_keep b before place zero rows h p = tt
at_keep b before place (suc k) [] h p = absurd (not-suc-le-zero h)
at_keep b before place (suc k) (r ∷ rows) h p =
    (p 0 (omega arith), at_keep b r.time (next_offset place r) k rows (omega arith) (λ i l. p (suc i) (omega arith)))

-- the time of the row before, and the place where a body is due
time_at : (before : ℕ) (rows : List Row) (i : ℕ) → i < length rows → end_of row_time before (take (suc i) rows) ≡ (get_or rows i blank_row).time
unfolding end_of
time_at before [] i h = absurd (not-suc-le-zero h)
time_at before (r ∷ rows) zero h = refl
time_at before (r ∷ rows) (suc i) h = time_at r.time rows i (omega arith)

end_total : (place : ℕ) (rows : List Row) → bodies_end place rows ≡ place + total (map (λ (r : Row). r.length) rows)
unfolding end_of total
end_total place [] = sym (add-zero place)
end_total place (r ∷ rows) = end_total (next_offset place r) rows ∙ (let sum : ℕ = total (map (λ (x : Row). x.length) rows) in
    let same : next_offset place r + sum ≡ place + (r.length + sum) = omega arith in
    same)

-- ---- the lowest rule that a row breaks

module _ (b : List ℕ) (n i : ℕ) where
  keeps_so : rule_of b (time_before b n i) (place_due b n i) (row_damaged b n i) ≡ 0 → KeepsRules b n i
  keeps_so e =
      let p = rule_right b (time_before b n i) (place_due b n i) (row_damaged b n i) e in
      record {
        fields = fields_so (time_before b n i) (row_damaged b n i) p.field;
        place = place_so b (place_due b n i) (row_damaged b n i) p.placed;
        range = range_so (chars (body_in b (row_damaged b n i))) p.range;
      }

  so_keeps : KeepsRules b n i → rule_of b (time_before b n i) (place_due b n i) (row_damaged b n i) ≡ 0
  so_keeps p =
      rule_none b (time_before b n i) (place_due b n i) (row_damaged b n i) (record {
        field = so_fields (time_before b n i) (row_damaged b n i) p.fields;
        placed = so_place b (place_due b n i) (row_damaged b n i) p.place;
        range = so_range (chars (body_in b (row_damaged b n i))) p.range;
      })

  lowest_so : (rule : ℕ) → rule ≡ rule_of b (time_before b n i) (place_due b n i) (row_damaged b n i) → 0 < rule → LowestBroken b n i rule
  lowest_so rule e some =
      let before : ℕ = time_before b n i in
      let due : ℕ = place_due b n i in
      let r : Row = row_damaged b n i in
      by_test (wrong_row before r)
      (λ w. inl (e ∙ rule_field b before due r w, λ f. true≢false (sym w ∙ so_fields before r f)))
      (λ w. by_test (wrong_place (length b) due r)
      (λ v. inr (inl (e ∙ rule_place b before due r w v, fields_so before r w, λ f. true≢false (sym v ∙ so_place b due r f))))
      (λ v. by_test (any over (chars (body_in b r)))
      (λ u. inr (inr (
        e ∙ rule_wide b before due r w v u,
        fields_so before r w,
        place_so b due r v,
        λ f. true≢false (sym u ∙ so_range (chars (body_in b r)) f),
      )))
      (λ u. let none : rule ≡ 0 = e ∙ rule_none b before due r (record { field = w; placed = v; range = u }) in
      let no : ⊥ = omega arith in
      absurd no)))

-- ---- what is told

module _ (b : List ℕ) (n : ℕ) (c : ContentsThere b n) where
  abbrev rows : List Row
  rows = rows_of n (drop 2 b)

  many : length rows ≡ n
  many = length_rows n (drop 2 b)

  whole : opened b (reads (count_of b)) ≡ reads n
  whole =
      rw (
        c.count,
        le-ltb most_bytes (length b) c.fits,
        le-ltb (length b) 2 c.counted,
        le-ltb most_rows n c.few,
        le-ltb (length b) (first_offset n)
            c.there,
      )

  abbrev told : Salvaged
  told = tell_of n b (leading_rows n b)

  is : salvage_of b ≡ reads told
  is = answers.salvage_is b n whole refl

  few : (leading_rows n b).kept ≤ n
  few = answers.kept_few b n whole refl

  -- what a row is judged by
  time_is : (i : ℕ) → i ≤ n → end_of row_time 0 (take i rows) ≡ time_before b n i
  unfolding end_of
  time_is zero h = refl
  time_is (suc i) h = time_at 0 rows i (omega (arith, many))

  due_is : (i : ℕ) → bodies_end (first_offset n) (take i rows) ≡ place_due b n i
  due_is i = end_total (first_offset n) (take i rows)

  judged : (i : ℕ) → i ≤ n
      → rule_of b (end_of row_time 0 (take i rows)) (bodies_end (first_offset n) (take i rows)) (get_or rows i blank_row)
      ≡ rule_of b (time_before b n i) (place_due b n i) (row_damaged b n i)
  judged i h = ap₂ (λ (t p : ℕ). rule_of b t p (row_damaged b n i)) (time_is i h) (due_is i)

  kept_right : (i : ℕ) → i < (leading_rows n b).kept → KeepsRules b n i
  kept_right i h =
      let inside : i < n = omega (arith, few) in
      keeps_so b n i (sym (judged i (omega arith))
      ∙ keep_at b 0 (first_offset n) (leading_rows n b).kept rows i (leading_keep b 0 (first_offset n) rows) h (omega (arith, many)))

  no_more : (k : ℕ) → k ≤ n → ((i : ℕ) → i < k → KeepsRules b n i) → k ≤ (leading_rows n b).kept
  no_more k h p =
      leading_most b k 0 (first_offset n) rows (omega (arith, many))
      (at_keep b 0 (first_offset n) k rows (omega (arith, many)) (λ i l. judged i (omega arith) ∙ so_keeps b n i (p i l)))

  end_due : (leading_rows n b).end ≡ place_due b n (leading_rows n b).kept
  end_due = leading_end b 0 (first_offset n) rows ∙ due_is (leading_rows n b).kept

  dropped_rule : 0 < told.dropped → LowestBroken b n told.kept told.rule
  dropped_rule some =
      let some_left : (leading_rows n b).kept < n = omega arith in
      let p = leading_rule b 0 (first_offset n) rows (omega (arith, many)) in
      rw (lt-ltb (leading_rows n b).kept n some_left)
      (lowest_so b n (leading_rows n b).kept (leading_rows n b).rule (p.0 ∙ judged (leading_rows n b).kept few) p.1)

  all_kept : told.dropped ≡ 0 → ((told.rule ≡ 36) × (place_due b n n < length b)) ⊎ ((told.rule ≡ 0) × (place_due b n n ≡ length b))
  all_kept none =
      let all : (leading_rows n b).kept ≡ n = omega (arith, few) in
      let end : (leading_rows n b).end ≡ place_due b n n = end_due ∙ ap (place_due b n) all in
      let most = (answers.end_inside b n whole refl).1 in
      rw (le-ltb (leading_rows n b).kept n (omega arith))
      (by_test (ltb (leading_rows n b).end (length b))
      (λ e. rw e (inl (refl, omega (arith, ltb-true (leading_rows n b).end (length b) e))))
      (λ e. rw e (inr (refl, omega (arith, ltb-false (leading_rows n b).end (length b) e)))))

  filled_is : told.filled ≡ 2 + 12 * told.kept + bodies_before b n told.kept
  filled_is = omega (arith, end_due)

  -- what is answered is what is told
  same : (s : Salvaged) → salvage_of b ≡ reads s → told ≡ s
  same s e = reads_same (sym is ∙ e)

pub accepted_is_whole : AcceptedIsWhole
accepted_is_whole b n e =
    let s = (accepted_sound b n e).0 in
    let count = (accepted_sound b n e).1 in
    record { fits = s.fits; counted = s.counted; count = sym count; few = omega (arith, s.few); there = omega (arith, s.whole) }

pub salvage_tells : SalvageTells
salvage_tells b n c = (told b n c, is b n c)

pub kept_or_dropped : KeptOrDropped
kept_or_dropped b n s c e =
    subst (λ (x : Salvaged). x.kept + x.dropped ≡ n) (same b n c s e) (let f = few b n c in
    let sum : (told b n c).kept + (told b n c).dropped ≡ n = omega arith in
    sum)

pub kept_keep_rules : KeptKeepRules
kept_keep_rules b n s c e = subst (λ (x : Salvaged). (i : ℕ) → i < x.kept → KeepsRules b n i) (same b n c s e) (kept_right b n c)

pub leading_rows_kept : LeadingRowsKept
leading_rows_kept b n s c e =
    subst (λ (x : Salvaged). (k : ℕ) → k ≤ n → ((i : ℕ) → i < k → KeepsRules b n i) → k ≤ x.kept) (same b n c s e) (no_more b n c)

pub lowest_is_told : LowestIsTold
lowest_is_told b n s c e =
    subst (λ (x : Salvaged). 0 < x.dropped → LowestBroken b n x.kept x.rule) (same b n c s e) (dropped_rule b n c)

pub rule_where_all_are_kept : RuleWhereAllAreKept
rule_where_all_are_kept b n s c e =
    subst (λ (x : Salvaged). x.dropped ≡ 0 → ((x.rule ≡ 36) × (place_due b n n < length b)) ⊎ ((x.rule ≡ 0) × (place_due b n n ≡ length b)))
    (same b n c s e) (all_kept b n c)

pub filled_by_salvage : FilledBySalvage
filled_by_salvage b n s c e =
    subst (λ (x : Salvaged). x.filled ≡ 2 + 12 * x.kept + bodies_before b n x.kept) (same b n c s e) (filled_is b n c)

pub salvage_values : SalvageValues
unfolding salvage_of number rows_of leading rule_of any chars
salvage_values = (refl, refl, refl, refl, refl, refl, refl, refl)
