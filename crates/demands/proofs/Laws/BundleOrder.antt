-- The order of refusals of a run bundle, of handing out, adding and sweeping.
use Prim.Native.Nat.{ℕ, zero, suc, ◌+◌, ◌*◌, ◌-◌, ◌/◌, ◌%◌, ◌<◌, ◌≤◌, suc-le-suc, zero-le}
use native.Mathlib.Nat.{le_of_suc-le-suc, add-zero, le_refl}
use native.Mathlib.Omega.{arith}
use mathlib.Core.Bool.{Bool, false≢true}
use mathlib.Core.List.{List, [], ◌∷◌, ◌++◌}
use mathlib.Core.Logic.{◌↔◌, ◌⊎◌, inl, inr, ⊎_elim}
use mathlib.Core.Path.{◌≡◌, refl, sym, ap, ap₂, subst, ◌∙◌}
use lib.Dec.{ltb, leb}
use lib.ListN.{length, take, drop, get_or, length-drop}
use lib.Seq.{take_all, get_or-drop, drop-drop}
use Rattle.base_rules.specs.Answers.{Answer, reads, refuse}
use Rattle.base_rules.specs.Lists.{at, any}
use Rattle.base_numbers.specs.Numbers.{number}
use Rattle.base_characters.specs.Characters.{over, chars}
use Rattle.base_characters.proofs.Laws.PairLaws.{length_characters, character_at}
use Rattle.bundle_rows.specs.declared.Row.{Row}
use Rattle.bundle_rows.specs.Fields.{wrong_field}
use Rattle.bundle_rows.specs.Rows.{row_of, rows_of, blank_row}
use Rattle.bundle_rows.proofs.Laws.RowLaws.{length_rows, row_at_lem}
use Rattle.bundle_check.specs.Walks.{some_wrong, end_of}
use Rattle.bundle_check.specs.RowRules.{wrong_row, row_time, wrong_rows, next_offset, wrong_places, bodies_end}
use Rattle.bundle_check.specs.Bundles.{count_of, contents_of, check_rows, opened, check_of}
use Rattle.bundle_check.specs.Handing.{place_of, row_at}
use Rattle.bundle_check.specs.Records.{row_for}
use Rattle.bundle_check.proofs.Laws.Accepted.{accepted_sound}
use Rattle.bundle_adding.specs.Adding.{last_time, grown, no_room, add_of}
use Rattle.bundle_sweep.specs.Sweeping.{swept_bundle, sweep_of}
use Rattle.demands.specs.Orders.{Table}
use Rattle.demands.specs.BundleOrder.{two_at, four_at, count, position, direction, time_of_row, offset, size, begins, OutOfRange}
use Rattle.demands.specs.BundleOrder.{WrongRows, WrongPlaces, OverFrom, open_table, rows_table, bundle_table, row_table}
use Rattle.demands.specs.BundleOrder.{BundleOrder, RowOrder, BodyOrder, AddOrder, SweepOrder}
use Rattle.demands.proofs.Laws.Orders.{Decides, is_same, is_less, is_most, is_not, is_or, is_or_3, is_or_5, so_if, by_same, is_any}
use Rattle.demands.proofs.Laws.Orders.{Tried, end, try, then_try, within_try, order_of}

-- ---- a walk along a list

-- some element fails its test, in the state that the ones before it left
SomeWrong : {S A : Type 0} → (S → A → Type 0) → (S → A → S) → A → S → List A → Type 0
SomeWrong W next d s l = (i : ℕ) × (i < length l) × W (end_of next s (take i l)) (get_or l i d)

is_some_wrong : {S A : Type 0} {W : S → A → Type 0} {wrong : S → A → Bool} (next : S → A → S) (d : A) → ((s : S) (x : A) → Decides (W s x) (wrong s x))
    → (s : S) (l : List A) → Decides (SomeWrong W next d s l) (some_wrong wrong next s l)
unfolding SomeWrong some_wrong end_of
is_some_wrong next d w s [] = record { holds = λ e. absurd (false≢true e); fails = λ e h. let l : h.0 < 0 = h.1 in omega arith }
is_some_wrong {S} {A} {W} next d w s (x ∷ l) =
    so_if (⊎_elim (λ k. (0, suc-le-suc zero-le, k)) (λ k. (suc k.0, suc-le-suc k.1, k.2))) (λ k. back k.0 k.1 k.2)
    (is_or (w s x) (is_some_wrong next d w (next s x) l))
  where
    back : (i : ℕ) → i < length (x ∷ l) → W (end_of next s (take i (x ∷ l))) (get_or (x ∷ l) i d) → W s x ⊎ SomeWrong W next d (next s x) l
    back zero h k = inl k
    back (suc i) h k = inr (i, le_of_suc-le-suc h, k)

-- the state one element further
end_next : {S A : Type 0} (next : S → A → S) (d : A) (s : S) (l : List A) (i : ℕ) → i < length l
    → end_of next s (take (suc i) l) ≡ next (end_of next s (take i l)) (get_or l i d)
unfolding end_of
end_next next d s [] i h = absurd (omega arith)
end_next next d s (x ∷ l) zero h = refl
end_next next d s (x ∷ l) (suc i) h = end_next next d (next s x) l i (le_of_suc-le-suc h)

-- ---- the rows as they stand in the bytes

number_two : (s : List ℕ) → number (take 2 s) ≡ at s 0 + 256 * at s 1
unfolding number
number_two [] = refl
number_two (x ∷ []) = omega arith
number_two (x ∷ y ∷ s) = omega arith

number_four : (s : List ℕ) → number (take 4 s) ≡ at s 0 + 256 * at s 1 + 65536 * (at s 2 + 256 * at s 3)
unfolding number
number_four [] = refl
number_four (x ∷ []) = omega arith
number_four (x ∷ y ∷ []) = omega arith
number_four (x ∷ y ∷ z ∷ []) = omega arith
number_four (x ∷ y ∷ z ∷ w ∷ s) = omega arith

two_at_lem : (b : List ℕ) (p : ℕ) → number (take 2 (drop p b)) ≡ two_at b p
two_at_lem b p = number_two (drop p b) ∙ rw (get_or-drop p b 0 0, get_or-drop p b 1 0, add-zero p)

four_at_lem : (b : List ℕ) (p : ℕ) → number (take 4 (drop p b)) ≡ four_at b p
four_at_lem b p =
    let e : p + 2 + 1 ≡ p + 3 = omega arith in
    number_four (drop p b) ∙ rw (get_or-drop p b 0 0, get_or-drop p b 1 0, get_or-drop p b 2 0, get_or-drop p b 3 0, add-zero p, e)

-- what row i says
row_in : List ℕ → ℕ → ℕ → Row
row_in b n i = get_or (rows_of n (drop 2 b)) i blank_row

record Says (b : List ℕ) (i : ℕ) (r : Row) : Type 0 where
  pub position : r.position ≡ position b i
  pub direction : r.direction ≡ direction b i
  pub time : r.time ≡ time_of_row b i
  pub offset : r.offset ≡ offset b i
  pub size : r.length ≡ size b i

row_says : (b : List ℕ) (n i : ℕ) → i < n → Says b i (row_in b n i)
unfolding row_in
row_says b n i l =
    let p : ℕ = 2 + 12 * i in
    let e : get_or (rows_of n (drop 2 b)) i blank_row ≡ row_of (drop p b) = row_at_lem n i (drop 2 b) l ∙ ap row_of (drop-drop (12 * i) 2 b) in
    let d : p + 1 ≡ 3 + 12 * i = omega arith in
    let t : p + 2 ≡ 4 + 12 * i = omega arith in
    let o : p + 6 ≡ 8 + 12 * i = omega arith in
    let s : p + 10 ≡ 12 + 12 * i = omega arith in
    record {
      position = ap (λ (r : Row). r.position) e ∙ get_or-drop p b 0 0 ∙ ap (at b) (add-zero p);
      direction = ap (λ (r : Row). r.direction) e ∙ get_or-drop p b 1 0 ∙ ap (at b) d;
      time = ap (λ (r : Row). r.time) e ∙ ap (λ (x : List ℕ). number (take 4 x)) (drop-drop 2 p b) ∙ four_at_lem b (p + 2) ∙ ap (four_at b) t;
      offset = ap (λ (r : Row). r.offset) e ∙ ap (λ (x : List ℕ). number (take 4 x)) (drop-drop 6 p b) ∙ four_at_lem b (p + 6) ∙ ap (four_at b) o;
      size = ap (λ (r : Row). r.length) e ∙ ap (λ (x : List ℕ). number (take 2 x)) (drop-drop 10 p b) ∙ two_at_lem b (p + 10) ∙ ap (two_at b) s;
    }

-- ---- 34 to 37

is_out_of_range : (p d n : ℕ) → Decides (OutOfRange p d n) (wrong_field p d n)
is_out_of_range p d n = is_or_5 (is_or (is_less p 1) (is_less 48 p)) (is_less 1 d) (is_same (n % 2) 1) (is_less n 2) (is_less 1004 n)

module _ (b : List ℕ) where
  rows : List Row
  rows = rows_of (count b) (drop 2 b)

  Late : ℕ → Row → Type 0
  Late before r = OutOfRange r.position r.direction r.length ⊎ (r.time < before)

  range_says : (i : ℕ) → i < count b → (let r = row_in b (count b) i in OutOfRange r.position r.direction r.length)
      ↔ OutOfRange (position b i) (direction b i) (size b i)
  range_says i l = let s = row_says b (count b) i l in rw (s.position, s.direction, s.size) (λ k. k, λ k. k)

  time_before : (i : ℕ) → i < count b → end_of row_time 0 (take (suc i) rows) ≡ time_of_row b i
  unfolding rows row_in
  time_before i l = end_next row_time blank_row 0 rows i (rw (length_rows (count b) (drop 2 b)) l) ∙ (row_says b (count b) i l).time

  rows_wrong : SomeWrong Late row_time blank_row 0 rows → WrongRows b
  unfolding SomeWrong Late rows row_in end_of
  rows_wrong w = go w.0 (rw (length_rows (count b) (drop 2 b)) at w.1) w.2
    where
      go : (i : ℕ) → i < count b → Late (end_of row_time 0 (take i rows)) (get_or rows i blank_row) → WrongRows b
      go i l (inl o) = inl (i, l, (range_says i l).0 o)
      go zero l (inr t) = absurd (omega arith)
      go (suc i) l (inr t) =
          inr (
            i,
            l,
            subst (λ (x : ℕ). x < time_of_row b i) (row_says b (count b) (suc i) l).time
                (subst (λ (x : ℕ). (get_or rows (suc i) blank_row).time < x) (time_before i (omega arith)) t),
          )

  wrong_rows_lem : WrongRows b → SomeWrong Late row_time blank_row 0 rows
  unfolding SomeWrong Late rows row_in
  wrong_rows_lem (inl w) = (w.0, rw (length_rows (count b) (drop 2 b)) w.1, inl ((range_says w.0 w.1).1 w.2))
  wrong_rows_lem (inr w) =
      let i : ℕ = w.0 in
      let l : suc i < count b = w.1 in
      let here : time_of_row b (suc i) < time_of_row b i = w.2 in
      let now : (get_or rows (suc i) blank_row).time ≡ time_of_row b (suc i) = (row_says b (count b) (suc i) l).time in
      let then : end_of row_time 0 (take (suc i) rows) ≡ time_of_row b i = time_before i (omega arith) in
      (suc i, rw (length_rows (count b) (drop 2 b)) l, inr (omega arith))

  is_wrong_rows : Decides (WrongRows b) (wrong_rows 0 rows)
  unfolding Late
  is_wrong_rows =
      so_if rows_wrong wrong_rows_lem
      (is_some_wrong {W = Late} row_time blank_row
      (λ before r. is_or (is_out_of_range r.position r.direction r.length) (is_less r.time before)) 0 rows)

  -- where each body begins
  begins_there : (i : ℕ) → i ≤ count b → end_of next_offset (2 + 12 * count b) (take i rows) ≡ begins b i
  unfolding rows row_in end_of
  begins_there zero l = refl
  begins_there (suc i) l =
      end_next next_offset blank_row (2 + 12 * count b) rows i (rw (length_rows (count b) (drop 2 b)) l)
      ∙ ap₂ (λ (x y : ℕ). x + y) (begins_there i (omega arith)) (row_says b (count b) i l).size

  Misplaced : ℕ → Row → Type 0
  Misplaced place r = (¬ (r.offset ≡ place)) ⊎ (length b < place + r.length)

  places_same : (i : ℕ) → i < count b
      → Misplaced (end_of next_offset (2 + 12 * count b) (take i rows)) (get_or rows i blank_row) ↔ ((¬ (offset b i ≡ begins b i)) ⊎ (length b < begins b (suc i)))
  unfolding Misplaced rows row_in
  places_same i l =
      let s : Says b i (get_or rows i blank_row) = row_says b (count b) i l in
      rw (begins_there i (omega arith), s.offset, s.size) (λ k. k, λ k. k)

  is_wrong_places : Decides (WrongPlaces b) (wrong_places (length b) (2 + 12 * count b) rows)
  unfolding SomeWrong Misplaced rows
  is_wrong_places =
      so_if
      (λ w. let l : w.0 < count b = rw (length_rows (count b) (drop 2 b)) at w.1 in (w.0, l, (places_same w.0 l).0 w.2))
      (λ w. (w.0, rw (length_rows (count b) (drop 2 b)) w.1, (places_same w.0 w.1).1 w.2))
      (is_some_wrong {W = Misplaced} next_offset blank_row (λ place r. is_or (is_not (is_same r.offset place)) (is_less (length b) (place + r.length)))
      (2 + 12 * count b) rows)

  ends_there : bodies_end (2 + 12 * count b) rows ≡ begins b (count b)
  unfolding rows
  ends_there =
      ap (end_of next_offset (2 + 12 * count b)) (sym (take_all (count b) rows (rw (length_rows (count b) (drop 2 b)) (le_refl (count b)))))
      ∙ begins_there (count b) (le_refl (count b))

is_over_from : (p : ℕ) (b : List ℕ) → Decides (OverFrom p b) (any over (chars (drop p b)))
is_over_from p b =
    so_if
    (λ w. let k : w.0 < length (chars (drop p b)) = w.1 in let h : 511 < at (chars (drop p b)) w.0 = w.2 in
    (w.0, omega (arith, inside w.0), subst (λ (x : ℕ). 511 < x) (same w.0 (omega (arith, inside w.0))) h))
    (λ w. let k : p + (2 * w.0 + 1) < length b = w.1 in let h : 511 < two_at b (p + 2 * w.0) = w.2 in
    (w.0, omega (arith, inside w.0), subst (λ (x : ℕ). 511 < x) (sym (same w.0 (omega (arith, inside w.0)))) h))
    (is_any (λ c. is_less 511 c) (chars (drop p b)))
  where
    inside : (j : ℕ) → length (chars (drop p b)) ≡ (length b - p) / 2
    inside j = length_characters (drop p b) ∙ ap (λ (n : ℕ). n / 2) (length-drop p b)

    same : (j : ℕ) → p + (2 * j + 1) < length b → at (chars (drop p b)) j ≡ two_at b (p + 2 * j)
    same j l =
        let e : p + (2 * j + 1) ≡ p + 2 * j + 1 = omega arith in
        character_at (drop p b) j (let n = length-drop p b in omega arith)
        ∙ ap₂ (λ (x y : ℕ). x + 256 * y) (get_or-drop p b (2 * j) 0) (get_or-drop p b (2 * j + 1) 0 ∙ ap (at b) e)

-- ---- the check

pub open_tried : {A : Type 0} {a : Answer A} {more : Table} (b : List ℕ) → Tried a more → Tried (opened b a) (open_table b ++ more)
open_tried b t =
    let e : count_of b ≡ count b = number_two b in
    rw e
    (try 30 (is_less 65536 (length b))
    (λ x. try 31 (is_less (length b) 2)
    (λ x. try 32 (is_less 512 (count b))
    (λ x. try 33 (is_less (length b) (2 + 12 * count b)) (λ x. t)))))

rows_tried : (b : List ℕ) → Tried (check_rows (count b) b) (rows_table b)
unfolding rows
rows_tried b =
    try 34 (is_wrong_rows b)
    (λ x. try 35 (is_wrong_places b)
    (λ x. try 36 (by_same _ (ap (λ (n : ℕ). ltb n (length b)) (sym (ends_there b))) (is_less (begins b (count b)) (length b)))
    (λ x. try 37 (is_over_from (2 + 12 * count b) b) (λ x. end (count b) refl))))

pub check_tried : (b : List ℕ) → Tried (check_of b) (bundle_table b)
unfolding check_of
check_tried b = open_tried b (subst (λ (n : ℕ). Tried (check_rows n b) (rows_table b)) (sym (number_two b)) (rows_tried b))

pub bundle_order : BundleOrder
bundle_order b = order_of (check_tried b)

-- ---- what comes behind the check

-- the count that the check answers
counted : (b : List ℕ) (n : ℕ) → check_of b ≡ reads n → n ≡ count b
counted b n e = (accepted_sound b n e).1 ∙ number_two b

pub row_tried : (b : List ℕ) (i : ℕ) → Tried (row_at b i) (row_table b i)
unfolding row_at
row_tried b i =
    then_try (λ n. refuse 39 (leb n i) (reads (get_or (contents_of b) i blank_row))) (check_tried b)
    (λ n e. try 39 (subst (λ (m : ℕ). Decides (m ≤ i) (leb n i)) (counted b n e) (is_most n i)) (λ x. end (get_or (contents_of b) i blank_row) refl))

pub row_order : RowOrder
row_order b i = order_of (row_tried b i)

pub body_order : BodyOrder
body_order b i = order_of (within_try place_of (row_tried b i))

-- the time of the last row
late_last : (b : List ℕ) (t : ℕ) → Decides ((0 < count b) × (t < time_of_row b (count b - 1))) (ltb t (last_time (contents_of b)))
unfolding rows end_of rows_of
late_last b t =
    subst (λ (n : ℕ). Decides ((0 < count b) × (t < time_of_row b (count b - 1))) (ltb t (last_time (rows_of n (drop 2 b))))) (sym (number_two b))
    (go (count b) refl)
  where
    go : (n : ℕ) → count b ≡ n → Decides ((0 < count b) × (t < time_of_row b (count b - 1))) (ltb t (last_time (rows b)))
    go zero e = so_if (λ h. absurd (none h)) (λ k. let l : 0 < count b = k.0 in absurd (omega arith)) (is_less t (last_time (rows b)))
      where
        none : t < last_time (rows b) → ⊥
        none h = let z : last_time (rows b) ≡ 0 = ap (λ (n : ℕ). last_time (rows_of n (drop 2 b))) e in omega arith
    go (suc m) e =
        let back : count b - 1 ≡ m = omega arith in
        let last : last_time (rows b) ≡ time_of_row b (count b - 1) =
        ap last_time (sym (take_all (suc m) (rows b) (let l = length_rows (count b) (drop 2 b) in omega arith))) ∙ time_before b m (omega arith)
        ∙ ap (time_of_row b) (sym back) in
        so_if (λ h. (omega arith, subst (λ (x : ℕ). t < x) last h)) (λ k. subst (λ (x : ℕ). t < x) (sym last) k.1) (is_less t (last_time (rows b)))

pub add_order : AddOrder
unfolding add_of
add_order buffer filled k =
    let old : List ℕ = take filled buffer in
    let new : ℕ = grown filled k in
    order_of
    (try 30 (is_less (length buffer) filled)
    (λ x. then_try
    (λ n. refuse 34 (wrong_row (last_time (contents_of old)) (row_for (filled + 12) k))
    (refuse 37 (any over (chars k.body)) (refuse 38 (no_room buffer n new) (reads new))))
    (check_tried old)
    (λ n e. try 34 (is_or (is_out_of_range k.position k.direction (length k.body)) (late_last old k.time))
    (λ x. try 37 (is_over_from 0 k.body)
    (λ x. try 38
    (is_or_3 (subst (λ (m : ℕ). Decides (512 ≤ m) (leb 512 n)) (counted old n e) (is_most 512 n)) (is_less (length buffer) new) (is_less 65536 new))
    (λ x. end new refl))))))

pub sweep_order : SweepOrder
unfolding sweep_of
sweep_order buffer filled position =
    let old : List ℕ = take filled buffer in
    order_of
    (try 30 (is_less (length buffer) filled)
    (λ x. then_try (λ n. refuse 34 (ltb 48 position) (reads (length (swept_bundle position old)))) (check_tried old)
    (λ n e. try 34 (is_less 48 position) (λ x. end (length (swept_bundle position old)) refl))))
