-- Laws that hold of every list of rows, and what tests that are computed over 01's two tables tell of each unit byte and structure.
use Prim.Native.Nat.{ℕ, zero, suc, ◌+◌, ◌≤◌, ◌<◌}
use mathlib.Core.Bool.{Bool, true, false, cond, not, ◌&&◌, ◌||◌, and-eq-true_iff}
use mathlib.Core.List.{List, [], ◌∷◌}
use mathlib.Core.Path.{◌≡◌, refl, sym, ap, ◌∙◌}
use native.Mathlib.Decide.{dec_lt}
use native.Mathlib.Nat.{not-suc-le-zero, le_of_suc-le-suc}
use native.Mathlib.Numerals.{add-one}
use native.Mathlib.Omega.{arith}
use borrow.Author.Tests.{eqb-true, ltb-true, leb-true, ne_eqb, not-true}
use lib.Dec.{ltb, leb, eqb, lit<}
use lib.ListN.{length, get_or, drop, drop_of_length-le}
use lib.Seq.{drop-cons}
use Rattle.mbus_rules.specs.declared.UnitRow.{UnitRow}
use Rattle.mbus_rules.specs.declared.StructureRow.{StructureRow}
use Rattle.base_rules.specs.Lists.{any}
use Rattle.mbus_rules.specs.Quantities.{table, no_row, first_with, has_unit, row_of, quantity_of, is_time}
use Rattle.mbus_rules.specs.Quantities.{energy, volume, power, flow, inlet, outlet, time, unknown}
use Rattle.mbus_rules.specs.Quantities.{structures, no_structure, has_structure, structure_of, width_of, is_packed, is_binary}
use Rattle.mbus_rules.specs.Entries.{may_fall, lacking}
use Rattle.base_rules.proofs.Laws.Tests.{by_test, below}

-- ---- every list of rows

-- every row passes the test
abbrev pub all : {A : Type 0} → (A → Bool) → List A → Bool
all test [] = true
all test (r ∷ rs) = test r && all test rs

-- What is found passes a test that what stands for none passes, and each row that is the one: a step is computed for every row.
pub found_where : {A : Type 0} (has test step : A → Bool) (none : A) (rs : List A) → test none ≡ true
    → ((r : A) → has r ≡ true → step r ≡ true → test r ≡ true) → all step rs ≡ true → test (first_with none has rs) ≡ true
found_where has test step none [] t so e = t
found_where has test step none (r ∷ rs) t so e =
    let p = (and-eq-true_iff (step r) (all step rs)).0 e in
    by_test (has r) (λ h. rw h (so r h p.0)) (λ h. rw h (found_where has test step none rs t so p.1))

-- what every row has, and what stands for none, the one that is found has
pub found_each : {A : Type 0} (has test : A → Bool) (none : A) (rs : List A) → all test (none ∷ rs) ≡ true → test (first_with none has rs) ≡ true
found_each has test none rs e =
    let p = (and-eq-true_iff (test none) (all test rs)).0 e in
    found_where has test test none rs p.0 (λ r h t. t) p.1

-- what every row has, the row at a place has
pub all_at : {A : Type 0} (test : A → Bool) (rs : List A) (i : ℕ) (d : A) → all test rs ≡ true → i < length rs → test (get_or rs i d) ≡ true
all_at test [] i d e h = absurd (not-suc-le-zero h)
all_at test (r ∷ rs) zero d e h = ((and-eq-true_iff (test r) (all test rs)).0 e).0
all_at test (r ∷ rs) (suc i) d e h = all_at test rs i d ((and-eq-true_iff (test r) (all test rs)).0 e).1 (le_of_suc-le-suc h)

-- a walk along rows that are those of a list: what is left has the row that the list has
module _ {A : Type 0} (has : A → Bool) (none : A) {made rs : List A} (e : made ≡ rs) {i : ℕ}
    (so : first_with none has (drop i made) ≡ first_with none has made) where
  pub row_here : (d : A) → i < length rs → has (get_or made i d) ≡ true → get_or made i d ≡ first_with none has rs
  row_here d h t = sym (rw (drop-cons made i d (rw e h), t)) ∙ so ∙ ap (first_with none has) e

  pub row_next : (d : A) → i < length rs → has (get_or made i d) ≡ false → first_with none has (drop (i + 1) made) ≡ first_with none has made
  row_next d h t = sym (rw (add-one, drop-cons made i d (rw e h), t)) ∙ so

  pub row_past : length rs ≤ i → none ≡ first_with none has rs
  row_past h = sym (ap (first_with none has) (drop_of_length-le made {i = i} (rw e h))) ∙ so ∙ ap (first_with none has) e

-- a test that two tests are the same
same_told : (a b : Bool) → cond a b (not b) ≡ true → b ≡ a
same_told true b e = e
same_told false b e = not-true b e

-- ---- the table of quantities

-- the unit bytes of the rows are bytes
pub unit_past : (u : ℕ) → 256 ≤ u → quantity_of u ≡ unknown
unfolding quantity_of
unit_past u h =
    eqb-true (row_of u).quantity unknown
    (found_where (has_unit u) (λ r. eqb r.quantity unknown) (λ r. ltb r.last 256) no_row table refl
    (λ r has last. absurd (omega (arith, leb-true u r.last ((and-eq-true_iff (leb r.first u) (leb u r.last)).0 has).1, ltb-true r.last 256 last)))
    refl)

-- the row of the point in time, and no other
pub time_quantity : (u : ℕ) → eqb (quantity_of u) time ≡ is_time u
unfolding quantity_of
time_quantity u = go (dec_lt u 256)
  where
    test : ℕ → Bool
    test v = cond (is_time v) (eqb (quantity_of v) time) (not (eqb (quantity_of v) time))

    go : Dec (u < 256) → eqb (quantity_of u) time ≡ is_time u
    go (yes h) = same_told (is_time u) (eqb (quantity_of u) time) (below 256 test refl u h)
    go (no h) = rw (unit_past u (omega arith), ne_eqb u 0x6D (omega arith))

pub quantity_few : (u : ℕ) → quantity_of u < 8
unfolding quantity_of
quantity_few u = ltb-true (row_of u).quantity 8 (found_each (has_unit u) (λ r. ltb r.quantity 8) no_row table refl)

pub low_some : (u : ℕ) → 0 < (row_of u).divisor
low_some u = ltb-true 0 (row_of u).divisor (found_each (has_unit u) (λ r. ltb 0 r.divisor) no_row table refl)

-- 02, 2026-07, by the quantities that it names
pub may_fall_three : (u : ℕ) → may_fall u ≡ (eqb (quantity_of u) inlet || eqb (quantity_of u) outlet || eqb (quantity_of u) flow)
unfolding may_fall quantity_of
may_fall_three u =
    let three : UnitRow → Bool = λ r. eqb r.quantity inlet || eqb r.quantity outlet || eqb r.quantity flow in
    same_told (three (row_of u)) (row_of u).may_fall (found_each (has_unit u) (λ r. cond (three r) r.may_fall (not r.may_fall)) no_row table refl)

-- 16, by the quantities that 01 names
pub missing_five : (there : ℕ → Bool)
    → lacking there ≡ (not (there energy) || not (there volume) || not (there inlet) || not (there outlet) || not (there time))
unfolding any
missing_five there = go (there energy) (there volume) (there power) (there flow) (there inlet) (there outlet) (there time)
  where
    go : (e v p f i o t : Bool)
        → lacking (λ q. get_or (e ∷ v ∷ p ∷ f ∷ i ∷ o ∷ t ∷ []) q false) ≡ (not e || not v || not i || not o || not t)
    go false v p f i o t = refl
    go true false p f i o t = refl
    go true true p f false o t = refl
    go true true p f true false t = refl
    go true true p f true true false = refl
    go true true p f true true true = refl

-- two that tell the same of each quantity lack the same
pub lacking_same : (f g : ℕ → Bool) → ((q : ℕ) → q < 8 → f q ≡ g q) → lacking f ≡ lacking g
lacking_same f g e =
    missing_five f
    ∙ rw (e energy (lit< tt), e volume (lit< tt), e inlet (lit< tt), e outlet (lit< tt), e time (lit< tt)) (sym (missing_five g))

-- ---- the structures

pub structure_past : (st : ℕ) → 256 ≤ st → (is_packed st || is_binary st) ≡ false
structure_past st h =
    not-true (is_packed st || is_binary st)
    (found_where (has_structure st) (λ r. not (r.packed || r.binary)) (λ r. ltb r.structure 256) no_structure structures refl
    (λ r has small. absurd (omega (arith, ltb-true r.structure 256 small, eqb-true st r.structure has))) refl)

pub width_most : (st : ℕ) → width_of st ≤ 8
unfolding width_of
width_most st = leb-true (structure_of st).width 8 (found_each (has_structure st) (λ r. leb r.width 8) no_structure structures refl)

pub width_least : (st : ℕ) → (is_packed st || is_binary st) ≡ true → 1 ≤ width_of st
unfolding width_of
width_least st e =
    leb-true 1 (structure_of st).width
    (rw e at (found_each (has_structure st) (λ r. cond (r.packed || r.binary) (leb 1 r.width) true) no_structure structures refl))

-- below 8 no structure is one of packed digits, and from there on none is one of binary
pub low_packed : (st : ℕ) → st < 8 → is_packed st ≡ false
low_packed st h = not-true (is_packed st) (below 8 (λ k. not (is_packed k)) refl st h)

pub high_binary : (st : ℕ) → 8 ≤ st → is_binary st ≡ false
high_binary st h =
    not-true (is_binary st)
    (found_where (has_structure st) (λ r. not r.binary) (λ r. not r.binary || ltb r.structure 8) no_structure structures refl high refl)
  where
    high : (r : StructureRow) → has_structure st r ≡ true → (not r.binary || ltb r.structure 8) ≡ true → not r.binary ≡ true
    high r has e = by_test r.binary (λ b. absurd (omega (arith, ltb-true r.structure 8 (rw b at e), eqb-true st r.structure has))) (λ b. rw b)
