-- The entry that has a quantity, found by a walk, and the volume of one in millilitres.
use Prim.Native.Nat.{ℕ, zero, suc, zero-le, ◌+◌, ◌-◌, ◌*◌, ◌/◌, ◌%◌, ◌^◌, ◌≤◌, ◌<◌}
use mathlib.Core.Bool.{true, false}
use mathlib.Core.List.{List, [], ◌∷◌}
use mathlib.Core.Path.{◌≡◌, refl, ap₂}
use native.Mathlib.Nat.{div-lt_iff_lt-mul, mul-pos, mul-le-mul, pow-suc, pow-le-pow_right, lt_of_le_of_lt, mod-lt}
use native.Mathlib.Decide.{dec_lt}
use native.Mathlib.Omega.{arith}
use borrow.Author.Tests.{leb-true}
use lib.Dec.{eqb, leb, lit<}
use lib.ListN.{length, get_or}
use Rattle.std.specs.List.{AllWithin}
use Rattle.mbus_rules.specs.declared.Entry.{Entry}
use Rattle.mbus_rules.specs.Quantities.{table, no_row, has_unit, row_of, quantity_of}
use Rattle.mbus_rules.proofs.Laws.RowLaws.{found_each, low_some}
use Rattle.mbus_rules.specs.Telegrams.{blank_entry}
use Rattle.run_replay.specs.Errors.{volume_most}
use Rattle.run_replay.specs.Figures.{entry_with, millilitre_power, millilitres, volume_count}
use Rattle.run_replay.specs.Shown.{capped_volume}

-- ---- the entry that has a quantity

abbrev Lacks : ℕ → Entry → Type 0
Lacks q e = eqb (quantity_of e.unit) q ≡ false

later : (q : ℕ) (e : Entry) (es : List Entry) (n : ℕ) → AllWithin (Lacks q) (e ∷ es) 0 (suc n) → AllWithin (Lacks q) es 0 n
later q e es n none k d low h = none (suc k) d zero-le (omega arith)

pub entry_none : (q : ℕ) (es : List Entry) → AllWithin (Lacks q) es 0 (length es) → entry_with q es ≡ blank_entry
unfolding entry_with
entry_none q [] none = refl
entry_none q (e ∷ es) none = rw (none 0 e zero-le (omega arith)) (entry_none q es (later q e es (length es) none))

-- the first that has it
pub entry_first : (q : ℕ) (es : List Entry) (i : ℕ) (x : Entry) → i < length es → AllWithin (Lacks q) es 0 i → get_or es i x ≡ x
    → eqb (quantity_of x.unit) q ≡ true → entry_with q es ≡ x
unfolding entry_with
entry_first q [] i x h none is has = absurd (omega arith)
entry_first q (e ∷ es) zero x h none is has = rw (is, has)
entry_first q (e ∷ es) (suc i) x h none is has = rw (none 0 e zero-le (omega arith)) (entry_first q es i x (omega arith) (later q e es i none) is has)

-- ---- the volume

pub unit_some : (n : ℕ) → 0 < 10 ^ n
unit_some zero = lit< tt
unit_some (suc n) = rw (pow-suc 10 n) (mul-pos (unit_some n) (lit< tt))

-- the two powers of which one of the last digit is made
pub digit_low : (u : ℕ) → u % (row_of u).divisor < 8
digit_low u =
    let most : (row_of u).divisor ≤ 8 = leb-true (row_of u).divisor 8 (found_each (has_unit u) (λ r. leb r.divisor 8) no_row table refl) in
    omega (arith, mod-lt u (low_some u))

pub less_most : (u : ℕ) → (row_of u).less ≤ 6
less_most u = leb-true (row_of u).less 6 (found_each (has_unit u) (λ r. leb r.less 6) no_row table refl)

pub digit_small : (u : ℕ) → 10 ^ (u % (row_of u).divisor) * 10 ^ (6 - (row_of u).less) < 2 ^ 64
digit_small u =
    let a : 10 ^ (u % (row_of u).divisor) ≤ 10 ^ 7 = pow-le-pow_right (lit< tt) {j = 7} (omega (arith, digit_low u)) in
    let b : 10 ^ (6 - (row_of u).less) ≤ 10 ^ 6 = pow-le-pow_right (lit< tt) {j = 6} (omega arith) in
    lt_of_le_of_lt (mul-le-mul a b) (lit< tt)

-- whether a product is over 10^9 is told by a quotient
module _ (count unit : ℕ) (some : 0 < unit) where
  over_told : volume_most / unit < count → volume_most < count * unit
  over_told h = (div-lt_iff_lt-mul some).0 h

  not_over : count ≤ volume_most / unit → count * unit ≤ volume_most
  not_over h = go (dec_lt volume_most (count * unit))
    where
      go : Dec (volume_most < count * unit) → count * unit ≤ volume_most
      go (yes l) = omega (arith, (div-lt_iff_lt-mul some).1 l)
      go (no l) = omega arith

-- of an entry, from its count and its unit
module _ (e : Entry) {count unit : ℕ} (c : count ≡ volume_count e.value) (u : unit ≡ 10 ^ millilitre_power e.unit) where
  pub unit_above : 0 < unit
  unit_above = rw u (unit_some (millilitre_power e.unit))

  product : count * unit ≡ millilitres e
  unfolding millilitres
  product = ap₂ (λ (x y : ℕ). x * y) c u

  pub volume_over : volume_most / unit < count → volume_most + 1 ≡ capped_volume (millilitres e)
  volume_over h = rw (← product) (omega (arith, over_told count unit unit_above h))

  pub volume_small : count ≤ volume_most / unit → count * unit ≤ volume_most
  volume_small h = not_over count unit unit_above h

  pub volume_told : count ≤ volume_most / unit → count * unit ≡ capped_volume (millilitres e)
  volume_told h = rw (← product) (omega (arith, volume_small h))
