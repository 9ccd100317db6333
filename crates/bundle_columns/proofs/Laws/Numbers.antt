-- Laws of lists of numbers of one width: which number stands at each place.
use Prim.Native.Nat.{ℕ, zero, suc, ◌+◌, ◌*◌, ◌<◌}
use mathlib.Core.List.{List}
use mathlib.Core.Path.{◌≡◌, sym, ap, ◌∙◌}
use native.Mathlib.Nat.{not-suc-le-zero, mul-zero, mul-suc}
use native.Mathlib.Omega.{arith}
use lib.ListN.{take, drop}
use lib.Seq.{drop-drop}
use Rattle.base_rules.specs.Lists.{at}
use Rattle.base_numbers.specs.Numbers.{number}
use Rattle.base_numbers.proofs.Laws.Numbers.{number_at}
use Rattle.bundle_rows.specs.Rows.{most_rows}
use Rattle.bundle_columns.specs.Columns.{kept_row}
use Rattle.bundle_columns.specs.Record.{numbers_in, columns_in}

-- a number of one byte
pub number_one : (i : ℕ) (s : List ℕ) → number (take 1 (drop i s)) ≡ at s i
unfolding number
number_one i s = omega (arith, number_at 0 i s)

numbers_first : (w n i : ℕ) (s : List ℕ) → i < n → at (numbers_in w n s) i ≡ number (take w (drop (w * i) s))
unfolding numbers_in
numbers_first w zero i s h = absurd (not-suc-le-zero h)
numbers_first w (suc n) zero s h = rw (mul-zero w)
numbers_first w (suc n) (suc i) s h =
    let step : w * suc i ≡ w * i + w = mul-suc w i in
    let next : w + w * i ≡ w * suc i = omega arith in
    numbers_first w n i (drop w s) (omega arith) ∙ ap (λ (l : List ℕ). number (take w l)) (drop-drop (w * i) w s ∙ ap (λ (k : ℕ). drop k s) next)

-- from a place on
pub numbers_at : (p w i : ℕ) (b : List ℕ) → i < most_rows → number (take w (drop (p + w * i) b)) ≡ at (numbers_in w most_rows (drop p b)) i
numbers_at p w i b h = sym (numbers_first w most_rows i (drop p b) h ∙ ap (λ (l : List ℕ). number (take w l)) (drop-drop (w * i) p b))

-- and of one byte each
pub bytes_at : (p i : ℕ) (b : List ℕ) → i < most_rows → at b (p + i) ≡ at (numbers_in 1 most_rows (drop p b)) i
bytes_at p i b h =
    let one : 1 * i ≡ i = omega arith in
    sym (number_one (p + i) b) ∙ ap (λ (k : ℕ). number (take 1 (drop (p + k) b))) (sym one) ∙ numbers_at p 1 i b h

-- the row at a place, field by field
pub kept_read : (b : List ℕ) (i : ℕ) → i < most_rows → record {
  position = at b (8 + i);
  direction = at b (520 + i);
  time = number (take 4 (drop (1032 + 4 * i) b));
  offset = number (take 4 (drop (3080 + 4 * i) b));
  length = number (take 2 (drop (5128 + 2 * i) b));
} ≡ kept_row (columns_in b) i
kept_read b i h j = record {
  position = bytes_at 8 i b h j;
  direction = bytes_at 520 i b h j;
  time = numbers_at 1032 4 i b h j;
  offset = numbers_at 3080 4 i b h j;
  length = numbers_at 5128 2 i b h j;
}
