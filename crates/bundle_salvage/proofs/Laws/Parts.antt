-- The first rows of a bundle, and their bodies.
use Prim.Native.Nat.{ℕ, zero, suc, ◌+◌, ◌*◌, ◌-◌, ◌≤◌, ◌<◌}
use mathlib.Core.Bool.{false}
use mathlib.Core.List.{List, [], ◌∷◌, ◌++◌, map}
use mathlib.Core.Path.{◌≡◌, refl, sym, ap, ◌∙◌}
use native.Mathlib.Nat.{not-suc-le-zero}
use native.Mathlib.Omega.{arith}
use lib.ListN.{length, take, drop, length-drop}
use lib.Seq.{take-nil, take-add}
use Rattle.bundle_rows.specs.Rows.{rows_of}
use Rattle.bundle_rows.specs.declared.Row.{Row}
use Rattle.bundle_check.specs.Records.{records_in, bodies_for, moved_to, placed_from}
use Rattle.bundle_check.specs.RowRules.{next_offset, wrong_places, bodies_end}
use Rattle.bundle_check.specs.Walks.{end_of}
use Rattle.bundle_check.proofs.Laws.HoldingLaws.{end_least}
use Rattle.bundle_check.proofs.Laws.RowRules.{places_right}
use Rattle.bundle_salvage.specs.Writing.{lowered}

-- the first of n rows are so many rows
pub rows_taken : (k n : ℕ) (s : List ℕ) → k ≤ n → take k (rows_of n s) ≡ rows_of k s
unfolding rows_of
rows_taken zero n s h = refl
rows_taken (suc k) zero s h = absurd (not-suc-le-zero h)
rows_taken (suc k) (suc n) s h = rw (rows_taken k n (drop 12 s) (omega arith))

-- what they record
pub records_taken : (k : ℕ) (rows : List Row) (s : List ℕ) → take k (records_in rows s) ≡ records_in (take k rows) s
unfolding records_in
records_taken zero rows s = refl
records_taken (suc k) [] s = refl
records_taken (suc k) (r ∷ rows) s = rw (records_taken k rows (drop r.length s))

-- their bodies stand one behind the other
pub bodies_part : (o : ℕ) (rows : List Row) (s : List ℕ) → bodies_end o rows ≤ o + length s → bodies_for (records_in rows s) ≡ take (bodies_end o rows - o) s
unfolding records_in bodies_for end_of
bodies_part o [] s h = let none : o - o ≡ 0 = omega arith in rw none
bodies_part o (r ∷ rows) s h =
    let end : ℕ = bodies_end (next_offset o r) rows in
    let least : next_offset o r ≤ end = end_least (next_offset o r) rows in
    let own : r.length ≤ length s = omega arith in
    let rest : length (drop r.length s) ≡ length s - r.length = length-drop r.length s in
    let all : r.length + (end - next_offset o r) ≡ end - o = omega arith in
    ap (λ (l : List ℕ). take r.length s ++ l) (bodies_part (next_offset o r) rows (drop r.length s) (omega arith))
    ∙ sym (take-add r.length (end - next_offset o r) s) ∙ ap (λ (k : ℕ). take k s) all

-- rows that stand at their places are lowered to others
pub placed_lowered : (e o d : ℕ) (rows : List Row) → wrong_places e (o + 12 * d) rows ≡ false → placed_from o rows ≡ map (lowered d) rows
unfolding placed_from
placed_lowered e o d [] w = refl
placed_lowered e o d (r ∷ rows) w =
    let p = places_right e (o + 12 * d) r rows w in
    let here : r.offset - 12 * d ≡ o = omega (arith, p.0) in
    let next : next_offset (o + 12 * d) r ≡ next_offset o r + 12 * d = omega arith in
    let rest : wrong_places e (next_offset o r + 12 * d) rows ≡ false = ap (λ (k : ℕ). wrong_places e k rows) (sym next) ∙ p.2 in
    rw (here, placed_lowered e (next_offset o r) d rows rest)
