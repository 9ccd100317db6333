-- The order of refusals of the replay.
use Prim.Native.Nat.{ℕ, suc, ◌+◌, ◌-◌, ◌<◌, ◌≤◌}
use native.Mathlib.Omega.{arith}
use mathlib.Core.Bool.{◌||◌}
use mathlib.Core.List.{List, [], ◌∷◌, ◌++◌}
use mathlib.Core.Logic.{◌⊎◌, inl, inr, ⊎_elim}
use mathlib.Core.Path.{◌≡◌, refl, sym, ap, subst, ◌∙◌}
use lib.Dec.{ltb, eqb}
use lib.ListN.{length, get_or}
use Rattle.base_rules.specs.Answers.{refuse}
use Rattle.bundle_rows.specs.Fields.{wrong_position}
use Rattle.bundle_check.specs.Records.{Recorded, records_of}
use Rattle.run_calendar.specs.Days.{milliseconds_at, interval}
use Rattle.run_counting.specs.Counting.{answers_of}
use Rattle.run_replay.specs.Figures.{Told}
use Rattle.run_replay.specs.Errors.{error_by_c1, error_of_figures, error_between, row_tells, last_of, error_from, replay_of}
use Rattle.demands.specs.BundleOrder.{OutsidePositions, bundle_table}
use Rattle.demands.specs.ReplayOrder.{no_answer, behind63, answers_table, ReplayOrder}
use Rattle.demands.proofs.Laws.Orders.{Decides, is_same, is_less, is_most, is_or, is_or_4, so_if, Tried, end, hit, miss, try, then_try, order_of}
use Rattle.demands.proofs.Laws.BundleOrder.{check_tried}

-- the last of a list, by its place
last_is : (x : Recorded) (l : List Recorded) → last_of x l ≡ get_or (x ∷ l) (length (x ∷ l) - 1) no_answer
last_is x [] = refl
last_is x (y ∷ l) =
    let e : length (x ∷ y ∷ l) - 1 ≡ suc (length (y ∷ l) - 1) = omega arith in
    last_is y l ∙ sym (ap (λ (i : ℕ). get_or (x ∷ y ∷ l) i no_answer) e)

-- an interval not above 0 or over 1,800,000 ms, by the two times
is_wrong_interval : (first last elapsed : ℕ)
    → Decides ((elapsed ≡ 0) ⊎ (1800000 < elapsed) ⊎ (last ≤ first) ⊎ (first + 1800000 < last))
    ((eqb elapsed 0 || ltb 1800000 elapsed) || (eqb (last - first) 0 || ltb 1800000 (last - first)))
is_wrong_interval first last elapsed =
    so_if
    (⊎_elim (⊎_elim inl (λ k. inr (inl k))) (⊎_elim (λ k. inr (inr (inl (omega arith)))) (λ k. inr (inr (inr (omega arith))))))
    (⊎_elim (λ k. inl (inl k)) (⊎_elim (λ k. inl (inr k)) (⊎_elim (λ k. inr (inl (omega arith))) (λ k. inr (inr (omega arith))))))
    (is_or (is_or (is_same elapsed 0) (is_less 1800000 elapsed)) (is_or (is_same (last - first) 0) (is_less 1800000 (last - first))))

figures_tried : (first last : Told) (s1 s2 elapsed : ℕ)
    → Tried (error_between first last s1 s2 elapsed)
    ((64, (1000000000 < first.volume) ⊎ (1000000000 < last.volume) ⊎ (1000000000 < s1) ⊎ (1000000000 < s2))
    ∷ (
      65,
      (elapsed ≡ 0) ⊎ (1800000 < elapsed) ⊎ (milliseconds_at last.time ≤ milliseconds_at first.time)
          ⊎ (milliseconds_at first.time + 1800000 < milliseconds_at last.time),
    )
    ∷ (61, last.volume < first.volume)
    ∷ (62, s2 ≤ s1)
    ∷ [])
unfolding error_of_figures interval
figures_tried first last s1 s2 elapsed =
    try 64 (is_or_4 (is_less 1000000000 first.volume) (is_less 1000000000 last.volume) (is_less 1000000000 s1) (is_less 1000000000 s2))
    (λ x. try 65 (is_wrong_interval (milliseconds_at first.time) (milliseconds_at last.time) elapsed)
    (λ x. try 61 (is_less last.volume first.volume)
    (λ x. try 62 (is_most s2 s1)
    (λ x. end (error_by_c1 first.volume last.volume s1 s2 elapsed (interval first.time last.time)) refl))))

answers_tried : (answers : List Recorded) (s1 s2 elapsed : ℕ) → Tried (error_from answers s1 s2 elapsed) (answers_table answers s1 s2 elapsed)
answers_tried [] s1 s2 elapsed = let few : length {A = Recorded} [] < 2 = omega arith in hit few refl
answers_tried (only ∷ []) s1 s2 elapsed = let few : length (only ∷ []) < 2 = omega arith in hit few refl
answers_tried (first ∷ second ∷ later) s1 s2 elapsed =
    let last : Recorded = get_or (first ∷ second ∷ later) (length (first ∷ second ∷ later) - 1) no_answer in
    let few : length (first ∷ second ∷ later) < 2 → ⊥ = λ h. omega arith in
    miss few
    (subst (λ (k : Recorded). Tried (error_between (row_tells first) (row_tells k) s1 s2 elapsed) (behind63 (first ∷ second ∷ later) s1 s2 elapsed))
    (sym (last_is first (second ∷ later))) (figures_tried (row_tells first) (row_tells last) s1 s2 elapsed))

pub replay_tried : (b : List ℕ) (position s1 s2 elapsed : ℕ)
    → Tried (replay_of b position s1 s2 elapsed)
    (bundle_table b ++ ((34, OutsidePositions position) ∷ answers_table (answers_of position (records_of b)) s1 s2 elapsed))
unfolding replay_of
replay_tried b position s1 s2 elapsed =
    then_try (λ n. refuse 34 (wrong_position position) (error_from (answers_of position (records_of b)) s1 s2 elapsed)) (check_tried b)
    (λ n e. try 34 (is_or (is_less position 1) (is_less 48 position)) (λ x. answers_tried (answers_of position (records_of b)) s1 s2 elapsed))

pub replay_order : ReplayOrder
replay_order b position s1 s2 elapsed = order_of (replay_tried b position s1 s2 elapsed)
