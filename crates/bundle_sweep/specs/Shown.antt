-- 01's number and values for each case of the answer that is an enum.
use Rattle.std.specs.Prelude.{ℕ, List, ◌≡◌}
use Rattle.std.specs.Prelude.{Result}
use Rattle.base_rules.specs.declared.refusals.Refusal.{Refusal}
use Rattle.base_rules.specs.Shown.{shown}
use Rattle.bundle_sweep.specs.Sweeping.{sweep_of, buffer_swept}

-- What a sweep promises: its answer, and what the buffer then holds.
pub record Sweeps (before : List ℕ) (filled position : ℕ) (r : Result ℕ Refusal) (after : List ℕ) : Type 0 where
  pub answers : r ≡ shown (sweep_of before filled position)
  pub leaves : after ≡ buffer_swept (sweep_of before filled position) before filled position
