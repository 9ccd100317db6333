-- 02, 2026-12, for C: what a sweep answers there, and what it leaves.
use Rattle.std.specs.Prelude.{ℕ, List, ◌≡◌}
use Rattle.bundle_sweep.specs.Sweeping.{sweep_of, buffer_swept}
use Rattle.host_bundle.specs.Lent.{Gives}

-- How many bytes the bundle then fills, and what the buffer then holds.
pub record SweepsIn (buffer : List ℕ) (filled position r : ℕ) (buffer' : List ℕ) (filled' : ℕ) : Type 0 where
  pub gives : Gives (sweep_of buffer filled position) filled r filled'
  pub holds : buffer' ≡ buffer_swept (sweep_of buffer filled position) buffer filled position
