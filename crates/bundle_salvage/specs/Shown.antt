-- What salvaging answers, and what it leaves in the second buffer.
use Rattle.std.specs.Prelude.{ℕ, List, Result, ◌≡◌}
use Rattle.base_rules.specs.declared.refusals.Refusal.{Refusal}
use Rattle.base_rules.specs.Shown.{shown}
use Rattle.base_lent.specs.Lent.{stored}
use Rattle.bundle_salvage.specs.declared.Salvaged.{Salvaged}
use Rattle.bundle_salvage.specs.Salvaging.{salvage_into, new_bundle}

-- The damaged input is only lent to read; the second buffer holds the new bundle, and on a refusal what it held.
pub record Salvages (b before : List ℕ) (r : Result Salvaged Refusal) (after : List ℕ) : Type 0 where
  pub answer : r ≡ shown (salvage_into b before)
  pub left : after ≡ stored (new_bundle b) before (salvage_into b before)
