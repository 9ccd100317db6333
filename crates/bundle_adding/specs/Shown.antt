-- 01's number and values for each case of the answer that is an enum.
use Rattle.std.specs.Prelude.{ℕ, List, ◌≡◌}
use Rattle.bundle_check.specs.Records.{Recorded}
use Rattle.std.specs.Prelude.{Result}
use Rattle.base_rules.specs.declared.refusals.Refusal.{Refusal}
use Rattle.base_rules.specs.Shown.{shown}
use Rattle.bundle_adding.specs.Adding.{add_of, buffer_after}
use Rattle.bundle_adding.specs.Inserting.{insert_of, buffer_inserted}

-- What adding a row promises: its answer, and what the buffer then holds.
pub record Adds (before : List ℕ) (filled : ℕ) (k : Recorded) (r : Result ℕ Refusal) (after : List ℕ) : Type 0 where
  pub answers : r ≡ shown (add_of before filled k)
  pub leaves : after ≡ buffer_after (add_of before filled k) before filled k

-- And what inserting one does.
pub record Inserts (before : List ℕ) (filled : ℕ) (k : Recorded) (r : Result ℕ Refusal) (after : List ℕ) : Type 0 where
  pub answers : r ≡ shown (insert_of before filled k)
  pub leaves : after ≡ buffer_inserted (insert_of before filled k) before filled k
