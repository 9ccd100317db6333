-- Laws of `specs/Shown`.
use Prim.Native.Nat.{ℕ}
use mathlib.Core.List.{List}
use mathlib.Core.Path.{◌≡◌}
use Rattle.base_rules.specs.Answers.{reads, refusal}
use Rattle.bundle_check.specs.Records.{Recorded}
use Rattle.std.specs.Prelude.{Ok, Err}
use Rattle.base_rules.specs.Shown.{refused_by}
use Rattle.bundle_adding.specs.Adding.{add_of, buffer_after}
use Rattle.bundle_adding.specs.Shown.{Adds}

-- a refusal leaves the buffer as it was
pub adds_refused : {buffer : List ℕ} {filled : ℕ} {k : Recorded} {n : ℕ} → add_of buffer filled k ≡ refusal n → Adds buffer filled k (Err (refused_by n)) buffer
adds_refused e = record { answers = rw e; leaves = rw e }

-- and what is added stands in it
pub adds_grown : {buffer after : List ℕ} {filled : ℕ} {k : Recorded} {n : ℕ} → add_of buffer filled k ≡ reads n → after ≡ buffer_after (reads n) buffer filled k
    → Adds buffer filled k (Ok n) after
adds_grown e f = record { answers = rw e; leaves = rw e f }
