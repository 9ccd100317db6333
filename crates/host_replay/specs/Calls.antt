-- The replay for C: what it answers.
use Rattle.std.specs.Prelude.{ℕ, List, ℤ}
use Rattle.base_rules.specs.Answers.{Answer}
use Rattle.base_lent.specs.Lent.{needs}
use Rattle.run_replay.specs.Errors.{replay_of}

-- The error by C.1: 21, then 30 to 37, 63, 64, 65, 61, 62.
abbrev pub replay_for : List ℕ → ℕ → ℕ → ℕ → ℕ → List ℤ → Answer ℤ
replay_for b position s1 s2 elapsed out = needs 1 out (replay_of b position s1 s2 elapsed)
