-- 02, 2026-08: what reading holds on to.
use Rattle.std.specs.Prelude.{◌≡◌, ℕ, ◌+◌, ◌*◌, ◌≤◌, List, length, drop}
use Rattle.base_rules.specs.Lists.{total}
use Rattle.cjt_rules.specs.CjtFrames.{past_fe}

-- so many FE bytes are skipped, and the sum without them
pub record Skips (b : List ℕ) (n : ℕ) : Type 0 where
  pub few : n ≤ 5
  pub inside : n ≤ length b
  pub same : drop n b ≡ past_fe 5 b
  pub sum : total b ≡ 0xFE * n + total (drop n b)
