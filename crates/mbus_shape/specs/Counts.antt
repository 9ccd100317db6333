-- 01, "Refusal numbers", 4 and 5: the forms that they leave.
use Rattle.std.specs.Prelude.{◌≡◌, ℕ, ◌+◌, ◌≤◌, List, length}
use Rattle.base_rules.specs.Lists.{at}

-- what is known of a line of each form that 4 and 5 leave
pub record ShortCount (b : List ℕ) : Type 0 where
  pub first : at b 0 ≡ 0x10
  pub five : length b ≡ 5

pub record LongCount (b : List ℕ) : Type 0 where
  pub first : at b 0 ≡ 0x68
  pub six : 6 ≤ length b
  pub count : length b ≡ at b 1 + 6
