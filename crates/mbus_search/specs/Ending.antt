-- 01, "Refusal numbers", 7, where a line begins that has so many bytes.
use Rattle.std.specs.Prelude.{ℕ, ◌-◌, Bool, ◌&&◌, ◌||◌, List, length, ◌==◌, nat_le, nat_lt}
use Rattle.base_rules.specs.Lists.{at}

-- so many are there, and the last of them is 16; one is an ack, which does not end so
abbrev pub ends_in : ℕ → List ℕ → Bool
ends_in n b = nat_le n (length b) && (nat_lt n 2 || at b (n - 1) == 0x16)
