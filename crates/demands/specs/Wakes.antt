-- 01, "The run bundle", its last paragraph: what a wake-up is.
use Rattle.std.specs.Prelude.{ℕ, ◌≤◌, true, List, ◌≡◌, replicate}
use Rattle.bench_clock.specs.Wakes.{is_wake}

-- A wake-up is 459 to 502 characters, all 55 with parity 0:
abbrev pub WakeUpsAreThese : Type 0
WakeUpsAreThese = (line : List ℕ) → is_wake line ≡ true → (count : ℕ) × (459 ≤ count) × (count ≤ 502) × (line ≡ replicate count 0x055)

-- and every such line is one.
abbrev pub TheseAreWakeUps : Type 0
TheseAreWakeUps = (count : ℕ) → 459 ≤ count → count ≤ 502 → is_wake (replicate count 0x055) ≡ true
