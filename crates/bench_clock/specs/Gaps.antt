-- 01, "Refusal numbers", 50 and 51: the gap between a wake-up's end and the command after it.
use Rattle.std.specs.Prelude.{ℕ, ◌-◌, ◌||◌, ltb}
use Rattle.base_rules.specs.Answers.{Answer, reads, refuse}
use Rattle.bench_clock.specs.Times.{gap_least, gap_most}

-- 50: the command begins less than 33 after the wake-up's end, or before it; 51: more than 330 after
abbrev pub gap_of : ℕ → ℕ → Answer (Unit {0})
gap_of ended begins =
    refuse 50 (ltb begins ended || ltb (begins - ended) gap_least)
    (refuse 51 (ltb gap_most (begins - ended))
    (reads tt))
