-- 01, "Values to hold against the rules", 13.
use Rattle.std.specs.Prelude.{ℕ, [], ◌∷◌}
use Rattle.bench_clock.specs.declared.Clock.{Clock}
use Rattle.mbus_rules.specs.declared.Request.TheVariants.{Enter}
use Rattle.mbus_rules.specs.Telegrams.{enter_of}
use Rattle.exchange_steps.specs.declared.State.{State}
use Rattle.exchange_steps.specs.declared.Slot.{Slot}
use Rattle.exchange_steps.specs.declared.Slot.TheVariants.{Busy}
use Rattle.exchange_steps.specs.Steps.{begun, moved}
use Rattle.exchange_steps.specs.Histories.{send_ended, heard, after}

abbrev pub clock_at : ℕ → Clock
clock_at n = record { 0 = n }

-- After the send of an enter, and an ack that is heard so long after its end.
abbrev pub heard_after : ℕ → Slot
heard_after n = after (send_ended (enter_of 0xFE 0x90) (clock_at 0) ∷ heard (0x1E5 ∷ []) (clock_at n) ∷ [])

-- The exchange of that enter, its only send made, with its last step so long after.
abbrev pub entered_by : State → ℕ → Slot
entered_by state n = Busy (moved (begun (Enter 0xFE 0x90) (clock_at 0)) state (clock_at n))
