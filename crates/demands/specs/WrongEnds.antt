-- 02, 2026-14: programs at either end that are wrong, and of which the statements do not hold: each has a run that breaks them.
use Rattle.std.specs.Prelude.{ℕ, cond, List}
use Rattle.bench_clock.specs.declared.Clock.{Clock}
use Rattle.mbus_rules.specs.declared.Request.TheVariants.{Enter}
use Rattle.base_rules.specs.Answers.{within}
use Rattle.mbus_rules.specs.Lines.{read_line}
use Rattle.mbus_rules.specs.Telegrams.{ack}
use Rattle.mbus_rules.specs.Outlines.{outlined}
use Rattle.exchange_steps.specs.declared.Exchange.{Exchange}
use Rattle.exchange_steps.specs.declared.State.TheVariants.{Well}
use Rattle.exchange_steps.specs.Steps.{moved}
use Rattle.meter_steps.specs.declared.Meter.{Meter}
use Rattle.meter_steps.specs.Meters.{Deed, says, zeros, with_mode, instructed_at}
use Rattle.meter_steps.specs.Histories.{is_enter, is_leave, instructs}
use Rattle.both_ends.specs.Line.{Ends, own_ends}
use Rattle.both_ends.specs.Statements.{Entering, Leaving}

-- ---- wrong programs

-- a meter that changes what 01's meter leaves after a line, by the meter as it stood
abbrev pub with_hears : (Meter → List ℕ → Clock → Deed → Deed) → Ends
with_hears change = record {
  heard = own_ends.heard;
  tick = own_ends.tick;
  sent = own_ends.sent;
  hears = λ m line t. within (change m line t) (own_ends.hears m line t);
  measure = own_ends.measure;
}

-- an exchange that changes what 01's leaves after a tick, or after a send
abbrev pub with_tick : (Clock → Exchange → Exchange) → Ends
with_tick change = record {
  heard = own_ends.heard;
  tick = λ x t. within (change t) (own_ends.tick x t);
  sent = own_ends.sent;
  hears = own_ends.hears;
  measure = own_ends.measure;
}

abbrev pub with_sent : (Exchange → Exchange) → Ends
with_sent change = record {
  heard = own_ends.heard;
  tick = own_ends.tick;
  sent = λ x t. within change (own_ends.sent x t);
  hears = own_ends.hears;
  measure = own_ends.measure;
}

-- a repeated enter clears
abbrev pub clears_again : Ends
clears_again = with_hears (λ m line t d. record {
  core = record {
    address = d.core.address;
    mode = d.core.mode;
    used = d.core.used;
    verified = cond (instructs is_enter m.core.address (outlined (read_line line))) zeros d.core.verified;
    template = d.core.template;
  };
  said = d.said;
})

-- every line, a damaged one too, puts off the return
abbrev pub puts_off_return : Ends
puts_off_return = with_hears (λ m line t d. record { core = with_mode d.core (instructed_at t d.core.mode); said = d.said })

-- every line, a damaged one too, is acked
abbrev pub acks_every_line : Ends
acks_every_line = with_hears (λ m line t d. record { core = d.core; said = says ack })

-- leave is acked, and the mode stays
abbrev pub stays_on_leave : Ends
stays_on_leave = with_hears (λ m line t d. record {
  core = with_mode d.core (cond (instructs is_leave m.core.address (outlined (read_line line))) m.core.mode d.core.mode);
  said = d.said;
})

-- a resend changes the request
abbrev pub changes_request : Ends
changes_request = with_sent (λ x. record { request = Enter 0xFE 0x91; state = x.state; sends = x.sends; began = x.began; last = x.last })

-- a tick ends well
abbrev pub ends_well_by_tick : Ends
ends_well_by_tick = with_tick (λ t x. moved x Well t)

-- ---- what breaks them

-- the second enter clears again: twice in all
abbrev pub RepeatedEnterClears : Type 0
RepeatedEnterClears = Entering clears_again → ⊥

-- the enter is damaged three times; the meter would be back in use, and is not
abbrev pub DamagedLinePutsOff : Type 0
DamagedLinePutsOff = Entering puts_off_return → ⊥

-- the enter is damaged and acked; the meter is in use
abbrev pub DamagedLineAcked : Type 0
DamagedLineAcked = Entering acks_every_line → ⊥

-- the leave is acked; the meter is in verification
abbrev pub LeaveWithoutLeaving : Type 0
LeaveWithoutLeaving = Leaving stays_on_leave → ⊥

-- the second send asks for another method, which is acked
abbrev pub ResendChangesRequest : Type 0
ResendChangesRequest = Entering changes_request → ⊥

-- the line is lost, and a tick ends the exchange well
abbrev pub TickEndsWell : Type 0
TickEndsWell = Entering ends_well_by_tick → ⊥
