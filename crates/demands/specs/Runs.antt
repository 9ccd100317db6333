-- 02, 2026-14: both ends by worked examples, and what happens where a hypothesis fails. Each run is computed.
use Rattle.std.specs.Prelude.{ℕ, List, [], ◌∷◌, ◌++◌, ◌≡◌}
use Rattle.mbus_rules.specs.declared.Request.{Request}
use Rattle.base_characters.specs.Flips.{Place}
use Rattle.mbus_rules.specs.Telegrams.{ack}
use Rattle.mbus_rules.specs.Writing.{line_of}
use Rattle.exchange_steps.specs.declared.Cause.TheVariants.{Silent}
use Rattle.exchange_steps.specs.declared.State.{State}
use Rattle.exchange_steps.specs.declared.State.TheVariants.{Well, Failed}
use Rattle.exchange_steps.specs.Steps.{begun}
use Rattle.meter_template.specs.declared.Pair.{Pair}
use Rattle.meter_steps.specs.declared.Mode.{Mode}
use Rattle.meter_steps.specs.declared.Mode.TheVariants.{Use, Verifying}
use Rattle.meter_steps.specs.Meters.{zeros, returned}
use Rattle.both_ends.specs.Line.{own_ends, Between, Happening, reaches_meter, lost_to_meter, reaches_bench, lost_to_bench, ticks, send_ends, measures}
use Rattle.both_ends.specs.Line.{request_line, happened, opening, alone}
use Rattle.both_ends.specs.Statements.{HasDone}
use Rattle.both_ends.specs.Turning.{pair_of, meter_with, enter90, leave5, one_flip, at_once}
use Rattle.exchange_steps.specs.Values.{clock_at}
use Rattle.demands.specs.Values.{Hold}

-- ---- what the runs begin with

-- the first send of a request ends at 0
abbrev pub started : Request → Mode → Between
started request mode = opening request (clock_at 0) (meter_with mode)

-- what is looked at in the end: the exchange's state, the meter's mode with the return then due, its verification pair, and how often that was cleared
pub record Final : Type 0 where
  pub state : State
  pub mode : Mode
  pub verified : Pair
  pub clearings : ℕ

abbrev pub final_at : ℕ → Between → Final
final_at end w = record {
  state = w.bench.state;
  mode = (returned (clock_at end) w.meter.core).mode;
  verified = w.meter.core.verified;
  clearings = w.clearings;
}

-- ---- worked examples

-- three losses
abbrev pub three_losses : List Happening
three_losses =
    lost_to_meter ∷ ticks (clock_at 451) ∷ send_ends (clock_at 600) ∷ lost_to_meter ∷ ticks (clock_at 1051) ∷ send_ends (clock_at 1200) ∷ lost_to_meter
    ∷ ticks (clock_at 1651) ∷ []

-- three answers lost
abbrev pub three_answers_lost : List Happening
three_answers_lost =
    reaches_meter (clock_at 100) [] ∷ lost_to_bench ∷ ticks (clock_at 451) ∷ send_ends (clock_at 600) ∷ reaches_meter (clock_at 700) [] ∷ lost_to_bench
    ∷ ticks (clock_at 1051) ∷ send_ends (clock_at 1200) ∷ reaches_meter (clock_at 1300) [] ∷ lost_to_bench ∷ ticks (clock_at 1651) ∷ []

-- a late ack: the second send is lost, and the first one's ack comes within the second one's window
abbrev pub late_ack : List Happening
late_ack = reaches_meter (clock_at 100) [] ∷ ticks (clock_at 451) ∷ send_ends (clock_at 600) ∷ lost_to_meter ∷ reaches_bench (clock_at 700) [] ∷ []

-- a damaged ack and then a repeated enter, with measuring between them
abbrev pub damaged_ack : List Happening
damaged_ack =
    reaches_meter (clock_at 100) [] ∷ measures 5 7 (clock_at 200) ∷ reaches_bench (clock_at 300) one_flip ∷ send_ends (clock_at 600)
    ∷ reaches_meter (clock_at 700) [] ∷ reaches_bench (clock_at 800) [] ∷ []

-- the first send is damaged, and the second comes through
abbrev pub damaged_once : List Happening
damaged_once =
    reaches_meter (clock_at 100) one_flip ∷ ticks (clock_at 451) ∷ send_ends (clock_at 600) ∷ reaches_meter (clock_at 700) [] ∷ reaches_bench (clock_at 800) [] ∷ []

abbrev pub examples : List (Type 0)
examples =
    -- it ends badly, and the meter has not moved
    (final_at 1651 (happened own_ends (started enter90 Use) three_losses) ≡ record { state = Failed Silent; mode = Use; verified = pair_of 3 4; clearings = 0 })
    ∷ ((happened own_ends (started enter90 Use) three_losses).meter ≡ meter_with Use)
    -- it ends badly, and the meter has entered, by the last of the three
    ∷ (final_at 1651 (happened own_ends (started enter90 Use) three_answers_lost)
    ≡ record { state = Failed Silent; mode = Verifying 0x90 (clock_at 1300); verified = zeros; clearings = 1 })
    -- it ends well, and the meter has entered by the first send
    ∷ (final_at 700 (happened own_ends (started enter90 Use) late_ack)
    ≡ record { state = Well; mode = Verifying 0x90 (clock_at 100); verified = zeros; clearings = 1 })
    -- the repeated enter does not clear what was measured
    ∷ (final_at 800 (happened own_ends (started enter90 Use) damaged_ack)
    ≡ record { state = Well; mode = Verifying 0x90 (clock_at 700); verified = pair_of 5 7; clearings = 1 })
    -- an enter while in verification with another method: the method is set, and the totals stay
    ∷ (final_at 300 (happened own_ends (started enter90 (Verifying 0x91 (clock_at 0))) at_once)
    ≡ record { state = Well; mode = Verifying 0x90 (clock_at 100); verified = pair_of 3 4; clearings = 0 })
    -- a leave, and the totals stay
    ∷ (final_at 800 (happened own_ends (started leave5 (Verifying 0x91 (clock_at 0))) damaged_once)
    ≡ record { state = Well; mode = Use; verified = pair_of 3 4; clearings = 0 })
    ∷ []

abbrev pub ExamplesHold : Type 0
ExamplesHold = Hold examples

-- ---- the statement of entering, applied

-- three bits flipped in the first send, parity bits among them; the second comes through
abbrev pub three_flips : List Place
three_flips = record { character = 7; bit = 0 } ∷ record { character = 7; bit = 8 } ∷ record { character = 8; bit = 0 } ∷ []

abbrev pub three_then_whole : List Happening
three_then_whole =
    reaches_meter (clock_at 100) three_flips ∷ ticks (clock_at 451) ∷ send_ends (clock_at 600) ∷ reaches_meter (clock_at 700) [] ∷ reaches_bench (clock_at 800) [] ∷ []

abbrev pub HasEntered : Type 0
HasEntered = HasDone enter90 (clock_at 0) (clock_at 800) (happened own_ends (started enter90 Use) three_then_whole)

-- ---- where a hypothesis fails

-- 4,320,000 between first send and end: the ack of the first send comes within the second one's window
abbrev pub thirty_minutes : List Happening
thirty_minutes =
    reaches_meter (clock_at 0) [] ∷ ticks (clock_at 451) ∷ send_ends (clock_at 4319900) ∷ lost_to_meter ∷ reaches_bench (clock_at 4320000) [] ∷ []

-- four flips turn method 90 into 91, with its parity and the sum
abbrev pub four_flips : List Place
four_flips =
    record { character = 7; bit = 0 } ∷ record { character = 7; bit = 8 } ∷ record { character = 8; bit = 0 } ∷ record { character = 8; bit = 1 } ∷ []

-- an ack on its way at the beginning
abbrev pub with_ack : Between
with_ack = record { bench = begun enter90 (clock_at 0); meter = meter_with Use; to_meter = request_line enter90 ∷ []; to_bench = line_of ack ∷ []; clearings = 0 }

-- an enter of an earlier exchange that the line repeats, behind a leave
abbrev pub with_repeated : Between
with_repeated = record {
  bench = begun leave5 (clock_at 0);
  meter = meter_with (Verifying 0x90 (clock_at 0));
  to_meter = request_line leave5 ∷ request_line enter90 ∷ [];
  to_bench = [];
  clearings = 0;
}

-- a time that falls: after a damaged line at 1000 the meter refuses to measure at 500
abbrev pub times_fall : List Happening
times_fall = reaches_meter (clock_at 1000) one_flip ∷ measures 5 7 (clock_at 500) ∷ []

abbrev pub needed : List (Type 0)
needed =
    -- it ends well, and the meter is back in use; one bit time before, it is not
    (final_at 4320000 (happened own_ends (started enter90 Use) thirty_minutes) ≡ record { state = Well; mode = Use; verified = zeros; clearings = 1 })
    ∷ (final_at 4319999 (happened own_ends (started enter90 Use) thirty_minutes)
    ≡ record { state = Well; mode = Verifying 0x90 (clock_at 0); verified = zeros; clearings = 1 })
    -- it ends well, and the meter has another method
    ∷ (final_at 300 (happened own_ends (started enter90 Use) (reaches_meter (clock_at 100) four_flips ∷ reaches_bench (clock_at 300) [] ∷ []))
    ≡ record { state = Well; mode = Verifying 0x91 (clock_at 100); verified = zeros; clearings = 1 })
    -- it ends well, and no line reached the meter
    ∷ (final_at 300 (happened own_ends with_ack (lost_to_meter ∷ reaches_bench (clock_at 300) [] ∷ []))
    ≡ record { state = Well; mode = Use; verified = pair_of 3 4; clearings = 0 })
    -- leaving ends well, and the meter is in verification again
    ∷ (final_at 400 (happened own_ends with_repeated (at_once ++ (reaches_meter (clock_at 400) [] ∷ [])))
    ≡ record { state = Well; mode = Verifying 0x90 (clock_at 400); verified = zeros; clearings = 1 })
    -- without the exchange it would have measured
    ∷ (((happened own_ends (started enter90 Use) times_fall).meter.core.used ≡ pair_of 100 200)
    × ((alone own_ends (meter_with Use) times_fall).core.used ≡ pair_of 105 207))
    ∷ []

abbrev pub NeededHold : Type 0
NeededHold = Hold needed
