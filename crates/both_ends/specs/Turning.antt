-- 02, 2026-14: runs on which a wrong program at either end turns a clause of the statement false. The first send ends at 0, but for the damaged enters.
use Rattle.std.specs.Prelude.{ℕ, List, [], ◌∷◌}
use Rattle.mbus_rules.specs.declared.Request.{Request}
use Rattle.mbus_rules.specs.declared.Request.TheVariants.{Enter, Leave}
use Rattle.base_characters.specs.Flips.{Place}
use Rattle.mbus_rules.specs.Telegrams.{blank}
use Rattle.exchange_steps.specs.Values.{clock_at}
use Rattle.meter_template.specs.declared.Pair.{Pair}
use Rattle.meter_steps.specs.declared.Meter.{Meter}
use Rattle.meter_steps.specs.declared.Mode.{Mode}
use Rattle.both_ends.specs.Line.{Happening, reaches_meter, lost_to_meter, reaches_bench, lost_to_bench, ticks, send_ends, measures}

abbrev pub pair_of : ℕ → ℕ → Pair
pair_of v e = record { volume = v; energy = e }

-- a meter at address 5, with 100 and 200 in its use pair and 3 and 4 left in its verification pair
abbrev pub meter_with : Mode → Meter
meter_with mode = record {
  last = clock_at 0;
  core = record { address = 5; mode = mode; used = pair_of 100 200; verified = pair_of 3 4; template = blank };
}

abbrev pub enter90 : Request
enter90 = Enter 0xFE 0x90

abbrev pub leave5 : Request
leave5 = Leave 5

-- one bit of a line's first character
abbrev pub one_flip : List Place
one_flip = record { character = 0; bit = 3 } ∷ []

-- nothing disturbs it
abbrev pub at_once : List Happening
at_once = reaches_meter (clock_at 100) [] ∷ reaches_bench (clock_at 300) [] ∷ []

-- the ack of the first enter is lost, and the second reaches the meter: one that clears again has cleared twice
abbrev pub entered_twice : List Happening
entered_twice =
    reaches_meter (clock_at 100) [] ∷ measures 5 7 (clock_at 200) ∷ lost_to_bench ∷ ticks (clock_at 451) ∷ send_ends (clock_at 600)
    ∷ reaches_meter (clock_at 700) [] ∷ []

-- the enter, first sent at 4,319,000, is damaged three times, and the return falls between them: a meter that a damaged line puts off is not back in use
abbrev pub damaged_thrice : List Happening
damaged_thrice =
    reaches_meter (clock_at 4319100) one_flip ∷ ticks (clock_at 4319451) ∷ send_ends (clock_at 4319600) ∷ reaches_meter (clock_at 4319700) one_flip
    ∷ ticks (clock_at 4320051) ∷ send_ends (clock_at 4320100) ∷ reaches_meter (clock_at 4320150) one_flip ∷ ticks (clock_at 4320551) ∷ []

-- the enter is damaged: one that is acked all the same ends well in use
abbrev pub damaged_at_once : List Happening
damaged_at_once = reaches_meter (clock_at 100) one_flip ∷ reaches_bench (clock_at 300) [] ∷ []

-- the ack is damaged, and the second send is acked: one that asks for another method ends well in that
abbrev pub acked_second : List Happening
acked_second =
    reaches_meter (clock_at 100) [] ∷ reaches_bench (clock_at 300) one_flip ∷ send_ends (clock_at 600) ∷ reaches_meter (clock_at 700) []
    ∷ reaches_bench (clock_at 800) [] ∷ []

-- the enter is lost: a tick that ends well ends so in use
abbrev pub lost_and_ticked : List Happening
lost_and_ticked = lost_to_meter ∷ ticks (clock_at 451) ∷ []
