-- The clauses of the statement at the runs on which a wrong program turns one of them false, by computing: so each of these programs is refused at the
-- statement itself, and another wording of the same program is not.
use mathlib.Core.Bool.{false≢true}
use mathlib.Core.Logic.{inr}
use mathlib.Core.Path.{refl, ap}
use lib.Count.{ones_in}
use lib.Dec.{lit≤}
use Rattle.base_rules.specs.Lists.{any, total}
use Rattle.base_characters.specs.Characters.{odd, carrier}
use Rattle.base_characters.specs.Flips.{flip_bit, flips}
use Rattle.mbus_rules.specs.Lines.{read_body, read_line}
use Rattle.mbus_rules.specs.Writing.{line_of}
use Rattle.exchange_steps.specs.Steps.{is_well}
use Rattle.exchange_steps.specs.Values.{clock_at}
use Rattle.meter_steps.specs.declared.Mode.TheVariants.{Use, Verifying}
use Rattle.both_ends.specs.Line.{own_ends, happens, happened, opening, alone}
use Rattle.both_ends.specs.Statements.{IfWell, IfBadly, ClearedOnce}
use Rattle.both_ends.specs.Turning.{meter_with, enter90, leave5, at_once, entered_twice, damaged_thrice, damaged_at_once, acked_second, lost_and_ticked}

pub entered_twice_lem : ClearedOnce enter90 (happened own_ends (opening enter90 (clock_at 0) (meter_with Use)) entered_twice)
unfolding happened happens read_line read_body any odd ones_in total carrier line_of flips flip_bit
entered_twice_lem = lit≤ tt

pub damaged-thrice :
    IfBadly own_ends (meter_with (Verifying 0x91 (clock_at 0))) damaged_thrice enter90 (clock_at 4319000) (clock_at 4320551)
    (happened own_ends (opening enter90 (clock_at 4319000) (meter_with (Verifying 0x91 (clock_at 0)))) damaged_thrice)
unfolding happened happens alone read_line read_body any odd ones_in total carrier line_of flips flip_bit
damaged-thrice cause h = inr refl

pub damaged_at_once_lem : IfWell enter90 (clock_at 0) (clock_at 300) (happened own_ends (opening enter90 (clock_at 0) (meter_with Use)) damaged_at_once)
unfolding happened happens read_line read_body any odd ones_in total carrier line_of flips flip_bit
damaged_at_once_lem h = absurd (false≢true (ap is_well h))

pub left_at_once :
    IfWell leave5 (clock_at 0) (clock_at 300) (happened own_ends (opening leave5 (clock_at 0) (meter_with (Verifying 0x91 (clock_at 0)))) at_once)
unfolding happened happens read_line read_body any odd ones_in total carrier line_of flips flip_bit
left_at_once h = refl

pub acked_second_lem : IfWell enter90 (clock_at 0) (clock_at 800) (happened own_ends (opening enter90 (clock_at 0) (meter_with Use)) acked_second)
unfolding happened happens read_line read_body any odd ones_in total carrier line_of flips flip_bit
acked_second_lem h = (clock_at 700, refl, lit≤ tt)

pub lost_and_ticked_lem : IfWell enter90 (clock_at 0) (clock_at 451) (happened own_ends (opening enter90 (clock_at 0) (meter_with Use)) lost_and_ticked)
unfolding happened happens read_line read_body any odd ones_in total carrier line_of flips flip_bit
lost_and_ticked_lem h = absurd (false≢true (ap is_well h))
