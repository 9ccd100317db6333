-- Proofs of the statements of specs/Runs.
use Prim.Native.Nat.{ℕ}
use mathlib.Core.List.{List, []}
use mathlib.Core.Path.{refl}
use lib.Count.{ones_in}
use lib.Dec.{lit<, lit≤}
use Rattle.base_rules.specs.Lists.{any, total}
use Rattle.base_characters.specs.Characters.{odd, carrier}
use Rattle.base_characters.specs.Flips.{flip_bit, flips, repeated}
use Rattle.mbus_rules.specs.Lines.{read_body, read_line}
use Rattle.mbus_rules.specs.Writing.{line_of}
use Rattle.meter_steps.specs.declared.Mode.TheVariants.{Use}
use Rattle.both_ends.specs.Line.{happens, happened, alone}
use Rattle.both_ends.specs.Hypotheses.{UpToThree}
use Rattle.both_ends.specs.Turning.{meter_with}
use Rattle.demands.proofs.Laws.BothEnds.{both_ends_entering}
use Rattle.exchange_steps.specs.Values.{clock_at}
use Rattle.demands.specs.Runs.{ExamplesHold, three_then_whole, HasEntered, NeededHold}

pub examples_hold : ExamplesHold
unfolding happened happens read_line read_body any odd ones_in total carrier line_of flips flip_bit
examples_hold = (refl, (refl, (refl, (refl, (refl, (refl, (refl, tt)))))))

pub no_flips : (line : List ℕ) → UpToThree line []
unfolding any repeated
no_flips line = record { few = lit≤ tt; places = record { within = refl; different = refl } }

pub has_entered : HasEntered
unfolding happened happens read_line read_body any odd ones_in total carrier line_of flips flip_bit repeated
has_entered =
    (both_ends_entering 0xFE 0x90 (lit< tt) refl (clock_at 0) (clock_at 800) (lit< tt) (meter_with Use) (lit≤ tt) three_then_whole
    (lit≤ tt, (lit≤ tt, (lit≤ tt, (lit≤ tt, (lit≤ tt, lit≤ tt)))))
    (record { few = lit≤ tt; places = record { within = refl; different = refl } }, (tt, (tt, (no_flips _, (tt, tt)))))
    ).well refl

pub needed_hold : NeededHold
unfolding happened happens alone read_line read_body any odd ones_in total carrier line_of flips flip_bit
needed_hold = (refl, (refl, (refl, (refl, (refl, ((refl, refl), tt))))))
