-- Proofs of the statements of specs/Values.
use mathlib.Core.Path.{refl}
use lib.Count.{ones_in}
use lib.ListN.{drop}
use Rattle.base_rules.specs.Lists.{any, total}
use Rattle.base_characters.specs.Characters.{odd, carrier}
use Rattle.base_digits.specs.Digits.{digits_of}
use Rattle.mbus_rules.specs.Signs.{minus}
use Rattle.mbus_rules.specs.Moments.{wrong_moment}
use Rattle.mbus_rules.specs.Headers.{wrong_header}
use Rattle.mbus_rules.specs.Quantities.{quantity_of, width_of, paired, power_of}
use Rattle.mbus_rules.specs.Entries.{read_entries}
use Rattle.mbus_rules.specs.Lines.{read_body, read_line}
use Rattle.mbus_rules.specs.Writing.{line_of}
use Rattle.base_characters.specs.Flips.{flip_bit, flips}
use Rattle.bench_indication.specs.Errors.{error_of}
use Rattle.exchange_steps.specs.Histories.{run}
use Rattle.demands.specs.Values.{Hold, thirteen, ThirteenHold}

pub thirteen_hold : ThirteenHold
unfolding read_line read_body read_entries any total odd carrier ones_in line_of flips flip_bit wrong_header digits_of minus wrong_moment quantity_of width_of paired
    power_of error_of run
thirteen_hold = (refl, (refl, (refl, (refl, (refl, from_six)))))
  where
    from_six : Hold (drop 5 thirteen)
    from_six = (refl, (refl, (refl, (refl, ((refl, refl, refl, refl, refl), (refl, ((refl, refl, refl, refl), ((refl, refl), tt))))))))
