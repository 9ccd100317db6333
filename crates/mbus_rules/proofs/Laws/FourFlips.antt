-- Laws of `specs/FourFlips`.
use mathlib.Core.Path.{◌≡◌, refl}
use lib.Count.{ones_in}
use lib.ListN.{length, set}
use Rattle.base_rules.specs.Lists.{any, total}
use Rattle.base_characters.specs.Characters.{odd, carrier}
use Rattle.base_digits.specs.Digits.{digits_of}
use Rattle.mbus_rules.specs.Signs.{minus, size_bytes}
use Rattle.mbus_rules.specs.Moments.{wrong_moment}
use Rattle.mbus_rules.specs.Headers.{wrong_header}
use Rattle.mbus_rules.specs.Quantities.{quantity_of, width_of, paired}
use Rattle.mbus_rules.specs.Entries.{read_entries}
use Rattle.mbus_rules.specs.Lines.{read_body, read_line, Accepted}
use Rattle.base_characters.specs.Flips.{flip_bit, flips, repeated, Places}
use Rattle.mbus_rules.specs.FourFlips.{data_line, four}

pub four_flips_pass : (length four ≡ 4) × Places data_line four × (flips four data_line ≡ set (set data_line 15 0x00) 16 0x03)
    × Accepted data_line × Accepted (flips four data_line)
unfolding read_line read_body read_entries any total odd carrier ones_in flips flip_bit repeated wrong_header digits_of minus size_bytes wrong_moment quantity_of
    width_of paired
four_flips_pass = (refl, record { within = refl; different = refl }, refl, (_, refl), (_, refl))
