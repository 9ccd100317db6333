-- The words of the listing and the records of the header, computed.
use mathlib.Core.Path.{refl}
use lib.Count.{ones_in}
use Rattle.base_numbers.specs.Numbers.{bytes_of}
use Rattle.base_rules.specs.Lists.{any, total}
use Rattle.base_characters.specs.Characters.{odd, carrier}
use Rattle.base_digits.specs.Digits.{digits_of}
use Rattle.mbus_rules.specs.Entries.{read_entries}
use Rattle.mbus_rules.specs.Headers.{wrong_header}
use Rattle.mbus_rules.specs.Lines.{read_body, read_line}
use Rattle.mbus_rules.specs.Moments.{wrong_moment}
use Rattle.mbus_rules.specs.Quantities.{quantity_of, width_of, paired}
use Rattle.mbus_rules.specs.Signs.{minus}
use Rattle.mbus_rules.specs.Writing.{line_of}
use Rattle.bench_clock.specs.Wakes.{is_wake}
use Rattle.text_filling.specs.Decimals.{digits_in}
use Rattle.run_listing.specs.LineColumn.{column_of}
use Rattle.run_listing.specs.Listings.{word_of, row_text}
use Rattle.demands.specs.Layouts.{EveryWordListed, BothDirectionsListed, RowAsInC, SalvagedAsInC, ContentsAsInC}

pub every_word_listed : EveryWordListed
unfolding word_of column_of is_wake any digits_in read_line read_body read_entries total odd carrier ones_in line_of wrong_header digits_of minus wrong_moment quantity_of
    width_of paired
every_word_listed = (refl, refl, refl, refl, refl, refl, refl, refl)

pub both_directions_listed : BothDirectionsListed
unfolding row_text digits_in
both_directions_listed = (refl, refl)

pub row_as_in_c : RowAsInC
unfolding bytes_of
row_as_in_c = refl

pub salvaged_as_in_c : SalvagedAsInC
unfolding bytes_of
salvaged_as_in_c = refl

pub contents_as_in_c : ContentsAsInC
unfolding bytes_of
contents_as_in_c = (refl, refl, refl, refl, refl, refl)
