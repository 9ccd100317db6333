-- Proofs of the statements of specs/Listing.
use mathlib.Core.Path.{refl, ap}
use lib.Count.{ones_in}
use Rattle.base_numbers.specs.Numbers.{number}
use Rattle.base_rules.specs.Lists.{any}
use Rattle.base_characters.specs.Characters.{odd, chars}
use Rattle.mbus_rules.specs.Lines.{read_body, read_line}
use Rattle.bundle_rows.specs.Rows.{rows_of}
use Rattle.bundle_check.specs.Walks.{some_wrong, end_of}
use Rattle.bundle_check.specs.Bundles.{check_of}
use Rattle.bench_clock.specs.Wakes.{is_wake}
use Rattle.run_listing.specs.LineColumn.{column_of}
use Rattle.text_filling.specs.Decimals.{digits_in}
use Rattle.run_listing.specs.Listings.{word_of, row_text, lines_for, listed, listing_of}
use Rattle.demands.specs.Listing.{ListingOfSixteen, ListingRefused}

pub listing_of_sixteen : ListingOfSixteen
unfolding listing_of check_of number rows_of some_wrong end_of chars any lines_for row_text word_of column_of is_wake digits_in read_line read_body odd ones_in
listing_of_sixteen = refl

pub listing_refused : ListingRefused
unfolding listing_of
listing_refused b n e = ap (listed b) e
