-- Proofs of the statements of specs/Lines.
use Rattle.mbus_rules.proofs.Laws.RoundTrip
use Rattle.mbus_rules.proofs.Laws.RoundTrip.{accepted_lines, data_lengths}
use Rattle.mbus_rules.proofs.Laws.LineCode
use Rattle.demands.specs.Lines.{WhatIsAccepted, FlipsAreRefused, NoLineGoesOn, OneCut, LengthsOfData, LongestLine}

pub what_is_accepted : WhatIsAccepted
what_is_accepted = accepted_lines

pub flips_are_refused : FlipsAreRefused
flips_are_refused = LineCode.flips_refused

pub no_line_goes_on : NoLineGoesOn
no_line_goes_on = LineCode.no_proper_beginning

pub one_cut : OneCut
one_cut = LineCode.one_cut

pub lengths_of_data : LengthsOfData
lengths_of_data = data_lengths

pub longest_line : LongestLine
longest_line = RoundTrip.longest_line
