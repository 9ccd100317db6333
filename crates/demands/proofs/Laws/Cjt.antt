-- Proofs of the statements of specs/Cjt.
use Prim.Native.Nat.{ℕ}
use mathlib.Core.List.{List}
use mathlib.Core.Path.{◌≡◌, refl, ap}
use lib.ListN.{length}
use borrow.Author.Tests.{lt-ltb}
use Rattle.base_lent.specs.Lent.{stored}
use Rattle.base_rules.specs.Answers.{reads}
use Rattle.cjt_rules.specs.CjtWriting.{cjt_line_of, unwritten, write_cjt_line}
use Rattle.cjt_rules.proofs.Laws.FrameCode as codes
use Rattle.cjt_rules.proofs.Laws.FrontLaws as fronts
use Rattle.cjt_rules.proofs.Laws.RoundTrip as rounds
use Rattle.demands.specs.Cjt.{WhatIsAcceptedOfCjt, FrontIsSkipped, CjtFlipsAreRefused, NoCjtLineGoesOn, CjtOneCut, CjtReadAndWrite, CjtWriteAndRead}
use Rattle.demands.specs.Cjt.{TooFewForCjt, CjtCannotBeWritten, CjtRefusedBy20, CjtLengths, AnyStateWritten}

pub what_is_accepted_of_cjt : WhatIsAcceptedOfCjt
what_is_accepted_of_cjt = rounds.accepted_lines

pub front_is_skipped : FrontIsSkipped
front_is_skipped = fronts.front_changes_nothing

pub cjt_flips_are_refused : CjtFlipsAreRefused
cjt_flips_are_refused = codes.flips_refused

pub no_cjt_line_goes_on : NoCjtLineGoesOn
no_cjt_line_goes_on = codes.no_proper_beginning

pub cjt_one_cut : CjtOneCut
cjt_one_cut = codes.one_cut

pub cjt_read_and_write : CjtReadAndWrite
cjt_read_and_write s t out bare r h =
    let written : write_cjt_line t (length out) ≡ reads s = rounds.written_again s t (length out) bare r h in
    (written, ap (stored (λ (line : List ℕ). line) out) written)

pub cjt_write_and_read : CjtWriteAndRead
cjt_write_and_read t out z u h = (cjt_line_of t, rounds.enough_places t (length out) u h, rounds.write_then_read t z u)

pub too_few_for_cjt : TooFewForCjt
too_few_for_cjt t places u h = rw (u, lt-ltb places (length (cjt_line_of t)) h)

pub cjt_cannot_be_written : CjtCannotBeWritten
cjt_cannot_be_written = rounds.refusal_20

pub cjt_refused_by_20 : CjtRefusedBy20
cjt_refused_by_20 t places u = rw u

pub cjt_lengths : CjtLengths
cjt_lengths = (rounds.request_line, rounds.answer_line)

pub any_state_written : AnyStateWritten
unfolding unwritten
any_state_written a serial first second = refl
