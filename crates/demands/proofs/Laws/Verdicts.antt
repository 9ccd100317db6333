-- Proofs of the statements of specs/Verdicts.
use mathlib.Core.List.{List, []}
use mathlib.Core.Path.{ap, ◌∙◌}
use borrow.Author.Tests.{lt-ltb}
use Rattle.exchange_steps.specs.declared.Slot.{Slot}
use Rattle.bundle_check.specs.Records.{Recorded}
use Rattle.run_counting.specs.Counting.{send_end}
use Rattle.run_verdicts.specs.Verdicts.{verdict_after}
use Rattle.run_verdicts.specs.Words.{heard_behind}
use Rattle.run_verdicts.proofs.Laws.AsBefore as before
use Rattle.run_verdicts.proofs.Laws.Example as example
use Rattle.run_verdicts.proofs.Laws.Meaning as meaning
use Rattle.run_verdicts.proofs.Laws.Telling as telling
use Rattle.demands.proofs.Laws.Bundle.{byte_at}
use Rattle.demands.specs.Verdicts.{AsManyAsRows, OneForEachRow, WakeUps, WhatAHeardRowIs, LeftOverIsTold, CountsAsTheExchangeEnds, CountsForReads}
use Rattle.demands.specs.Verdicts.{OthersChangeNoVerdict, ColumnsAsTheBundle, AReadSentFourTimes}

pub as_many_as_rows : AsManyAsRows
as_many_as_rows ks = telling.length_verdicts [] ks

pub one_for_each_row : OneForEachRow
one_for_each_row = meaning.verdict_there

pub wake_ups : WakeUps
unfolding verdict_after
wake_ups before k w = rw w

pub what_a_heard_row_is : WhatAHeardRowIs
what_a_heard_row_is = meaning.heard_means

pub left_over_is_told : LeftOverIsTold
left_over_is_told before k send since request w h s i r l =
    meaning.heard_means before k w h ∙ ap (λ (x : List Recorded). heard_behind x k) s ∙ rw (i, r, lt-ltb k.time (send_end send) l)

pub counts_as_the_exchange_ends : CountsAsTheExchangeEnds
counts_as_the_exchange_ends = meaning.ends_well_lem

pub counts_for_reads : CountsForReads
counts_for_reads = meaning.numbers_as_judged

pub others_change_no_verdict : OthersChangeNoVerdict
others_change_no_verdict front k later j e = ap (λ (b : Slot). verdict_after b j) (meaning.others_told_not j.position front k later e)

pub columns_as_the_bundle : ColumnsAsTheBundle
columns_as_the_bundle b n bytes = before.kept_as_before b n (byte_at b bytes)

pub a_read_sent_four_times : AReadSentFourTimes
a_read_sent_four_times = example.four_reads_lem
