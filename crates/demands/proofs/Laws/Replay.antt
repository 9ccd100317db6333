-- Proofs of the statements of specs/Replay.
use Prim.Native.Nat.{ℕ}
use mathlib.Core.Bool.{Bool, true, false, cond, not, ◌&&◌, false≢true}
use mathlib.Core.Path.{◌≡◌, refl, ap}
use borrow.Author.Tests.{eqb-true, eq-eqb}
use lib.Dec.{eqb}
use lib.IntN.{ℤ, pos, negsuc, nat_abs, ◌+ℤ◌}
use Rattle.mbus_rules.specs.Quantities.{quantity_of, power_of, volume}
use Rattle.base_numbers.specs.TwosComplement.{below_zero}
use Rattle.base_rules.proofs.Laws.Tests.{below}
use Rattle.bench_indication.specs.Errors.{tenths}
use Rattle.run_counting.proofs.Laws.Exchanges as exchanges
use Rattle.run_counting.proofs.Laws.Numbering as numbering
use Rattle.run_counting.proofs.Laws.Others as others
use Rattle.run_counting.proofs.Laws.Meaning as meaning
use Rattle.run_calendar.specs.Days.{year_days, month_days, interval}
use Rattle.run_calendar.proofs.Laws.NextDay as days
use Rattle.run_replay.specs.Figures.{millilitre_power}
use Rattle.run_replay.specs.Errors.{error_of_figures}
use Rattle.run_replay.proofs.Laws.Figuring as figuring
use Rattle.run_replay.proofs.Laws.Replaying as replaying
use Rattle.demands.specs.Replay.{CountsAsTheExchange, WhatCounts, LeftOverNeverCounts, EverySuchRowCounts, NumbersOfTheAnswers, OthersNotLookedAt}
use Rattle.demands.specs.Replay.{OthersChangeNothing, SameRowsSameReplay, DaysByTheCalendar, WholeMillilitres, FirstAndLast, ErrorIsNearest}
use Rattle.demands.specs.Replay.{ReplayValues, IntervalValues}

pub counts_as_the_exchange : CountsAsTheExchange
counts_as_the_exchange = exchanges.counted_as

pub what_counts : WhatCounts
what_counts = meaning.counted_means

pub left_over_never_counts : LeftOverNeverCounts
left_over_never_counts = meaning.left_over

pub every_such_row_counts : EverySuchRowCounts
every_such_row_counts = meaning.means_counted

pub numbers_of_the_answers : NumbersOfTheAnswers
numbers_of_the_answers = numbering.rows_are

pub others_not_looked_at : OthersNotLookedAt
others_not_looked_at = meaning.not_looked

pub others_change_nothing : OthersChangeNothing
others_change_nothing = others.row_left_out

pub same_rows_same_replay : SameRowsSameReplay
same_rows_same_replay = replaying.same_replay

pub days_by_the_calendar : DaysByTheCalendar
days_by_the_calendar = (days.first_day, days.next_in_month, days.next_month, days.next_year)

-- Six more than the power of ten of a unit byte of a volume, a millilitre being a millionth of a m³, is never below zero: a whole number of
-- millilitres.
whole_from : (z : ℤ) (n : ℕ) → (not (below_zero z) && eqb (nat_abs z) n) ≡ true → z ≡ pos n
whole_from (pos m) n e = ap pos (eqb-true m n e)
whole_from (negsuc m) n e = absurd (false≢true e)

pub whole_millilitres : WholeMillilitres
unfolding power_of quantity_of
whole_millilitres u h v =
    let whole : ℕ → Bool = λ k. not (below_zero (power_of k +ℤ pos 6)) && eqb (nat_abs (power_of k +ℤ pos 6)) (millilitre_power k) in
    whole_from (power_of u +ℤ pos 6) (millilitre_power u)
    (rw (eq-eqb (quantity_of u) volume v) at (below 256 (λ k. cond (eqb (quantity_of k) volume) (whole k) true) refl u h))

pub first_and_last : FirstAndLast
first_and_last = replaying.replay_between

pub error_is_nearest : ErrorIsNearest
error_is_nearest = figuring.error_nearest

pub replay_values : ReplayValues
unfolding error_of_figures tenths
replay_values = (refl, refl, refl, refl, refl, refl, refl, refl, refl, refl, refl)

pub interval_values : IntervalValues
unfolding interval year_days month_days
interval_values = (refl, refl, refl, refl, refl)
