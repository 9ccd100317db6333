-- Proofs of the statements of specs/WrongEnds.
use Prim.Native.Nat.{ℕ}
use native.Mathlib.Omega.{arith}
use mathlib.Core.Bool.{false}
use mathlib.Core.List.{List}
use mathlib.Core.Logic.{⊎_elim}
use mathlib.Core.Path.{◌≡◌, refl, ap}
use lib.Count.{ones_in}
use lib.Dec.{lit<, lit≤}
use Rattle.base_rules.specs.Answers.{within}
use Rattle.base_rules.specs.Lists.{any, total}
use Rattle.base_characters.specs.Characters.{odd, carrier}
use Rattle.base_characters.specs.Flips.{flip_bit, flips, outside, repeated}
use Rattle.mbus_rules.specs.Lines.{read_body, read_line}
use Rattle.mbus_rules.specs.Writing.{line_of}
use Rattle.exchange_steps.specs.declared.Cause.TheVariants.{Silent}
use Rattle.meter_steps.specs.declared.Core.{Core}
use Rattle.meter_steps.specs.declared.Mode.{Mode}
use Rattle.meter_steps.specs.declared.Mode.TheVariants.{Use, Verifying}
use Rattle.both_ends.specs.Line.{happens, happened, alone}
use Rattle.both_ends.specs.Hypotheses.{UpToThree}
use Rattle.exchange_steps.specs.Values.{clock_at}
use Rattle.both_ends.specs.Turning.{meter_with, one_flip, at_once, entered_twice, damaged_thrice, damaged_at_once, acked_second, lost_and_ticked}
use Rattle.demands.proofs.Laws.Runs.{no_flips}
use Rattle.demands.specs.WrongEnds.{RepeatedEnterClears, DamagedLinePutsOff, DamagedLineAcked, LeaveWithoutLeaving, ResendChangesRequest, TickEndsWell}

one_flip_lem : (line : List ℕ) → any (outside line) one_flip ≡ false → UpToThree line one_flip
unfolding any repeated
one_flip_lem line inside = record { few = lit≤ tt; places = record { within = inside; different = refl } }

-- the method, or 0 in use
method_in : Mode → ℕ
method_in Use = 0
method_in (Verifying s since) = s

pub repeated_enter_clears : RepeatedEnterClears
unfolding happened happens read_line read_body any odd ones_in total carrier line_of flips flip_bit
repeated_enter_clears e =
    let r = e 0xFE 0x90 (lit< tt) refl (clock_at 0) (clock_at 700) (lit< tt) (meter_with Use) (lit≤ tt) entered_twice
    (lit≤ tt, (lit≤ tt, (lit≤ tt, (lit≤ tt, (lit≤ tt, (lit≤ tt, lit≤ tt))))))
    (no_flips _, (tt, (tt, (tt, (tt, (no_flips _, tt)))))) in
    omega (arith, r.once)

pub damaged_line_puts_off : DamagedLinePutsOff
unfolding happened happens alone read_line read_body any odd ones_in total carrier line_of flips flip_bit method_in
damaged_line_puts_off e =
    let r = e 0xFE 0x90 (lit< tt) refl (clock_at 4319000) (clock_at 4320551) (lit< tt) (meter_with (Verifying 0x91 (clock_at 0))) (lit≤ tt)
    damaged_thrice
    (lit≤ tt, (lit≤ tt, (lit≤ tt, (lit≤ tt, (lit≤ tt, (lit≤ tt, (lit≤ tt, (lit≤ tt, lit≤ tt))))))))
    (one_flip_lem _ refl, (tt, (tt, (one_flip_lem _ refl, (tt, (tt, (one_flip_lem _ refl, (tt, tt)))))))) in
    ⊎_elim (λ done. omega (arith, ap method_in done.1)) (λ alike. omega (arith, ap (λ (c : Core). method_in c.mode) alike)) (r.badly Silent refl)

pub damaged_line_acked : DamagedLineAcked
unfolding happened happens read_line read_body any odd ones_in total carrier line_of flips flip_bit method_in
damaged_line_acked e =
    let r = e 0xFE 0x90 (lit< tt) refl (clock_at 0) (clock_at 300) (lit< tt) (meter_with Use) (lit≤ tt) damaged_at_once
    (lit≤ tt, (lit≤ tt, lit≤ tt)) (one_flip_lem _ refl, (tt, tt)) in
    omega (arith, ap method_in (r.well refl).1)

pub leave_without_leaving : LeaveWithoutLeaving
unfolding happened happens read_line read_body any odd ones_in total carrier line_of flips flip_bit method_in
leave_without_leaving e =
    let r = e 5 (lit< tt) (clock_at 0) (clock_at 300) (lit< tt) (meter_with (Verifying 0x91 (clock_at 0))) (lit≤ tt) at_once
    (lit≤ tt, (lit≤ tt, lit≤ tt)) (no_flips _, (tt, tt)) in
    omega (arith, ap method_in (r.well refl))

pub resend_changes_request : ResendChangesRequest
unfolding happened happens read_line read_body any odd ones_in total carrier line_of flips flip_bit method_in
resend_changes_request e =
    let r = e 0xFE 0x90 (lit< tt) refl (clock_at 0) (clock_at 800) (lit< tt) (meter_with Use) (lit≤ tt) acked_second
    (lit≤ tt, (lit≤ tt, (lit≤ tt, (lit≤ tt, (lit≤ tt, lit≤ tt))))) (no_flips _, (tt, (tt, (no_flips _, (tt, tt))))) in
    omega (arith, ap method_in (r.well refl).1)

pub tick_ends_well : TickEndsWell
unfolding happened happens read_line read_body any odd ones_in total carrier line_of flips flip_bit method_in
tick_ends_well e =
    let r = e 0xFE 0x90 (lit< tt) refl (clock_at 0) (clock_at 451) (lit< tt) (meter_with Use) (lit≤ tt) lost_and_ticked
    (lit≤ tt, (lit≤ tt, lit≤ tt)) (tt, (tt, tt)) in
    omega (arith, ap method_in (r.well refl).1)
