-- Proofs of the statements of specs/Weekdays.
use Prim.Native.Nat.{◌+◌, ◌*◌, ◌/◌, ◌%◌}
use mathlib.Core.Bool.{false, not}
use mathlib.Core.List.{[], ◌∷◌}
use mathlib.Core.Path.{◌≡◌, refl, sym, ap, ◌∙◌}
use native.Mathlib.Omega.{arith}
use borrow.Author.Tests.{lt-ltb, ltb-true, not-false}
use lib.Count.{ones_in}
use lib.Dec.{ltb}
use lib.ListN.{get_or}
use Rattle.mbus_rules.specs.declared.Value.TheVariants.{Time}
use Rattle.base_rules.specs.Lists.{any, total}
use Rattle.base_characters.specs.Characters.{odd, carrier}
use Rattle.base_digits.specs.Digits.{digits_of}
use Rattle.mbus_rules.specs.Signs.{minus}
use Rattle.mbus_rules.specs.Moments.{date_exists, time_exists, weekday_exists, wrong_moment}
use Rattle.mbus_rules.specs.Headers.{wrong_header}
use Rattle.mbus_rules.specs.Quantities.{quantity_of, width_of, paired, is_time}
use Rattle.mbus_rules.specs.Entries.{read_entries}
use Rattle.mbus_rules.specs.Lines.{read_body, read_line}
use Rattle.mbus_rules.specs.Writing.{wrong_value, wrong_entry, wrong_data, entries_of}
use Rattle.mbus_rules.proofs.Laws.LineLaws.{GoodData, good_data}
use Rattle.mbus_rules.proofs.Laws.MomentLaws.{weekday_unasked}
use Rattle.base_rules.proofs.Laws.Tests.{neither, none_at}
use Rattle.base_rules.proofs.Laws.TestLaws.{none}
use Rattle.demands.specs.Weekdays.{NotAskedBy13, BitsAreWeekday, AnyWeekdayWritten, WeekdaysWritten, WeekdaysRead}

pub not_asked_by_13 : NotAskedBy13
not_asked_by_13 = weekday_unasked

pub bits_are_weekday : BitsAreWeekday
bits_are_weekday d b₁ b₂ hour b₄ b₅ b₆ h =
    let low : (32 * d + hour) % 32 ≡ hour % 32 = omega arith in
    let high : (32 * d + hour) / 32 ≡ d = omega arith in
    rw (low, high)

pub any_weekday_written : AnyWeekdayWritten
any_weekday_written st unit d m h e =
    let k = none (not (is_time unit)) (not (date_exists m) ∷ not (time_exists m) ∷ not (weekday_exists m) ∷ []) e in
    rw (k.0, k.1.0, k.1.1.0, lt-ltb d 8 h)

pub weekdays_written : WeekdaysWritten
weekdays_written t e i m w h v =
    let x = get_or (entries_of t) i e in
    let k = none (ltb 0 t.method) (wrong_data t ∷ []) w in
    let g : GoodData t = good_data t k.1.0 in
    let right : wrong_entry x ≡ false = none_at wrong_entry (entries_of t) e i g.good.right h in
    let value : wrong_value x.structure x.unit (Time m) ≡ false =
    ap (wrong_value x.structure x.unit) (sym v)
    ∙ (neither (not (paired x.structure x.unit)) (wrong_value x.structure x.unit x.value) right).1 in
    let n = none (not (is_time x.unit)) (not (date_exists m) ∷ not (time_exists m) ∷ not (weekday_exists m) ∷ []) value in
    ltb-true m.weekday 8 (not-false (weekday_exists m) n.1.1.1.0)

pub weekdays_read : WeekdaysRead
unfolding read_line read_body read_entries any total odd carrier ones_in wrong_header digits_of minus wrong_moment quantity_of width_of paired
weekdays_read = (refl, (refl, (refl, (refl, (refl, (refl, (refl, (refl, tt))))))))
