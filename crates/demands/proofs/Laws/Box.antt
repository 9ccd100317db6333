-- What is said of the resistance box holds of its rules.
use Prim.Native.Nat.{ℕ, ◌+◌, ◌-◌, ◌*◌, ◌≤◌}
use mathlib.Core.Bool.{false, or-true}
use mathlib.Core.Path.{◌≡◌}
use native.Mathlib.Omega.{arith}
use borrow.Author.Tests.{lt-ltb, le-ltb, ltb-false}
use lib.Dec.{ltb}
use lib.ListN.{get_or}
use Rattle.base_rules.specs.Answers.{reads}
use Rattle.base_rules.proofs.Laws.Tests.{passed}
use Rattle.base_numbers.proofs.Laws.Rounding.{nearest_up}
use Rattle.bench_resistance.specs.Resistances.{stored_for, card, line, resistance, resistance_of, hundredths_most, highest, temperature_of}
use Rattle.bench_resistance.proofs.Laws.Card.{card_at}
use Rattle.bench_resistance.proofs.Laws.Lines.{resistance_line}
use Rattle.bench_resistance.proofs.Laws.Answers.{temperature_highest}
use Rattle.demands.specs.Box.{LineBetweenStored, TooHigh, EachResistance, OffTheCard}

pub line_between_stored : LineBetweenStored
line_between_stored degree rest d r =
    let on : resistance (100 * degree + rest) ≡ line (stored_for degree) (stored_for (degree + 1)) rest = resistance_line degree rest r in
    let low : get_or card degree 0 ≡ stored_for degree = card_at degree (omega arith) in
    let high : get_or card (degree + 1) 0 ≡ stored_for (degree + 1) = card_at (degree + 1) (omega arith) in
    let inside : ltb hundredths_most (100 * degree + rest) ≡ false = le-ltb hundredths_most (100 * degree + rest) (omega arith) in
    let told : resistance_of (100 * degree + rest) ≡ reads (line (stored_for degree) (stored_for (degree + 1)) rest) = rw (inside, on) in (
      line (stored_for degree) (stored_for (degree + 1)) rest,
      told,
      rw (low, high) (nearest_up (stored_for degree * (100 - rest) + stored_for (degree + 1) * rest) 100 (omega arith)),
    )

pub too_high : TooHigh
too_high h l = rw (lt-ltb hundredths_most h l)

-- a temperature that is answered is at most 200 °C
answered : (k r : ℕ) → resistance_of k ≡ reads r → (k ≤ hundredths_most) × (resistance k ≡ r)
answered k r e =
    let both = passed 90 (ltb hundredths_most k) (reads (resistance k)) r e in
    (ltb-false hundredths_most k both.0, let s = both.1 in cc)

pub each_resistance : EachResistance
each_resistance milliohm first last =
    let low : ltb milliohm (stored_for 0) ≡ false = le-ltb milliohm (stored_for 0) (rw (card_at 0 (omega arith)) at first) in
    let high : ltb (stored_for 200) milliohm ≡ false = le-ltb (stored_for 200) milliohm (rw (card_at 200 (omega arith)) at last) in
    let told : temperature_of milliohm ≡ reads (highest milliohm hundredths_most) = rw (low, high) in
    let p = temperature_highest milliohm (highest milliohm hundredths_most) told in (
      highest milliohm hundredths_most,
      told,
      p.inside,
      (resistance (highest milliohm hundredths_most), rw (le-ltb hundredths_most (highest milliohm hundredths_most) p.inside), p.«not-above»),
      λ k r e n. let a = answered k r e in p.«none-higher» k a.0 (rw a.1 n),
    )

pub off_the_card : OffTheCard
off_the_card = (
  λ milliohm h. rw (lt-ltb milliohm (stored_for 0) (rw (card_at 0 (omega arith)) at h)),
  λ milliohm h. rw (lt-ltb (stored_for 200) milliohm (rw (card_at 200 (omega arith)) at h), or-true (ltb milliohm (stored_for 0))),
)
