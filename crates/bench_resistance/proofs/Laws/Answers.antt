-- Laws of the answers: each way out of the two functions.
use Prim.Native.Nat.{ℕ, suc, ◌+◌, ◌*◌, ◌/◌, ◌%◌, ◌<◌, ◌≤◌, zero-le}
use mathlib.Core.Bool.{true, false}
use mathlib.Core.List.{List}
use mathlib.Core.Path.{◌≡◌, refl, sym, ap, ◌∙◌}
use native.Mathlib.Nat.{le_refl}
use native.Mathlib.Omega.{arith}
use borrow.Author.Tests.{ltb-false, le-ltb, lt-ltb}
use lib.Dec.{ltb}
use lib.ListN.{get_or}
use Rattle.base_rules.proofs.Laws.Tests.{neither, passed}
use Rattle.base_rules.specs.Answers.{reads}
use Rattle.bench_resistance.specs.Resistances.{stored_for, card, line, resistance, highest, off_card, hundredths_most, temperature_of}
use Rattle.bench_resistance.proofs.Laws.Card.{card_read}
use Rattle.bench_resistance.proofs.Laws.Lines.{resistance_line, resistance_next, resistance_climbs}
use Rattle.bench_resistance.proofs.Laws.Highest.{Highest, highest_is, highest_only, highest_next}

-- the first answer and the last are stored
pub first_stored : resistance 0 ≡ stored_for 0
unfolding resistance stored_for
first_stored = refl

pub last_stored : resistance hundredths_most ≡ stored_for 200
unfolding resistance stored_for
last_stored = refl

module _ {degrees : List ℕ} (e : degrees ≡ card) where
  -- the answer for a temperature
  pub answer_last : (h : ℕ) → h ≤ hundredths_most → h / 100 ≡ 200 → get_or degrees 200 0 ≡ resistance h
  answer_last h l d =
      let same : h ≡ hundredths_most = omega arith in
      card_read e 200 (omega arith) ∙ sym last_stored ∙ ap resistance (sym same)

  pub answer_between : (h : ℕ) → h / 100 < 200 → line (get_or degrees (h / 100) 0) (get_or degrees (h / 100 + 1) 0) (h % 100) ≡ resistance h
  unfolding resistance
  answer_between h d = rw (card_read e (h / 100) (omega arith), card_read e (h / 100 + 1) (omega arith))

  -- the temperature for a resistance
  pub below_first : {milliohm : ℕ} → milliohm < get_or degrees 0 0 → off_card milliohm ≡ true
  below_first {milliohm} h = rw (lt-ltb milliohm (stored_for 0) (rw (card_read e 0 (omega arith)) at h))

  pub above_last : {milliohm : ℕ} → get_or degrees 0 0 ≤ milliohm → get_or degrees 200 0 < milliohm → off_card milliohm ≡ true
  above_last {milliohm} l h =
      rw (le-ltb milliohm (stored_for 0) (rw (card_read e 0 (omega arith)) at l), lt-ltb (stored_for 200) milliohm (rw (card_read e 200 (omega arith)) at h))

  pub on_card : {milliohm : ℕ} → get_or degrees 0 0 ≤ milliohm → milliohm ≤ get_or degrees 200 0 → off_card milliohm ≡ false
  on_card {milliohm} l h =
      rw (le-ltb milliohm (stored_for 0) (rw (card_read e 0 (omega arith)) at l), le-ltb (stored_for 200) milliohm (rw (card_read e 200 (omega arith)) at h))

module _ (milliohm : ℕ) (inside : off_card milliohm ≡ false) where
  both : (ltb milliohm (stored_for 0) ≡ false) × (ltb (stored_for 200) milliohm ≡ false)
  both = neither (ltb milliohm (stored_for 0)) (ltb (stored_for 200) milliohm) inside

  pub from_first : stored_for 0 ≤ milliohm
  from_first = ltb-false milliohm (stored_for 0) both.0

  pub temperature_at : (h : ℕ) → h ≤ hundredths_most → resistance h ≤ milliohm → (h < hundredths_most → milliohm < resistance (suc h))
      → highest milliohm hundredths_most ≡ h
  temperature_at h l n above = highest_only (rw first_stored from_first) (highest_next milliohm h l n above)

  pub temperature_last : stored_for 200 ≤ milliohm → temperature_of milliohm ≡ reads hundredths_most
  temperature_last n =
      rw inside (ap reads (temperature_at hundredths_most (le_refl hundredths_most) (rw last_stored n) (λ l. absurd (omega arith))))

  pub temperature_between : (degree rest : ℕ) → degree < 200 → rest < 100
      → line (stored_for degree) (stored_for (degree + 1)) rest ≤ milliohm → milliohm < line (stored_for degree) (stored_for (degree + 1)) (rest + 1)
      → temperature_of milliohm ≡ reads (100 * degree + rest)
  temperature_between degree rest d r n above =
      let here : resistance (100 * degree + rest) ≡ line (stored_for degree) (stored_for (degree + 1)) rest = resistance_line degree rest (omega arith) in
      let next = resistance_line degree (rest + 1) (omega arith) in
      let on : suc (100 * degree + rest) ≡ 100 * degree + (rest + 1) = omega arith in
      rw inside (ap reads (temperature_at (100 * degree + rest) (omega arith) (rw here n) (λ l. rw (on, next) above)))

  pub temperature_read : {degrees : List ℕ} → degrees ≡ card → (degree rest : ℕ) → degree < 200 → rest < 100
      → line (get_or degrees degree 0) (get_or degrees (degree + 1) 0) rest ≤ milliohm
      → milliohm < line (get_or degrees degree 0) (get_or degrees (degree + 1) 0) (rest + 1)
      → temperature_of milliohm ≡ reads (100 * degree + rest)
  temperature_read {degrees} e degree rest d r n above =
      let low : get_or degrees degree 0 ≡ stored_for degree = card_read e degree (omega arith) in
      let high : get_or degrees (degree + 1) 0 ≡ stored_for (degree + 1) = card_read e (degree + 1) (omega arith) in
      temperature_between degree rest d r (rw (low, high) at n) (rw (low, high) at above)

-- a temperature's resistance gives it back
pub temperature_back : (h : ℕ) → h ≤ hundredths_most → temperature_of (resistance h) ≡ reads h
temperature_back h l =
    let first : stored_for 0 ≤ resistance h = rw (← first_stored) (resistance_climbs 0 h zero-le l) in
    let last : resistance h ≤ stored_for 200 = rw (← last_stored) (resistance_climbs h hundredths_most l (le_refl hundredths_most)) in
    let inside : off_card (resistance h) ≡ false = rw (le-ltb (resistance h) (stored_for 0) first, le-ltb (stored_for 200) (resistance h) last) in
    let next : h < hundredths_most → resistance h < resistance (suc h) = λ m. resistance_next h m in
    rw inside (ap reads (temperature_at (resistance h) inside h l (le_refl (resistance h)) next))

-- what is answered is the highest hundredth whose answer is not above
pub temperature_highest : (milliohm h : ℕ) → temperature_of milliohm ≡ reads h → Highest milliohm hundredths_most h
temperature_highest milliohm h e =
    let both = passed 91 (off_card milliohm) (reads (highest milliohm hundredths_most)) h e in
    let same : highest milliohm hundredths_most ≡ h = let r = both.1 in cc in
    rw same at (highest_is milliohm hundredths_most (rw first_stored (from_first milliohm both.0)))
