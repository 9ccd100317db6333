-- A point in time both ways, in six bytes.
use Prim.Native.Nat.{ℕ, ◌+◌, ◌*◌, ◌/◌, ◌%◌, ◌<◌, ◌≤◌}
use mathlib.Core.Bool.{true, false, not, ◌&&◌, ◌||◌}
use mathlib.Core.List.{List, [], ◌∷◌}
use mathlib.Core.Path.{◌≡◌, sym, ap, ◌∙◌}
use native.Mathlib.Omega.{arith}
use borrow.Author.Tests.{ltb-true, ltb-false, leb-true, le-ltb, lt-ltb, not-false}
use lib.Dec.{ltb, leb}
use lib.ListN.{length}
use Rattle.mbus_rules.specs.declared.Moment.{Moment}
use Rattle.base_rules.specs.Lists.{at}
use Rattle.mbus_rules.specs.Moments.{moment_of, spare_bits, date_exists, time_exists, weekday_exists, wrong_moment}
use Rattle.base_calendar.specs.Months.{days_in}
use Rattle.mbus_rules.specs.Writing.{moment_bytes}
use Rattle.base_rules.proofs.Laws.TestLaws.{none, every}
use Rattle.base_rules.specs.Bytes.{Bytes}
use Rattle.base_rules.proofs.Laws.ByteLaws.{byte_at, spell_whole}
use Rattle.base_calendar.proofs.Laws.Months.{days_below}

-- ---- from bytes to a point in time and back

pub record MomentRead (b : List ℕ) : Type 0 where
  pub back : moment_bytes (moment_of b) ≡ b
  pub date : date_exists (moment_of b) ≡ true
  pub hour : time_exists (moment_of b) ≡ true
  pub weekday : weekday_exists (moment_of b) ≡ true

pub moment_read : (b : List ℕ) → length b ≡ 6 → Bytes b → wrong_moment b ≡ false → MomentRead b
unfolding wrong_moment
moment_read b e bytes h =
    let k = none (ltb 63 (at b 0)) (ltb 63 (at b 1) ∷ ltb 0 (at b 5) ∷ not (date_exists (moment_of b)) ∷ not (time_exists (moment_of b)) ∷ [])
    h in
    let b₂ : at b 2 < 256 = byte_at b bytes 2 in
    let b₃ : at b 3 < 256 = byte_at b bytes 3 in
    let q₀ : at b 0 % 64 ≡ at b 0 = omega (arith, ltb-false) in
    let q₁ : at b 1 % 64 ≡ at b 1 = omega (arith, ltb-false) in
    let q₂ : 32 * (at b 2 / 32) + at b 2 % 32 ≡ at b 2 = omega arith in
    let q₃ : 32 * ((at b 4 / 16 * 8 + at b 3 / 32) % 8) + at b 3 % 32 ≡ at b 3 = omega arith in
    let q₄ : 16 * ((at b 4 / 16 * 8 + at b 3 / 32) / 8) + at b 4 % 16 ≡ at b 4 = omega arith in
    let q₅ : 0 ≡ at b 5 = omega (arith, ltb-false) in
    record {
      back = sym (spell_whole 6 b e ∙ rw (q₀, q₁, q₂, q₃, q₄, ← q₅));
      date = not-false (date_exists (moment_of b)) k.1.1.1.0;
      hour = not-false (time_exists (moment_of b)) k.1.1.1.1.0;
      weekday = lt-ltb (at b 2 / 32) 8 (omega arith);
    }

-- no rule asks for the weekday in bits 5–7 of the third byte
pub weekday_unasked : (d b₁ b₂ hour b₄ b₅ b₆ : ℕ)
    → wrong_moment (b₁ ∷ b₂ ∷ (32 * d + hour) ∷ b₄ ∷ b₅ ∷ b₆ ∷ []) ≡ wrong_moment (b₁ ∷ b₂ ∷ hour ∷ b₄ ∷ b₅ ∷ b₆ ∷ [])
unfolding wrong_moment
weekday_unasked d b₁ b₂ hour b₄ b₅ b₆ =
    let low : (32 * d + hour) % 32 ≡ hour % 32 = omega arith in
    rw low

-- ---- from a point in time to bytes and back

-- what the rules say of the numbers of a point in time
pub record Exists (m : Moment) : Type 0 where
  pub year : m.year < 100
  pub month : m.month < 13
  pub day : m.day ≤ 31
  pub hour : m.hour < 24
  pub minute : m.minute < 60
  pub second : m.second < 60

pub moment_exists : (m : Moment) → date_exists m ≡ true → time_exists m ≡ true → Exists m
moment_exists m d h =
    let most : days_in (2000 + m.year) m.month ≤ 31 = days_below (2000 + m.year) m.month in
    let k = every (ltb m.year 100) ((ltb 0 m.month && ltb m.month 13) ∷ (ltb 0 m.day && leb m.day (days_in (2000 + m.year) m.month)) ∷ [])
    d in
    let month = every (ltb 0 m.month) (ltb m.month 13 ∷ []) k.1.0 in
    let day = every (ltb 0 m.day) (leb m.day (days_in (2000 + m.year) m.month) ∷ []) k.1.1.0 in
    let clock = every (ltb m.second 60) (ltb m.minute 60 ∷ ltb m.hour 24 ∷ []) h in
    omega (arith, ltb-true, leb-true)

-- the six bytes of a point in time that exists
pub record MomentWritten (m : Moment) : Type 0 where
  pub back : moment_of (moment_bytes m) ≡ m
  pub right : wrong_moment (moment_bytes m) ≡ false
  pub bytes : Bytes (moment_bytes m)

pub moment_written : (m : Moment) → date_exists m ≡ true → time_exists m ≡ true → weekday_exists m ≡ true → MomentWritten m
unfolding wrong_moment
moment_written m d h w =
    let x : Exists m = moment_exists m d h in
    let few : m.weekday < 8 = ltb-true m.weekday 8 w in
    let year : (16 * (m.year / 8) + m.month) / 16 * 8 + (32 * (m.year % 8) + m.day) / 32 ≡ m.year = omega arith in
    let month : (16 * (m.year / 8) + m.month) % 16 ≡ m.month = omega arith in
    let day : (32 * (m.year % 8) + m.day) % 32 ≡ m.day = omega arith in
    let hour : (32 * m.weekday + m.hour) % 32 ≡ m.hour = omega arith in
    let weekday : (32 * m.weekday + m.hour) / 32 ≡ m.weekday = omega arith in
    let minute : m.minute % 64 ≡ m.minute = omega arith in
    let second : m.second % 64 ≡ m.second = omega arith in
    let back : moment_of (moment_bytes m) ≡ m = λ i. record {
      year = year i;
      month = month i;
      day = day i;
      hour = hour i;
      minute = minute i;
      second = second i;
      weekday = weekday i;
    } in
    let spare : spare_bits (moment_bytes m) ≡ false =
    rw (le-ltb 63 m.second (omega arith), le-ltb 63 m.minute (omega arith)) in
    record {
      back = back;
      right = ap (λ (n : Moment). spare_bits (moment_bytes m) || not (date_exists n) || not (time_exists n)) back ∙ rw (spare, d, h);
      bytes = omega arith;
    }
