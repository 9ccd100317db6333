-- Laws of `specs/Times`.
use Prim.Native.Nat.{ℕ, ◌+◌, ◌-◌, ◌≤◌, ◌<◌}
use mathlib.Core.Path.{◌≡◌}
use mathlib.Core.Bool.{true, false}
use native.Mathlib.Omega.{arith}
use borrow.Author.Tests.{lt-ltb, le-ltb, le-leb, lt-leb, ltb-true, ltb-false, leb-true, leb-false}
use Rattle.bench_clock.specs.Times.{reply_time, return_time, late, due}

-- Laws: each test and the order that it stands for, both ways; a later time stays late and due.
pub late_true : (sent t : ℕ) → late sent t ≡ true → sent + reply_time < t
late_true sent t e = omega (arith, ltb-true reply_time (t - sent) e)

pub late_false : (sent t : ℕ) → late sent t ≡ false → t ≤ sent + reply_time
late_false sent t e = omega (arith, ltb-false reply_time (t - sent) e)

pub lt_late : (sent t : ℕ) → sent + reply_time < t → late sent t ≡ true
lt_late sent t h = lt-ltb reply_time (t - sent) (omega arith)

pub le_late : (sent t : ℕ) → t ≤ sent + reply_time → late sent t ≡ false
le_late sent t h = le-ltb reply_time (t - sent) (omega arith)

pub late_later : (sent t u : ℕ) → t ≤ u → late sent t ≡ true → late sent u ≡ true
late_later sent t u h e = lt_late sent u (omega (arith, late_true sent t e))

pub due_true : (last t : ℕ) → due last t ≡ true → last + return_time ≤ t
due_true last t e = omega (arith, leb-true return_time (t - last) e)

pub due_false : (last t : ℕ) → due last t ≡ false → t < last + return_time
due_false last t e = omega (arith, leb-false return_time (t - last) e)

pub le_due : (last t : ℕ) → last + return_time ≤ t → due last t ≡ true
le_due last t h = le-leb return_time (t - last) (omega arith)

pub lt_due : (last t : ℕ) → t < last + return_time → due last t ≡ false
lt_due last t h = lt-leb return_time (t - last) (omega arith)

pub due_later : (last t u : ℕ) → t ≤ u → due last t ≡ true → due last u ≡ true
due_later last t u h e = le_due last u (omega (arith, due_true last t e))
