-- Laws of `specs/Gaps`.
use Prim.Native.Nat.{ℕ, ◌-◌, ◌≤◌, ◌<◌}
use mathlib.Core.Path.{◌≡◌, refl, sym}
use mathlib.Core.Bool.{Bool, true, false, ◌||◌}
use native.Mathlib.Omega.{arith}
use lib.Dec.{ltb}
use borrow.Author.Tests.{lt-ltb, le-ltb, ltb-true}
use Rattle.base_rules.specs.Answers.{reads, refusal}
use Rattle.bench_clock.specs.Times.{gap_least, gap_most}
use Rattle.bench_clock.specs.Gaps.{gap_of}

-- Laws: what each gap is answered.
module _ (ended begins : ℕ) where
  -- a command before the wake-up's end begins 0 after it
  early : (ltb begins ended || ltb (begins - ended) gap_least) ≡ ltb (begins - ended) gap_least
  early = go (ltb begins ended) refl
    where
      go : (t : Bool) → ltb begins ended ≡ t → (t || ltb (begins - ended) gap_least) ≡ ltb (begins - ended) gap_least
      go true e = sym (lt-ltb (begins - ended) gap_least (omega (arith, ltb-true begins ended e)))
      go false e = refl

  pub gap_short : begins - ended < gap_least → gap_of ended begins ≡ refusal 50
  gap_short h = rw (early, lt-ltb (begins - ended) gap_least h)

  pub gap_long : gap_most < begins - ended → gap_of ended begins ≡ refusal 51
  gap_long h = rw (early, le-ltb (begins - ended) gap_least (omega arith), lt-ltb gap_most (begins - ended) h)

  pub gap_fine : gap_least ≤ begins - ended → begins - ended ≤ gap_most → gap_of ended begins ≡ reads tt
  gap_fine h k = rw (early, le-ltb (begins - ended) gap_least h, le-ltb gap_most (begins - ended) k)
