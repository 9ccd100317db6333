-- Laws of `specs/Wakes`.
use Prim.Native.Nat.{◌%◌}
use mathlib.Core.Path.{◌≡◌, refl}
use lib.Count.{ones_in}
use Rattle.bench_clock.specs.Wakes.{wake_character}

-- Laws: the nine bits of the wake-up's character have even parity.
wake_parity : ones_in 9 wake_character % 2 ≡ 0
unfolding ones_in
wake_parity = refl
