-- `run_listing::texts::begin` meets its contract.
use mathlib.Core.Path.{◌≡◌, ◌∙◌}
use native.Mathlib.Omega.{arith}
use Rattle.run_listing.proofs.texts.begin.Goals as goal

pub returns : goal.returns
returns c =
    let none : c.blank.result.size ≡ 0 = omega arith in
    record { small = omega arith; whole = c.with.ensures.whole; so = c.with.ensures.so ∙ rw none }
