-- `mbus_either::part_of` meets its contract.
use mathlib.Core.Path.{refl}
use native.Mathlib.Nat.{add-sub_cancel_left}
use native.Mathlib.Omega.{arith}
use Rattle.mbus_either.proofs.part_of.Goals as goal

pub returns : goal.returns
returns c = record {
  characters = rw (add-sub_cancel_left c.args.spot.place c.args.spot.length);
  block = refl;
  place = omega arith;
}
