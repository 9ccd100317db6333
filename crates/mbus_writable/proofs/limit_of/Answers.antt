-- `mbus_writable::limit_of` meets its contract: a hundred to the eighth has room.
use Rattle.std.proofs.Common.{◌^◌, ◌≤◌, arith}
use native.Mathlib.Nat.{pow-le-pow_right}
use Rattle.mbus_writable.proofs.limit_of.Goals as goal

pub pow-requires : goal.pow-requires
pow-requires c =
    let most : 100 ^ c.args.width ≤ 100 ^ 8 = pow-le-pow_right (omega arith) c.requires in
    omega (arith, most)
