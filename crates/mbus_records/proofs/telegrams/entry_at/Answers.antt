-- `mbus_records::telegrams::entry_at` meets its contract.
use Prim.Native.Nat.{ℕ, ◌+◌, ◌-◌}
use mathlib.Core.Path.{◌≡◌, ap, ◌∙◌}
use native.Mathlib.Omega.{arith}
use lib.ListN.{take, drop}
use Rattle.mbus_records.specs.Telegrams.{entry_in}
use Rattle.mbus_records.proofs.telegrams.entry_at.Goals as goal

pub returns : goal.returns
returns c =
    let a = c.args in
    let e : a.at + 16 - a.at ≡ 16 = omega arith in
    c.entry_in.ensures ∙ ap (λ (k : ℕ). entry_in (take k (drop a.at a.b.now))) e
