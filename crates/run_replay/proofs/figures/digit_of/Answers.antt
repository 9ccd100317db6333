-- `run_replay::figures::digit_of` meets its contract: the power of the unit byte and that of a cubic metre.
use Prim.Native.Nat.{◌*◌, ◌%◌, ◌-◌, ◌^◌}
use mathlib.Core.Path.{◌≡◌, sym, ◌∙◌}
use lib.Pow.{pow-add}
use Rattle.mbus_rules.specs.Quantities.{row_of}
use Rattle.run_replay.proofs.figures.digit_of.Goals as goal

pub returns : goal.returns
returns c =
    let u = c.args.unit in
    let powers : c.ten_to.result * c.ten_to-2.result ≡ 10 ^ (u % (row_of u).divisor) * 10 ^ (6 - (row_of u).less) =
    rw (c.ten_to.ensures, c.ten_to-2.ensures, c.row_of-row.ensures) in
    powers ∙ sym (pow-add 10 (u % (row_of u).divisor) (6 - (row_of u).less))
