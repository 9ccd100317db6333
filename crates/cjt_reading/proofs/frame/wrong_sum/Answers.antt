-- `cjt_reading::frame::wrong_sum` meets its contract: the sum of all bytes tells it.
use Rattle.std.proofs.Common.{◌-◌, length, refl, arith}
use Rattle.cjt_reading.proofs.Laws.FrameLaws.{frame_least, sum_told}
use Rattle.cjt_reading.proofs.frame.wrong_sum.Goals as goal

pub overflow_sub-own : goal.overflow_sub-own
overflow_sub-own c = omega (arith, frame_least c.args.b.now c.requires.1)

pub bounds-b-b : goal.bounds-b-b
bounds-b-b c = omega (arith, frame_least c.args.b.now c.requires.1)

pub returns : goal.returns
returns c =
    let b = c.args.b.now in
    rw (c.wrapping_add_u8-whole.ensures.value, c.wrapping_add_u8-twice.ensures.value)
    (sum_told b c.requires.1 c.requires.0 refl (omega
    (arith, c.type_inv.b (length b - 2))))
