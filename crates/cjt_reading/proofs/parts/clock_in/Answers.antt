-- `cjt_reading::parts::clock_in` meets its contract, byte by byte.
use Rattle.std.proofs.Common.{arith}
use Rattle.cjt_reading.proofs.Laws.PartLaws.{clock_at}
use Rattle.cjt_reading.proofs.parts.clock_in.Goals as goal

pub returns : goal.returns
returns c =
    let s = c.args.d.now in
    rw (
      c.four_digits-year.ensures,
      c.byte_at-7.ensures,
      c.byte_at-6.ensures,
      c.two_digits-month.ensures,
      c.byte_at-5.ensures,
      c.two_digits-day.ensures,
      c.byte_at-4.ensures,
      c.two_digits-hour.ensures,
      c.byte_at-3.ensures,
      c.two_digits-minute.ensures,
      c.byte_at-2.ensures,
      c.two_digits-second.ensures,
      c.byte_at.ensures,
      clock_at s 0 (omega arith),
      clock_at s 1 (omega arith),
      clock_at s 2 (omega arith),
      clock_at s 3 (omega arith),
      clock_at s 4 (omega arith),
      clock_at s 5 (omega arith),
      clock_at s 6 (omega arith),
    )
