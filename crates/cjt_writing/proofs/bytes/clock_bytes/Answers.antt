-- `cjt_writing::bytes::clock_bytes` meets its contract.
use Rattle.base_digits.specs.Digits.{packed}
use Rattle.cjt_writing.proofs.bytes.clock_bytes.Goals as goal

pub returns : goal.returns
unfolding packed
returns c =
    rw (
      c.packed_digits.ensures,
      c.two_digits-month.ensures,
      c.two_digits-day.ensures,
      c.two_digits-hour.ensures,
      c.two_digits-minute.ensures,
      c.two_digits-second.ensures,
    )
