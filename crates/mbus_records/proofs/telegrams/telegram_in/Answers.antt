-- `mbus_records::telegrams::telegram_in` meets its contract.
use native.Mathlib.Omega.{arith}
use lib.ListN.{drop, length-drop}
use lib.Seq.{take_all}
use Rattle.mbus_records.specs.Telegrams.{telegram_in}
use Rattle.mbus_records.proofs.telegrams.telegram_in.Goals as goal

pub returns : goal.returns
unfolding telegram_in
returns c =
    let b = c.args.b.now in
    rw (
      c.entries_in-entries.ensures,
      c.number_at-count.ensures.so,
      c.header_in-header.ensures,
      c.kind_in-kind.ensures,
      take_all 112 (drop 24 b)
          (omega (arith, length-drop 24 b, c.requires)),
    )
