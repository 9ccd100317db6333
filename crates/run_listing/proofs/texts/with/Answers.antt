-- `run_listing::texts::with` meets its contract: the bytes are put behind the text.
use native.Mathlib.Omega.{arith}
use borrow.Author.Rules.{rules}
use Rattle.run_listing.proofs.Laws.Writing.{take_copied}
use lib.ListN.{length}
use mathlib.Core.Path.{◌≡◌}
use Rattle.run_listing.proofs.texts.with.Goals as goal

pub returns : goal.returns
returns c =
    let h : 48 ≡ length c.args.line.bytes = search rules in let a =
    c.args in record {
      small = omega arith;
      whole = search rules;
      so =
          rw c.lay.ensures (take_copied a.line.bytes a.line.size a.bytes.now (omega arith));
    }
