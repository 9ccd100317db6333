-- `mbus_writing::write_line` meets its contract: 20, or what writing the bytes answers.
use borrow.Author.Rules.{rules}
use Prim.Native.Nat.{◌≤◌}
use mathlib.Core.Bool.{false}
use mathlib.Core.Path.{◌≡◌, refl, sym, ◌∙◌}
use native.Mathlib.Omega.{arith}
use lib.ListN.{length}
use lib.Seq.{length-take-le}
use Rattle.mbus_rules.specs.Writing.{longest, unwritable}
use Rattle.mbus_writing.proofs.Laws.Answering.{refused_20, at_most, written}
use Rattle.mbus_writing.proofs.write_line.Goals.{After-bytes-2-1, Else-is_unwritable}
use Rattle.mbus_writing.proofs.write_line.Goals as goal

pub returns-then-is_unwritable : goal.returns-then-is_unwritable
returns-then-is_unwritable c = refused_20 c.args.telegram (sym c.is_unwritable.ensures ∙ c.if-is_unwritable.true)

-- past the first test the telegram can be written
can : (c : Else-is_unwritable) → unwritable c.args.telegram ≡ false
can c = sym c.is_unwritable.ensures ∙ c.if-is_unwritable.false

pub put_bytes-count-requires : goal.put_bytes-count-requires
put_bytes-count-requires c = (can (goal.at.put_bytes-count-requires c).Else-is_unwritable, refl)

-- the line lies within the bytes
fitting : (c : After-bytes-2-1) → c.put_bytes-count.result ≤ length c.put_bytes-count.new.bytes
fitting c =
    let n : length c.put_bytes-count.new.bytes ≡ longest = search rules in
    omega (arith, at_most c.args.telegram (sym c.is_unwritable.ensures ∙ c.if-is_unwritable.false) c.put_bytes-count.ensures)

pub slice_bounds-write_bytes-end : goal.slice_bounds-write_bytes-end
slice_bounds-write_bytes-end c = sym (length-take-le c.put_bytes-count.result c.put_bytes-count.new.bytes (fitting (goal.at.slice_bounds-write_bytes-end c).After-bytes-2-1))

pub returns : goal.returns
returns c =
    written c.args.telegram (can (goal.at.returns c).Else-is_unwritable) c.put_bytes-count.ensures c.write_bytes.ensures
