-- `text_words::say_row` meets its contract.
use borrow.Author.Tests.{eq-eqb, ne_eqb}
use mathlib.Core.Path.{sym}
use native.Mathlib.Omega.{arith}
use Rattle.text_words.proofs.Laws.Rows.{Located, size_in, size_small, row_missing, row_said}
use Rattle.text_words.proofs.say_row.Goals.{After-row_size-size}
use Rattle.text_words.proofs.say_row.Goals as goal

-- the row that the two searches found
located : (c : After-row_size-size)
    → Located c.args.words.now c.args.n
    c.row_start-from.result c.row_size-size.result
located c = record { from = c.row_start-from.ensures.1; inside = c.row_size-size.ensures.0; found = c.row_size-size.ensures.1 }

pub returns-then-none : goal.returns-then-none
returns-then-none c =
    rw c.told.ensures (row_missing (located (goal.at.returns-then-none c).After-row_size-size) c.args.out.now (eq-eqb _ _ c.if-none.true))

pub slice_bounds-say-end : goal.slice_bounds-say-end
slice_bounds-say-end c = sym (size_in (located (goal.at.slice_bounds-say-end c).After-row_size-size))

pub say-requires : goal.say-requires
say-requires c = omega (arith, size_in (located (goal.at.say-requires c).After-row_size-size), size_small (located (goal.at.say-requires c).After-row_size-size))

pub returns : goal.returns
returns c =
    row_said (located (goal.at.returns c).After-row_size-size) (ne_eqb _ _ c.if-none.false)
    c.say.ensures
