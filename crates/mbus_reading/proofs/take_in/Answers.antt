-- `mbus_reading::take_in` meets its contract: one walk, which stores where there are places enough.
use native.Mathlib.Omega.{arith}
use mathlib.Core.Path.{sym, ◌∙◌}
use Prim.Native.Nat.{◌≤◌, ◌<◌}
use Rattle.std.proofs.Common.{eqb-true}
use Rattle.std.proofs.lemmas.Result.{err_from_is_err_and}
use borrow.Author.Tests.{eqb-false}
use lib.ListN.{length}
use Rattle.mbus_reading.proofs.Laws.TakingLaws.{none_is, far_line, taken_err, taken_ok}
use Rattle.mbus_reading.proofs.take_in.Goals.{Else-is_empty, After-gather-gathering}
use Rattle.mbus_reading.proofs.take_in.Goals as goal

-- there is a character
some : (c : Else-is_empty) → 0 < length c.args.line.now
some c = let h = eqb-false (length c.args.line.now) 0 (sym c.is_empty.ensures ∙ c.if-is_empty.false) in omega (arith, h)

-- there are places enough
room : (c : After-gather-gathering) → length c.args.line.now ≤ length c.write_apart.new.places
room c = omega (arith, c.write_apart.auto, c.requires, c.if-line-gt-MOST.false)

pub returns-then-is_empty : goal.returns-then-is_empty
returns-then-is_empty c = none_is c.args.line.now (eqb-true (length c.args.line.now) 0 (sym c.is_empty.ensures ∙ c.if-is_empty.true))

pub returns-then-line-gt-MOST : goal.returns-then-line-gt-MOST
returns-then-line-gt-MOST c =
    rw c.far_of.ensures (far_line c.args.line.now c.if-line-gt-MOST.true c.soundness_of.ensures c.low_at.ensures)

pub returns-in_err-gathering : goal.returns-in_err-gathering
returns-in_err-gathering c =
    let p = err_from_is_err_and c.from_residual.result c.from_residual.ensures.1 in
    rw (p.1, p.2)
    (taken_err c.args.line.now c.write_apart.new.places _ (room (goal.at.returns-in_err-gathering c).After-gather-gathering)
    c.gather-gathering.ensures.0 c.gather-gathering.ensures.1
    (some (goal.at.returns-in_err-gathering c).Else-is_empty) c.in_err-gathering.was)

pub returns : goal.returns
returns c =
    taken_ok c.args.line.now c.write_apart.new.places _ (room (goal.at.returns c).After-gather-gathering)
    c.gather-gathering.ensures.0 c.gather-gathering.ensures.1
    (some (goal.at.returns c).Else-is_empty) c.in_ok-gathering.was
