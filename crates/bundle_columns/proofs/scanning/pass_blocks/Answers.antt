-- `bundle_columns::scanning::pass_blocks` meets its contract: the loop passes over blocks without the position.
use mathlib.Core.Path.{sym, ◌∙◌}
use Rattle.bundle_columns.proofs.Laws.Scanning.{passed_none, passed_block}
use Rattle.bundle_columns.proofs.scanning.pass_blocks.Goals as goal

pub loop-i-init : goal.loop-i-init
loop-i-init c = passed_none c.requires.0

pub returns-then-here : goal.returns-then-here
returns-then-here c =
    c.loop-i.invariant

pub loop-i-preserved : goal.loop-i-preserved
loop-i-preserved c =
    passed_block c.loop-i.invariant c.args.size
    c.loop-i-test.true (sym c.has-here.ensures ∙ c.if-here.false)

pub returns : goal.returns
returns c = c.loop-i.invariant
