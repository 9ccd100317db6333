-- `bundle_sweep::moving::move_down` meets its contract: what the library's copy leaves.
use mathlib.Core.Path.{◌∙◌}
use Rattle.bundle_sweep.proofs.Laws.Moving.{moved_copy}
use Rattle.bundle_sweep.proofs.moving.move_down.Goals as goal

pub returns : goal.returns
returns c = let a = c.args in c.copy_within.ensures.after ∙ moved_copy a.bundle.now a.from a.to a.size c.requires.1
