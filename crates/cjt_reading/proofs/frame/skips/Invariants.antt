-- `cjt_reading::frame::skips` meets its contract: what is left to be skipped is what there was.
use Rattle.std.proofs.Common.{◌-◌}
use Rattle.cjt_reading.proofs.Laws.SkipLaws.{Skipping}
use Rattle.cjt_reading.proofs.frame.skips.Given as goal

abbrev pub invariant-loop-n : goal.invariant-loop-n
invariant-loop-n l = Skipping l.bytes l.n

abbrev pub decreases-loop-n : goal.decreases-loop-n
decreases-loop-n l = 5 - l.n
