-- `bundle_adding::placing::place_behind` meets its contract: the loop goes down from the last row.
use Rattle.bundle_adding.proofs.Laws.InsertingLaws.{Looking}
use Rattle.bundle_adding.proofs.placing.place_behind.Given as goal

abbrev pub invariant-loop-place : goal.invariant-loop-place
invariant-loop-place l = Looking l.bundle.bytes.now l.bundle.count l.time l.place
