-- `bundle_columns::scanning::has` meets its contract: the loop gathers over the block.
use Rattle.base_rules.proofs.Laws.ListLaws.{Gathered}
use Rattle.bundle_columns.specs.Lookups.{is_position}
use Rattle.bundle_columns.proofs.scanning.has.Given as goal

abbrev pub invariant-loop-own : goal.invariant-loop-own
invariant-loop-own l = Gathered (is_position l.position) l.block l.own-index l.found
