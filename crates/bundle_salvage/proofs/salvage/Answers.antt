-- `bundle_salvage::salvage` meets its contract: 30 to 33 of the contents, and else the rows.
use Rattle.std.proofs.Common.{rules}
use Rattle.bundle_salvage.specs.Salvaging.{salvage_of}
use Rattle.bundle_salvage.proofs.salvage.Goals as goal

pub returns-in_err-count : goal.returns-in_err-count
unfolding salvage_of
returns-in_err-count c = search rules
