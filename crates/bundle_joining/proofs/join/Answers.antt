-- `bundle_joining::join` meets its contract: by the first bundle's refusal, by the second's, or joined.
use Rattle.std.proofs.Common.{rules}
use Rattle.bundle_joining.specs.Joining.{join_of}
use Rattle.bundle_joining.proofs.join.Goals as goal

pub returns-in_err-in_a : goal.returns-in_err-in_a
unfolding join_of
returns-in_err-in_a c = search rules

pub returns-in_err-in_b : goal.returns-in_err-in_b
unfolding join_of
returns-in_err-in_b c = search rules
