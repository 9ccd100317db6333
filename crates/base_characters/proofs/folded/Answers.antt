-- `base_characters::folded` meets its contract.
use Rattle.std.proofs.Common.{arith}
use Rattle.base_characters.proofs.Laws.FlagLaws.{flagged_one}
use Rattle.base_characters.proofs.folded.Goals as goal

pub returns : goal.returns
returns c = flagged_one c.args.c (omega arith)
