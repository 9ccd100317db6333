-- `run_counting::ear::opened_after` meets its contract.
use Rattle.base_characters.proofs.Laws.PairLaws.{length_characters}
use Rattle.run_counting.proofs.ear.opened_after.Goals as goal

pub returns : goal.returns
returns c = rw (length_characters c.args.body.now, c.opened.ensures, c.outline_of.ensures)
