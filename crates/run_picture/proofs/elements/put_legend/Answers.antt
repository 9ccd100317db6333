-- `run_picture::elements::put_legend` meets its contract.
use Rattle.run_picture.specs.Elements.{legend_text}
use Rattle.run_picture.proofs.elements.put_legend.Goals as goal

pub returns : goal.returns
unfolding legend_text
returns c = c.put.ensures
