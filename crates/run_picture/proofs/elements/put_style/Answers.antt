-- `run_picture::elements::put_style` meets its contract.
use Rattle.run_picture.specs.Elements.{style_text}
use Rattle.run_picture.proofs.elements.put_style.Goals as goal

pub returns : goal.returns
unfolding style_text
returns c = c.put.ensures
