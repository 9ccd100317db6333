-- Proofs of the statements of specs/Picture.
use Rattle.run_picture.proofs.Laws.Meaning as meaning
use Rattle.demands.specs.Picture.{PictureInItsRoom, EveryRowDrawn}

pub picture_in_its_room : PictureInItsRoom
picture_in_its_room b out n after = meaning.picture_stands b out

pub every_row_drawn : EveryRowDrawn
every_row_drawn = meaning.row_inside
