-- The picture of a run: where it stands, and that every row is drawn in it.
use Rattle.std.specs.Prelude.{ℕ, Ok, ◌≤◌, ◌<◌, List, ◌≡◌, length, get_or, take, drop}
use Rattle.base_rules.specs.Answers.{reads}
use Rattle.bundle_check.specs.Bundles.{check_of}
use Rattle.bundle_check.specs.Records.{records_of, blank_record}
use Rattle.bundle_check.specs.Walks.{end_of}
use Rattle.run_verdicts.specs.declared.Verdict.TheVariants.{Unasked}
use Rattle.run_verdicts.specs.Verdicts.{verdicts_of}
use Rattle.run_picture.specs.Timing.{paced, unpaced}
use Rattle.run_picture.specs.Elements.{row_drawn}
use Rattle.run_picture.specs.Pictures.{Inside, picture_of}
use Rattle.run_picture.specs.Shown.{Draws}

-- What is written never exceeds the room: the picture stands in the first places, and what is behind it is as it was.
abbrev pub PictureInItsRoom : Type 0
PictureInItsRoom =
    (b out : List ℕ) (n : ℕ) (after : List ℕ) → Draws b out (Ok n) after
    → (n ≡ length (picture_of b)) × (n ≤ length out) × (take n after ≡ picture_of b) × (drop n after ≡ drop n out)

-- Every row of an accepted bundle is drawn, in the colour of its verdict, where the rows up to it say, and as long as its line took (`row_drawn`).
abbrev pub EveryRowDrawn : Type 0
EveryRowDrawn =
    (b : List ℕ) (n i : ℕ) → check_of b ≡ reads n → i < n
    → Inside (row_drawn (get_or (records_of b) i blank_record) (get_or (verdicts_of (records_of b)) i Unasked)
    (paced (end_of paced unpaced (take i (records_of b))) (get_or (records_of b) i blank_record)).start) (picture_of b)
