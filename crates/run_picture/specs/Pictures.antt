-- The picture of a run: time to the right and a lane for each position.
use Rattle.std.specs.Prelude.{ℕ, zero, suc, ◌+◌, cond, ◌≡◌, List, [], ◌∷◌, ◌++◌, eqb, get_or}
use Rattle.text_filling.specs.Texts.{text}
use Rattle.bundle_check.specs.Records.{Recorded, records_of}
use Rattle.run_verdicts.specs.declared.Verdict.{Verdict}
use Rattle.run_verdicts.specs.declared.Verdict.TheVariants.{Unasked}
use Rattle.run_verdicts.specs.Verdicts.{verdicts_of}
use Rattle.run_picture.specs.declared.pace.Pace.{Pace}
use Rattle.run_picture.specs.declared.page.Page.{Page}
use Rattle.run_picture.specs.Timing.{paced, unpaced, cut_at}
use Rattle.run_picture.specs.Pages.{used_positions, page_of}
use Rattle.run_picture.specs.Elements.{style_text, legend_text, opens_text, title_text, mark_text, pauses_open_text, pause_text, lane_text, row_drawn}

abbrev pub head_text : Page → List ℕ
head_text p = opens_text p ++ (style_text ++ (title_text p ++ legend_text))

-- the pauses before rows
unfoldable pub pauses_drawn : Pace → List Recorded → List ℕ
pauses_drawn s [] = []
pauses_drawn s (k ∷ ks) = pause_text s (paced s k) k.time ++ pauses_drawn (paced s k) ks

-- so many marks, the first at x px and at a place of the picture; each says the time there
unfoldable pub marks_drawn : Page → List Recorded → ℕ → ℕ → ℕ → List ℕ
marks_drawn p ks zero x place = []
marks_drawn p ks (suc n) x place =
    mark_text p.bottom x (place + cut_at place unpaced ks) ++ marks_drawn p ks n (x + 240) (place + p.step)

-- of rows from number i on, those of a position, each where its pace says
unfoldable pub rows_drawn : ℕ → List Verdict → Pace → ℕ → List Recorded → List ℕ
rows_drawn position vs s i [] = []
rows_drawn position vs s i (k ∷ ks) =
    cond (eqb k.position position) (row_drawn k (get_or vs i Unasked) (paced s k).start) [] ++ rows_drawn position vs (paced s k) (i + 1) ks

-- a lane at y, with the rows of its position
unfoldable pub lane_drawn : Page → List Verdict → List Recorded → ℕ → ℕ → List ℕ
lane_drawn p vs ks y position = lane_text p y position ++ (rows_drawn position vs unpaced 0 ks ++ text "</svg>\n")

-- a lane for each of some positions, 24 px high, the first at y
unfoldable pub lanes_drawn : Page → List Verdict → List Recorded → ℕ → List ℕ → List ℕ
lanes_drawn p vs ks y [] = []
lanes_drawn p vs ks y (position ∷ more) =
    lane_drawn p vs ks y position ++ lanes_drawn p vs ks (y + 24) more

-- The head, the pauses, a mark at each end of a field, and the lanes.
unfoldable pub picture_with : Page → List Verdict → List Recorded → List ℕ
picture_with p vs ks =
    head_text p
    ++ ((pauses_open_text p ++ (pauses_drawn unpaced ks ++ text "</svg>\n"))
    ++ (marks_drawn p ks (p.fields + 1) 60 0
    ++ (lanes_drawn p vs ks 96 (used_positions ks) ++ text "</svg>\n")))

-- A text stands in another.
pub record Inside (s whole : List ℕ) : Type 0 where
  pub front : List ℕ
  pub back : List ℕ
  pub so : whole ≡ front ++ (s ++ back)

-- The picture of what a bundle holds, each row with its verdict.
unfoldable pub picture_of : List ℕ → List ℕ
picture_of b = picture_with (page_of (records_of b)) (verdicts_of (records_of b)) (records_of b)
