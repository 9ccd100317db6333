-- The picture of a run: where each row is drawn, in which lane, and that the picture of every accepted bundle is given.
use Rattle.std.specs.Prelude.{ℕ, zero, suc, ◌+◌, ◌-◌, ◌*◌, ◌%◌, ◌≤◌, ◌<◌, max, cond, List, [], ◌∷◌, ◌++◌, ◌≡◌, eqb, ltb, length, get_or, take}
use Rattle.base_rules.specs.Answers.{reads}
use Rattle.base_rules.specs.Lists.{any}
use Rattle.base_rules.specs.Bytes.{Bytes}
use Rattle.base_lent.specs.Pieces.{pieces}
use Rattle.base_characters.specs.Characters.{chars}
use Rattle.text_filling.specs.Texts.{text}
use Rattle.text_filling.specs.Decimals.{decimal}
use Rattle.bundle_check.specs.Bundles.{check_of}
use Rattle.bundle_check.specs.Records.{Recorded, records_of, blank_record}
use Rattle.run_counting.specs.Counting.{is_sent, kept_if}
use Rattle.run_verdicts.specs.declared.Verdict.TheVariants.{First, Damaged, Unasked}
use Rattle.run_verdicts.specs.Verdicts.{verdicts_of}
use Rattle.run_verdicts.specs.Example.{asked_fe, said_ack, at7}
use Rattle.run_picture.specs.Timing.{pace_at}
use Rattle.run_picture.specs.Pages.{page_of}
use Rattle.run_picture.specs.Elements.{lane_text, row_drawn}
use Rattle.run_picture.specs.Pictures.{Inside, picture_of}
use Rattle.host_picture.specs.Pictured.{DrawsIn}

-- ---- where a row is drawn

-- row i of a bundle
abbrev pub row_no : List ℕ → ℕ → Recorded
row_no b i = get_or (records_of b) i blank_record

-- where its box begins, in bit times
abbrev pub box_at : List ℕ → ℕ → ℕ
box_at b i = (pace_at (records_of b) (i + 1)).start

-- Until when something was sent, heard or waited for: to the end of each line, 11 bit times for each character, and 450 behind it for a reply.
abbrev pub busy_until : List Recorded → ℕ
busy_until [] = 0
busy_until (k ∷ ks) = max (k.time + 11 * length (chars k.body) + 450) (busy_until ks)

-- the pause before row i, in which nothing was
abbrev pub pause_before : List ℕ → ℕ → ℕ
pause_before b i = (row_no b i).time - busy_until (take i (records_of b))

-- A pause under 360 bit times is drawn as long as it was; of a longer one 120 stay, and what is over whole tenths of a second.
abbrev pub drawn_pause : ℕ → ℕ
drawn_pause pause = cond (ltb pause 360) pause (120 + (pause - 120) % 240)

-- The first row stands behind what is drawn of the pause before it, which begins at time 0.
abbrev pub FirstRowDrawn : Type 0
FirstRowDrawn = (b : List ℕ) (n : ℕ) → check_of b ≡ reads n → 0 < n → box_at b 0 ≡ drawn_pause (row_no b 0).time

-- Each other row stands as far behind the one before it as it was later, with what is drawn of the pause before it in the place of that pause.
abbrev pub NextRowDrawn : Type 0
NextRowDrawn =
    (b : List ℕ) (n i : ℕ) → check_of b ≡ reads n → i + 1 < n
    → box_at b (i + 1) + pause_before b (i + 1) + (row_no b i).time ≡ box_at b i + drawn_pause (pause_before b (i + 1)) + (row_no b (i + 1)).time

-- A later row is not further left.
abbrev pub LaterNotFurtherLeft : Type 0
LaterNotFurtherLeft = (b : List ℕ) (n i j : ℕ) → check_of b ≡ reads n → i ≤ j → j < n → box_at b i ≤ box_at b j

-- Within a stretch without a cut distances are true.
abbrev pub DistancesTrue : Type 0
DistancesTrue =
    (b : List ℕ) (n i j : ℕ) → check_of b ≡ reads n → i ≤ j → j < n → ((k : ℕ) → i < k → k ≤ j → pause_before b k < 360)
    → box_at b j + (row_no b i).time ≡ box_at b i + (row_no b j).time

-- ---- in which lane

-- what is drawn for row i, with its verdict and at its place
abbrev pub drawing : List ℕ → ℕ → List ℕ
drawing b i = row_drawn (row_no b i) (get_or (verdicts_of (records_of b)) i Unasked) (box_at b i)

-- the numbers of the rows of a position, of rows from number i on
abbrev pub rows_at : ℕ → ℕ → List Recorded → List ℕ
rows_at position i [] = []
rows_at position i (k ∷ ks) = kept_if (eqb k.position position) i (rows_at position (i + 1) ks)

-- how many of so many positions from 1 on have rows
abbrev pub lanes_up_to : List Recorded → ℕ → ℕ
lanes_up_to ks zero = 0
lanes_up_to ks (suc n) = lanes_up_to ks n + cond (any (λ k. eqb k.position (1 + n)) ks) 1 0

-- where the lane of a position begins: 96 px from above, and 24 for each lower position that has rows
abbrev pub lane_top : List Recorded → ℕ → ℕ
lane_top ks position = 96 + 24 * lanes_up_to ks (position - 1)

-- What opens a lane: its position on both sides of it, the line above it, and a box of 24 px from its top on, as wide as the page, in which x is told in
-- bit times of the run.
abbrev pub LaneOpened : Type 0
LaneOpened =
    (ks : List Recorded) (y position : ℕ)
    → lane_text (page_of ks) y position
    ≡ text "<text x='50' y='" ++ (decimal (y + 16) ++ (text "' text-anchor='end'>" ++ (decimal position
    ++ (text "</text><text x='" ++ (decimal (page_of ks).right ++ (text "' y='" ++ (decimal (y + 16) ++ (text "'>" ++ (decimal position
    ++ (text "</text><path class='grid' d='M60 " ++ (decimal y ++ (text "h" ++ (decimal (page_of ks).wide
    ++ (text "'/>\n<svg x='60' y='" ++ (decimal y ++ (text "' width='" ++ (decimal (page_of ks).wide
    ++ (text "' height='24' viewBox='0 0 " ++ (decimal (page_of ks).span ++ text " 24' preserveAspectRatio='none'>\n")))))))))))))))))))

-- the lane of a position: what opens it, the rows of that position and nothing else, and its end
abbrev pub lane_of : List ℕ → ℕ → List ℕ
lane_of b position =
    lane_text (page_of (records_of b)) (lane_top (records_of b) position) position
    ++ (pieces (drawing b) (rows_at position 0 (records_of b)) ++ text "</svg>\n")

-- A row stands in the lane of its position, and a lane has the rows of its position and no others.
abbrev pub RowInItsLane : Type 0
RowInItsLane = (b : List ℕ) (n i : ℕ) → check_of b ≡ reads n → i < n → Inside (lane_of b (row_no b i).position) (picture_of b)

-- A first send of five characters at 345: the window of its reply from its end on, its colour and words, and its box.
abbrev pub SendDrawn : Type 0
SendDrawn =
    row_drawn (at7 0 100 asked_fe) First 345
    ≡ pieces text
    ("<rect class='window' x='400' y='1' width='450' height='22'/>\n"
    ∷ "<g class='first'><title>first send: position 7, sent at 100, read</title><rect x='345' y='3' width='55' height='8'/></g>\n"
    ∷ [])

-- A row heard, at 612: it has no window, and its box stands in the lower half.
abbrev pub HeardDrawn : Type 0
HeardDrawn =
    row_drawn (at7 1 1100 said_ack) (Damaged 3) 612
    ≡ text "<g class='damaged'><title>damaged, 3: position 7, heard at 1100, ack</title><rect x='612' y='13' width='11' height='8'/></g>\n"

-- the box of a row: from its place on, 11 bit times wide for each character; what was sent above, what was heard below
abbrev pub box_of : List ℕ → ℕ → List ℕ
box_of b i =
    text "<rect x='"
    ++ (decimal (box_at b i)
    ++ (cond (is_sent (row_no b i)) (text "' y='3' width='") (text "' y='13' width='")
    ++ (decimal (11 * length (chars (row_no b i).body)) ++ text "' height='8'/></g>\n")))

-- What is drawn for a row has its box, at its place.
abbrev pub BoxAtItsPlace : Type 0
BoxAtItsPlace = (b : List ℕ) (i : ℕ) → Inside (box_of b i) (drawing b i)

-- ---- when it is given

-- No picture of an accepted bundle has more bytes than SKARROWITH_PICTURE_MOST.
abbrev pub PictureNeverLonger : Type 0
PictureNeverLonger = (b : List ℕ) (n : ℕ) → Bytes b → check_of b ≡ reads n → length (picture_of b) ≤ 262144

-- The picture of every accepted bundle is given where there is room for it: 0, its length, and it stands in the first places.
abbrev pub PictureGiven : Type 0
PictureGiven =
    (b out : List ℕ) (n written r : ℕ) (out' : List ℕ) (written' : ℕ) → check_of b ≡ reads n → length (picture_of b) ≤ length out
    → DrawsIn b out written r out' written' → (r ≡ 0) × (written' ≡ length (picture_of b)) × (take written' out' ≡ picture_of b)

-- And so it is given wherever there are SKARROWITH_PICTURE_MOST bytes.
abbrev pub PictureAlwaysGiven : Type 0
PictureAlwaysGiven =
    (b out : List ℕ) (n written r : ℕ) (out' : List ℕ) (written' : ℕ) → Bytes b → check_of b ≡ reads n → 262144 ≤ length out
    → DrawsIn b out written r out' written' → (r ≡ 0) × (written' ≡ length (picture_of b)) × (take written' out' ≡ picture_of b)
