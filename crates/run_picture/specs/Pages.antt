-- How large a picture is: the scale, and a lane for each position that has rows.
use Rattle.std.specs.Prelude.{ℕ, zero, suc, ◌+◌, ◌*◌, ◌/◌, ◌≤◌, ◌<◌, max, Bool, false, cond, ◌||◌, List, [], ◌∷◌, ◌≡◌, eqb, ltb, length, get_or}
use Rattle.bundle_check.specs.Records.{Recorded}
use Rattle.bundle_check.specs.Walks.{end_of}
use Rattle.run_counting.specs.Counting.{kept_if}
use Rattle.run_picture.specs.declared.page.Page.{Page}
use Rattle.run_picture.specs.declared.page.Plan.{Plan}
use Rattle.run_picture.specs.Timing.{paced, unpaced, drawn_end, Placed}

-- a position has rows
unfoldable pub has_rows : ℕ → List Recorded → Bool
has_rows position [] = false
has_rows position (k ∷ ks) = eqb k.position position || has_rows position ks

-- of so many positions from one on, those that have rows
unfoldable pub used_from : List Recorded → ℕ → ℕ → List ℕ
used_from ks zero position = []
used_from ks (suc n) position = kept_if (has_rows position ks) position (used_from ks n (position + 1))

-- position 1–48
abbrev pub used_positions : List Recorded → List ℕ
used_positions ks = used_from ks 48 1

-- whether each position has rows, in its place
pub record Used (ks : List Recorded) (used : List Bool) : Type 0 where
  pub places : length used ≡ 49
  pub so : (p : ℕ) → p < 49 → get_or used p false ≡ has_rows p ks

-- The bit times of a px: the least of these with which what happened is under 30,000 px wide, and 200 at most.
abbrev pub scale_for : ℕ → ℕ
scale_for end = cond (ltb end 600000) 20 (cond (ltb end 1500000) 50 (cond (ltb end 3000000) 100 200))

-- Fields of 240 px, at least five, so that there is room for the legend.
abbrev pub fields_for : ℕ → ℕ → ℕ
fields_for scale end = max 5 (end / (240 * scale) + 1)

-- The sizes of a picture: 60 px on both sides of the lanes, 96 above them and 16 below.
abbrev pub page_with : ℕ → ℕ → ℕ → ℕ → Page
page_with rows lanes scale fields = record {
  rows = rows;
  lanes = lanes;
  scale = scale;
  fields = fields;
  step = 240 * scale;
  wide = 240 * fields;
  right = 240 * fields + 70;
  width = 240 * fields + 120;
  bottom = 24 * lanes + 96;
  height = 24 * lanes + 112;
  span = 240 * scale * fields;
}

abbrev pub page_for : ℕ → ℕ → ℕ → Page
page_for rows lanes end = page_with rows lanes (scale_for end) (fields_for (scale_for end) end)

unfoldable pub page_of : List Recorded → Page
page_of ks = page_for (length ks) (length (used_positions ks)) (drawn_end (end_of paced unpaced ks))

-- No picture is larger than this asks for.
pub record Bounded (p : Page) : Type 0 where
  pub step : p.step ≤ 48000
  pub fields : p.fields ≤ 8589934597
  pub lanes : p.lanes ≤ 48

-- What the rows ask for: the sizes, the positions that have rows, and where each row is drawn.
pub record Planned (ks : List Recorded) (r : Plan) (drawn : List ℕ) : Type 0 where
  pub page : r.page ≡ page_of ks
  pub bounded : Bounded r.page
  pub used : Used ks r.used
  pub starts : Placed ks drawn
