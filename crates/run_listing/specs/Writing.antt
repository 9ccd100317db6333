-- Lines held by value, and bytes laid behind a text.
use Rattle.std.specs.Prelude.{ℕ, ◌≤◌, List, ◌≡◌, length, take}
use Rattle.run_listing.specs.declared.texts.Line.{Line}

-- the text that a line holds
abbrev pub line_text : Line → List ℕ
line_text l = take l.size l.bytes

-- A line holds a text of at most so many bytes.
pub record Holds (most : ℕ) (l : Line) (t : List ℕ) : Type 0 where
  pub small : l.size ≤ most
  pub whole : length l.bytes ≡ 48
  pub so : line_text l ≡ t
