-- 01, "The run bundle", its last paragraph: the listing of a bundle.
use Rattle.std.specs.Prelude.{ℕ, cond, List, [], ◌∷◌, ◌++◌, eqb}
use Rattle.base_rules.specs.Answers.{Answer, reads, refusal}
use Rattle.mbus_rules.specs.declared.Request.TheVariants.{Read, Enter, Leave}
use Rattle.mbus_rules.specs.declared.Outline.{Outline}
use Rattle.mbus_rules.specs.declared.Outline.TheVariants.{Refused, Ack, Asks, Data}
use Rattle.run_listing.specs.declared.line_column.Column.{Column}
use Rattle.run_listing.specs.declared.line_column.Column.TheVariants.{Wake, Reads}
use Rattle.run_listing.specs.LineColumn.{column_of}
use Rattle.bundle_rows.specs.declared.Row.{Row}
use Rattle.bundle_rows.specs.Rows.{body_in}
use Rattle.base_characters.specs.Characters.{chars}
use Rattle.bundle_check.specs.Bundles.{contents_of, check_of}
use Rattle.text_filling.specs.Texts.{text}
use Rattle.text_filling.specs.Decimals.{decimal}

-- or, say, refused 3
abbrev pub refused_text : ℕ → List ℕ
refused_text n = text "refused " ++ decimal n

-- the word for what reading answers
abbrev pub word_for : Outline → List ℕ
word_for (Refused n) = refused_text n
word_for Ack = text "ack"
word_for (Asks (Read a)) = text "read"
word_for (Asks (Enter a s)) = text "enter"
word_for (Asks (Leave a)) = text "leave"
word_for (Data a) = text "data"

abbrev pub column_text : Column → List ℕ
column_text Wake = text "wake"
column_text (Reads outline) = word_for outline

-- the line column
unfoldable pub word_of : List ℕ → List ℕ
word_of line = column_text (column_of line)

-- direction 0 sent or 1 heard
abbrev pub direction_text : ℕ → List ℕ
direction_text direction = cond (eqb direction 0) (text "sent") (text "heard")

-- position,direction,time,line and a line feed
unfoldable pub row_text : ℕ → ℕ → ℕ → List ℕ → List ℕ
row_text position direction time word =
    decimal position ++ (text "," ++ (direction_text direction ++ (text "," ++ (decimal time ++ (text "," ++ (word ++ text "\n"))))))

abbrev pub line_for : List ℕ → Row → List ℕ
line_for b r = row_text r.position r.direction r.time (word_of (chars (body_in b r)))

-- the rows in order
unfoldable pub lines_for : List ℕ → List Row → List ℕ
lines_for b [] = []
lines_for b (r ∷ rows) = line_for b r ++ lines_for b rows

-- its first line is always this text
abbrev pub first_line : List ℕ
first_line = text "position,direction,time,line\n"

-- The whole listing: the first line and a line for each row; where the bundle is refused, "refused 31" (or its number) is all.
abbrev pub listed : List ℕ → Answer ℕ → List ℕ
listed b (refusal n) = refused_text n ++ text "\n"
listed b (reads n) = first_line ++ lines_for b (contents_of b)

unfoldable pub listing_of : List ℕ → List ℕ
listing_of b = listed b (check_of b)
