-- The elements of a picture, as SVG text; each % is a number.
use Rattle.std.specs.Prelude.{ℕ, ◌+◌, ◌-◌, ◌/◌, ◌%◌, cond, ◌||◌, List, [], ◌∷◌, ◌++◌, eqb, ltb}
use Rattle.text_filling.specs.Texts.{text}
use Rattle.base_lent.specs.Pieces.{pieces}
use Rattle.text_filling.specs.Holes.{filled_with}
use Rattle.text_stretches.specs.Between.{between, pair_between}
use Rattle.base_characters.specs.Characters.{chars}
use Rattle.bundle_check.specs.Records.{Recorded}
use Rattle.run_listing.specs.Listings.{word_of}
use Rattle.run_verdicts.specs.declared.Verdict.{Verdict}
use Rattle.run_verdicts.specs.declared.Verdict.TheVariants.{Wake, First, Resend, Refused, Counts, LeftOver, Late, Second, Damaged, WrongKind, Unasked}
use Rattle.run_picture.specs.declared.pace.Pace.{Pace}
use Rattle.run_picture.specs.declared.page.Page.{Page}
use Rattle.run_picture.specs.declared.elements.Wording.{Wording}
use Rattle.run_picture.specs.Timing.{line_time}

-- The colour of each verdict, of a reply window and of a pause.
unfoldable pub style_text : List ℕ
style_text =
    pieces text
    ("<style>\n"
    ∷ "text{font:12px sans-serif;fill:#222}\n"
    ∷ "rect{vector-effect:non-scaling-stroke}\n"
    ∷ ".title{font-size:16px}\n"
    ∷ ".grid{stroke:#ddd}\n"
    ∷ ".pause{fill:#e8e8e8}\n"
    ∷ ".window{fill:#fc3;fill-opacity:.45;pointer-events:none}\n"
    ∷ ".wake{fill:#999;stroke:#999}\n"
    ∷ ".first{fill:#0072b2;stroke:#0072b2}\n"
    ∷ ".resend{fill:#56b4e9;stroke:#56b4e9}\n"
    ∷ ".refused{fill:#000;stroke:#000}\n"
    ∷ ".counts{fill:#009e73;stroke:#009e73}\n"
    ∷ ".left-over{fill:#d42020;stroke:#d42020}\n"
    ∷ ".late{fill:#e69f00;stroke:#e69f00}\n"
    ∷ ".second{fill:#f0e442;stroke:#a89c00}\n"
    ∷ ".damaged{fill:#cc79a7;stroke:#cc79a7}\n"
    ∷ ".wrong-kind{fill:#6a3d9a;stroke:#6a3d9a}\n"
    ∷ ".unasked{fill:#fff;stroke:#000}\n"
    ∷ "</style>\n"
    ∷ [])

-- What each colour says, on two lines.
unfoldable pub legend_text : List ℕ
legend_text =
    pieces text
    ("<text x='60' y='46'>sent</text>\n"
    ∷ "<rect class='wake' x='110' y='36' width='24' height='10'/><text x='140' y='46'>wake-up</text>\n"
    ∷ "<rect class='first' x='230' y='36' width='24' height='10'/><text x='260' y='46'>first send</text>\n"
    ∷ "<rect class='resend' x='350' y='36' width='24' height='10'/><text x='380' y='46'>resend</text>\n"
    ∷ "<rect class='refused' x='470' y='36' width='24' height='10'/><text x='500' y='46'>refused</text>\n"
    ∷ "<rect class='window' x='590' y='36' width='24' height='10'/><text x='620' y='46'>reply window</text>\n"
    ∷ "<rect class='pause' x='710' y='36' width='24' height='10'/><text x='740' y='46'>pause, cut short</text>\n"
    ∷ "<text x='60' y='64'>heard</text>\n"
    ∷ "<rect class='counts' x='110' y='54' width='24' height='10'/><text x='140' y='64'>counts</text>\n"
    ∷ "<rect class='left-over' x='230' y='54' width='24' height='10'/><text x='260' y='64'>left over</text>\n"
    ∷ "<rect class='late' x='350' y='54' width='24' height='10'/><text x='380' y='64'>late</text>\n"
    ∷ "<rect class='second' x='470' y='54' width='24' height='10'/><text x='500' y='64'>second</text>\n"
    ∷ "<rect class='damaged' x='590' y='54' width='24' height='10'/><text x='620' y='64'>damaged</text>\n"
    ∷ "<rect class='wrong-kind' x='710' y='54' width='24' height='10'/><text x='740' y='64'>wrong kind</text>\n"
    ∷ "<rect class='unasked' x='830' y='54' width='24' height='10'/><text x='860' y='64'>not asked for</text>\n"
    ∷ [])

-- The whole is so wide and so high.
abbrev pub opens_text : Page → List ℕ
opens_text p = filled_with (text "<svg xmlns='http://www.w3.org/2000/svg' width='%' height='%'>\n") (p.width ∷ p.height ∷ [])

-- A white ground, and how much there is to see; a mark every so many seconds, with a tenth.
abbrev pub title_text : Page → List ℕ
title_text p =
    filled_with
    (pieces text
    ("<rect width='%' height='%' fill='#fff'/>\n"
    ∷ "<text class='title' x='60' y='22'>Rows: %, positions: %, a mark every %.% s</text>\n"
    ∷ []))
    (p.width ∷ p.height ∷ p.rows ∷ p.lanes ∷ (p.scale / 10) ∷ (p.scale % 10) ∷ [])

-- A mark at x px, for the time t, in seconds and a tenth.
abbrev pub mark_text : ℕ → ℕ → ℕ → List ℕ
mark_text bottom x t =
    filled_with (text "<path class='grid' d='M% 90V%'/><text x='%' y='86' text-anchor='middle'>%.% s</text>\n")
    (x ∷ bottom ∷ x ∷ (t / 2400) ∷ (t % 2400 / 240) ∷ [])

-- Behind all lanes, the pauses: the bit times that are shown are the width.
abbrev pub pauses_open_text : Page → List ℕ
pauses_open_text p =
    filled_with (text "<svg x='60' y='96' width='%' height='%' viewBox='0 0 % 1' preserveAspectRatio='none'>\n") (p.wide ∷ (p.bottom - 96) ∷ p.span ∷ [])

-- A pause that is cut short before a row that begins at t: from where it is drawn, and as wide as it is drawn.
abbrev pub pause_text : Pace → Pace → ℕ → List ℕ
pause_text before after t =
    let x = before.busy - before.cut in
    cond (ltb before.cut after.cut)
    (filled_with (text "<rect class='pause' x='%' width='%' height='1'><title>nothing from % to %</title></rect>\n")
    (x ∷ (after.start - x) ∷ before.busy ∷ t ∷ []))
    []

-- A lane: its position on both sides, a line above it, and the bit times that it shows as its width.
abbrev pub lane_text : Page → ℕ → ℕ → List ℕ
lane_text p y position =
    filled_with
    (pieces text
    ("<text x='50' y='%' text-anchor='end'>%</text><text x='%' y='%'>%</text><path class='grid' d='M60 %h%'/>\n"
    ∷ "<svg x='60' y='%' width='%' height='24' viewBox='0 0 % 24' preserveAspectRatio='none'>\n"
    ∷ []))
    ((y + 16) ∷ position ∷ p.right ∷ (y + 16) ∷ position ∷ y ∷ p.wide ∷ y ∷ p.wide ∷ p.span ∷ [])

-- The colour of a row and the first words of its hover text; behind a send that ends at a place, the window for its reply.
abbrev pub verdict_text : Verdict → ℕ → List ℕ
verdict_text Wake end = text "<g class='wake'><title>wake-up: "
verdict_text First end =
    between (text "<rect class='window' x='") end (text "' y='1' width='450' height='22'/>\n<g class='first'><title>first send: ")
verdict_text Resend end =
    between (text "<rect class='window' x='") end (text "' y='1' width='450' height='22'/>\n<g class='resend'><title>resend: ")
verdict_text (Refused n) end = between (text "<g class='refused'><title>refused by ") n (text ": ")
verdict_text Counts end = text "<g class='counts'><title>counts: "
verdict_text LeftOver end = text "<g class='left-over'><title>left over: "
verdict_text Late end = text "<g class='late'><title>late: "
verdict_text Second end = text "<g class='second'><title>second: "
verdict_text (Damaged n) end = between (text "<g class='damaged'><title>damaged, ") n (text ": ")
verdict_text WrongKind end = text "<g class='wrong-kind'><title>wrong kind: "
verdict_text Unasked end = text "<g class='unasked'><title>not asked for: "

-- The place of a verdict's words among all of them, and the number that it has.
abbrev pub wording_of : Verdict → Wording
wording_of Wake = record { place = 0; number = 0 }
wording_of First = record { place = 1; number = 0 }
wording_of Resend = record { place = 2; number = 0 }
wording_of (Refused n) = record { place = 3; number = n }
wording_of Counts = record { place = 4; number = 0 }
wording_of LeftOver = record { place = 5; number = 0 }
wording_of Late = record { place = 6; number = 0 }
wording_of Second = record { place = 7; number = 0 }
wording_of (Damaged n) = record { place = 8; number = n }
wording_of WrongKind = record { place = 9; number = 0 }
wording_of Unasked = record { place = 10; number = 0 }

-- before the words of a send, and behind those with a number
abbrev pub window_text : ℕ → ℕ → List ℕ
window_text place end = cond (eqb place 1 || eqb place 2) (between (text "<rect class='window' x='") end []) []

abbrev pub told_text : ℕ → ℕ → List ℕ
told_text place number = cond (eqb place 3 || eqb place 8) (between [] number (text ": ")) []

-- Where and when it was sent or heard.
abbrev pub place_text : ℕ → ℕ → ℕ → List ℕ
place_text direction position time =
    cond (eqb direction 0) (pair_between (text "position ") position (text ", sent at ") time (text ", "))
    (pair_between (text "position ") position (text ", heard at ") time (text ", "))

-- Its box, from a place on and as wide as its line took: what was sent in the upper half of the lane, what was heard in the lower.
abbrev pub box_text : ℕ → ℕ → ℕ → List ℕ
box_text direction x width =
    cond (eqb direction 0) (pair_between (text "</title><rect x='") x (text "' y='3' width='") width (text "' height='8'/></g>\n"))
    (pair_between (text "</title><rect x='") x (text "' y='13' width='") width (text "' height='8'/></g>\n"))

-- A row with its verdict: colour and words, where and when, what the listing says of its line, and its box.
unfoldable pub row_drawn : Recorded → Verdict → ℕ → List ℕ
row_drawn k v x =
    verdict_text v (x + line_time k)
    ++ (place_text k.direction k.position k.time ++ (word_of (chars k.body) ++ box_text k.direction x (line_time k)))
