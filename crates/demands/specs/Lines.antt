-- Demand 3, and what is accepted: up to three flipped bits never pass, and joined lines are cut back in exactly one way. Demand 3 speaks of the
-- lines that the rules accept.
use Rattle.std.specs.Prelude.{ℕ, ◌≤◌, false, ◌↔◌, ◌≡◌, length}
use mathlib.Core.List.{List, [], ◌++◌, flatten}
use Rattle.mbus_rules.specs.declared.Kind.TheVariants.{Data}
use Rattle.mbus_rules.specs.declared.Telegram.{Telegram}
use Rattle.base_rules.specs.Lists.{at}
use Rattle.mbus_rules.specs.Lines.{Accepted}
use Rattle.mbus_rules.specs.TelegramSizes.{Sized}
use Rattle.mbus_rules.specs.Writing.{bytes_of_kind, wrong_for, line_of, unwritable}
use Rattle.base_characters.specs.Flips.{Place, Places, flips}
use Rattle.base_rules.specs.Each.{Each}

-- What is accepted: the lines of the telegrams that can be written, and no others. (`Sized`: each field is in the range of its type.)
abbrev pub WhatIsAccepted : Type 0
WhatIsAccepted = (s : List ℕ) → Accepted s ↔ ((t : Telegram) × Sized t × (unwritable t ≡ false) × (s ≡ line_of t))

-- For every accepted line and every one, two or three different places within it, the line flipped there is not accepted.
abbrev pub FlipsAreRefused : Type 0
FlipsAreRefused = (s : List ℕ) (ps : List Place) → Accepted s → Places s ps → 1 ≤ length ps → length ps ≤ 3 → ¬ Accepted (flips ps s)

-- No accepted line is the start of a longer accepted one.
abbrev pub NoLineGoesOn : Type 0
NoLineGoesOn = (s t : List ℕ) → Accepted s → Accepted (s ++ t) → t ≡ []

-- Accepted lines joined end to end are cut back in exactly one way.
abbrev pub OneCut : Type 0
OneCut = (ss ts : List (List ℕ)) → Each Accepted ss → Each Accepted ts → flatten ss ≡ flatten ts → ss ≡ ts

-- L runs from 35 to 83, and the longest line has 89 characters. (`Binary`: both are reached.)
abbrev pub LengthsOfData : Type 0
LengthsOfData = (t : Telegram) → wrong_for Data t ≡ false → (35 ≤ at (bytes_of_kind Data t) 1) × (at (bytes_of_kind Data t) 1 ≤ 83)

abbrev pub LongestLine : Type 0
LongestLine = (t : Telegram) → unwritable t ≡ false → length (line_of t) ≤ 89
