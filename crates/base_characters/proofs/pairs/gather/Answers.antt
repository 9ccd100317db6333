-- `base_characters::pairs::gather` meets its contract: as many characters as there are places.
use Rattle.std.proofs.Common.{◌≡◌, ℕ, ◌≤◌, List, map, length, take, ap, ◌∙◌, arith}
use Rattle.base_characters.specs.Characters.{chars, byte_of}
use Rattle.base_lent.specs.Copying.{copied}
use Rattle.base_characters.specs.Gathering.{gathered}
use Rattle.base_characters.proofs.Laws.PairLaws.{length_characters}
use Rattle.base_characters.proofs.Laws.PartLaws.{fewer_all}
use Rattle.base_characters.proofs.pairs.gather.Goals.{After-min-count}
use Rattle.base_characters.proofs.pairs.gather.Goals as goal

-- so many characters, and so many places
abbrev line : After-min-count → List ℕ
line c = chars c.args.bytes.now

abbrev places : After-min-count → List ℕ
places c = c.args.out.now

counted : (c : After-min-count)
    → (c.min-count.result ≤ length (line c)) × (c.min-count.result ≤ length (places c)) × (take c.min-count.result (line c) ≡ take (length (places c)) (line c))
counted c = fewer_all (line c) (places c) (omega (arith, length_characters c.args.bytes.now, c.min-count.ensures))

pub gather_short-requires : goal.gather_short-requires
gather_short-requires c =
    let h = counted (goal.at.gather_short-requires c).After-min-count in
    (omega (arith, h.0, length_characters c.args.bytes.now), h.1)

pub returns-then-count-lt16 : goal.returns-then-count-lt16
returns-then-count-lt16 c =
    let all = (counted (goal.at.returns-then-count-lt16 c).After-min-count).2 in
    let g = c.gather_short.ensures in
    (g.0 ∙ ap gathered all, g.1 ∙ ap (λ (t : List ℕ). copied (places (goal.at.returns-then-count-lt16 c).After-min-count) 0 (map byte_of t)) all)

pub gather_long-requires : goal.gather_long-requires
gather_long-requires c =
    let h = counted (goal.at.gather_long-requires c).After-min-count in
    (c.if-count-lt16.false, omega (arith, h.0, length_characters c.args.bytes.now), h.1)

pub returns : goal.returns
returns c =
    let all = (counted (goal.at.returns c).After-min-count).2 in
    let g = c.gather_long.ensures in
    (g.0 ∙ ap gathered all, g.1 ∙ ap (λ (t : List ℕ). copied (places (goal.at.returns c).After-min-count) 0 (map byte_of t)) all)
