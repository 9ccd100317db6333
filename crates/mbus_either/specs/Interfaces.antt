-- 02, 2026-01: whichever capture has an accepted line, the first such line in it, M-Bus before optical when both have one; 18 if neither
-- has one. The order is by interface, never by place.
use Rattle.std.specs.Prelude.{ℕ, List}
use Rattle.base_rules.specs.Answers.{Answer, reads, refusal, within}
use Rattle.mbus_search.specs.declared.Spot.{Spot}
use Rattle.mbus_search.specs.Searching.{find_in}
use Rattle.mbus_either.specs.declared.Interface.{Interface}
use Rattle.mbus_either.specs.declared.Interface.TheVariants.{Mbus, Optical}
use Rattle.mbus_either.specs.declared.LiveLine.{LiveLine}

-- which capture, and where in it
abbrev pub live_on : Interface → Spot → LiveLine
live_on i p = record { interface = i; spot = p }

-- M-Bus before optical
abbrev pub or_optical : Answer Spot → Answer Spot → Answer LiveLine
or_optical (reads p) optical = reads (live_on Mbus p)
or_optical (refusal n) optical = within (live_on Optical) optical

abbrev pub find_either : List ℕ → List ℕ → Answer LiveLine
find_either mbus optical = or_optical (find_in mbus) (find_in optical)
