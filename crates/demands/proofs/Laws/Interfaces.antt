-- Proofs of the statements of specs/Interfaces.
use mathlib.Core.Path.{refl}
use lib.Count.{ones_in}
use Rattle.base_rules.specs.Lists.{any}
use Rattle.base_characters.specs.Characters.{odd}
use Rattle.mbus_rules.specs.Lines.{read_body, read_line}
use Rattle.mbus_search.specs.Searching.{length_from, find_in}
use Rattle.mbus_either.proofs.Laws.Meaning
use Rattle.demands.specs.Interfaces.{StretchIsAccepted, LineIsThere, LineIsFirst, PassedOverHasNone, MbusIsFound, OpticalIsFound, NeitherHasOne}
use Rattle.demands.specs.Interfaces.{InterfaceValues}

pub stretch_is_accepted : StretchIsAccepted
stretch_is_accepted = Meaning.stretch_accepted

pub line_is_there : LineIsThere
line_is_there = Meaning.live_begins

pub line_is_first : LineIsFirst
line_is_first = Meaning.live_lowest

pub passed_over_has_none : PassedOverHasNone
passed_over_has_none = Meaning.passed_over

pub mbus_is_found : MbusIsFound
mbus_is_found = Meaning.mbus_found

pub optical_is_found : OpticalIsFound
optical_is_found = Meaning.optical_found

pub neither_has_one : NeitherHasOne
neither_has_one = Meaning.neither_begins

pub interface_values : InterfaceValues
unfolding find_in length_from read_line read_body any odd ones_in
interface_values = (refl, refl, refl, refl)
