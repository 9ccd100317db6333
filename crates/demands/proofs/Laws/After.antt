-- Proofs of the statements of specs/After.
use mathlib.Core.Path.{refl}
use lib.Count.{ones_in}
use Rattle.base_rules.specs.Lists.{any}
use Rattle.base_characters.specs.Characters.{odd}
use Rattle.mbus_rules.specs.Lines.{read_body, read_line}
use Rattle.mbus_search.specs.Searching.{length_from}
use Rattle.mbus_search.proofs.Laws.Meaning as searches
use Rattle.mbus_after.specs.After.{find_after}
use Rattle.mbus_after.proofs.Laws.Meaning
use Rattle.demands.specs.After.{FoundSinceIsAccepted, FoundBeganSince, FoundSinceIsLowest, LineSinceIsFound, OnlyLengthSince, NoneBeginsSince}
use Rattle.demands.specs.After.{FromZeroIsTheSearch, OldIsPassedOver, AfterValues}

pub found_since_is_accepted : FoundSinceIsAccepted
found_since_is_accepted t s times p e = (Meaning.found_begins t s times p e).begins.begins

pub found_began_since : FoundBeganSince
found_began_since t s times p e = let f = Meaning.found_begins t s times p e in (f.time, f.begins.since)

pub found_since_is_lowest : FoundSinceIsLowest
found_since_is_lowest = Meaning.lowest

pub line_since_is_found : LineSinceIsFound
line_since_is_found = Meaning.begins_found

pub only_length_since : OnlyLengthSince
only_length_since t s times place m n a b = searches.one_length s place m n a.begins b.begins

pub none_begins_since : NoneBeginsSince
none_begins_since = Meaning.none_begins

pub from_zero_is_the_search : FromZeroIsTheSearch
from_zero_is_the_search = Meaning.from_zero

pub old_is_passed_over : OldIsPassedOver
old_is_passed_over = Meaning.old_passed

pub after_values : AfterValues
unfolding find_after length_from read_line read_body any odd ones_in
after_values = (refl, refl, refl, refl)
