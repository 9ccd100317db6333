-- Proofs of the statements of specs/Search.
use Rattle.mbus_search.proofs.Laws.Meaning
use Rattle.demands.specs.Search.{FoundIsAccepted, FoundIsLowest, LineIsFound, OnlyLength, NoneBegins}

pub found_is_accepted : FoundIsAccepted
found_is_accepted = Meaning.found_begins

pub found_is_lowest : FoundIsLowest
found_is_lowest = Meaning.lowest

pub line_is_found : LineIsFound
line_is_found = Meaning.begins_found

pub only_length : OnlyLength
only_length = Meaning.one_length

pub none_begins : NoneBegins
none_begins = Meaning.none_begins
