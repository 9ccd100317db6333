-- How much room the rows of one position take.
use Rattle.std.specs.Prelude.{ℕ, List, length}
use Rattle.bundle_check.specs.Records.{records_of, bodies_for}
use Rattle.bundle_joining.specs.Choosing.{of_position}
use Rattle.bundle_joining.specs.declared.choosing.Size.{Size}

-- how many there are, and how many bytes their bodies have
abbrev pub size_of : ℕ → List ℕ → Size
size_of position b = record { rows = length (of_position position (records_of b)); bytes = length (bodies_for (of_position position (records_of b))) }
