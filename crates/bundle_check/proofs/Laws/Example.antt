-- Laws of `specs/Example`.
use mathlib.Core.Path.{◌≡◌, refl}
use Rattle.base_rules.specs.Lists.{any}
use Rattle.base_rules.specs.Answers.{reads}
use Rattle.base_numbers.specs.Numbers.{number}
use Rattle.bundle_check.specs.Walks.{some_wrong, end_of}
use Rattle.bundle_rows.specs.Rows.{rows_of}
use Rattle.base_characters.specs.Characters.{chars}
use Rattle.bundle_check.specs.Bundles.{check_of}
use Rattle.bundle_check.specs.Example.{sixteen}

-- it is accepted and has one row
one_row : check_of sixteen ≡ reads 1
unfolding check_of number rows_of some_wrong end_of chars any
one_row = refl
