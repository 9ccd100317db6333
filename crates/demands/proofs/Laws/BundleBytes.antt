-- Proofs of the statements of specs/BundleBytes.
use mathlib.Core.Path.{refl}
use Rattle.base_numbers.specs.Numbers.{number, bytes_of}
use Rattle.base_rules.specs.Lists.{any}
use Rattle.base_characters.specs.Characters.{chars}
use Rattle.bundle_rows.specs.Rows.{rows_of, bytes_of_rows}
use Rattle.bundle_check.specs.Bundles.{check_of}
use Rattle.bundle_check.specs.Handing.{row_at}
use Rattle.bundle_check.specs.Records.{records_in, rows_for, bodies_for}
use Rattle.bundle_check.specs.Walks.{some_wrong, end_of}
use Rattle.bundle_adding.specs.Adding.{add_of}
use Rattle.demands.specs.BundleBytes.{TwoRowsWritten, TwoRowsRead, SecondAdded}

pub two_rows_written : TwoRowsWritten
unfolding bytes_of rows_for bytes_of_rows bodies_for
two_rows_written = refl

pub two_rows_read : TwoRowsRead
unfolding check_of row_at number rows_of some_wrong end_of chars any records_in
two_rows_read = (refl, refl, refl, refl, refl, refl, refl, refl)

pub second_added : SecondAdded
unfolding add_of check_of number rows_of some_wrong end_of chars any bytes_of rows_for bytes_of_rows bodies_for records_in
second_added = (refl, refl, refl)
