-- What writing one row of a bundle into another leaves there.
use Rattle.std.specs.Prelude.{ℕ, List}
use Rattle.base_lent.specs.Copying.{copied}
use Rattle.bundle_rows.specs.Rows.{first_offset, bytes_of_row, body_in}
use Rattle.bundle_rows.specs.declared.Row.{Row}
use Rattle.bundle_check.specs.Records.{moved_to}

-- the row at place k of the contents, its body at an offset, and the body there
abbrev pub row_put : List ℕ → Row → ℕ → ℕ → List ℕ → List ℕ
row_put b r k at out = copied (copied out (first_offset k) (bytes_of_row (moved_to at r))) at (body_in b r)
