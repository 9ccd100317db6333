-- What the steps of adding leave in the buffer, and the loops that do them.
use Rattle.std.specs.Prelude.{ℕ, ◌+◌, List, ◌++◌, length, take, drop}
use Rattle.std.proofs.Math.Seq.{slice}
use Rattle.bundle_rows.specs.declared.Row.{Row}
use Rattle.base_numbers.specs.Numbers.{bytes_of}
use Rattle.bundle_rows.specs.Rows.{rows_of, first_offset, bytes_of_row, bytes_of_rows}
use Rattle.bundle_check.specs.Records.{placed_from}

-- what stands from one place up to another has moved up by so many
abbrev pub shifted_by : ℕ → ℕ → ℕ → List ℕ → List ℕ
shifted_by by from to d = take (from + by) d ++ (slice from to d ++ drop (to + by) d)

-- and a body stands behind it
abbrev pub bodies_moved : ℕ → ℕ → List ℕ → List ℕ → List ℕ
bodies_moved from to s d = take (from + 12) d ++ (slice from to d ++ (s ++ drop (to + 12 + length s) d))

-- the rows have their bodies from an offset on
abbrev pub rows_placed : ℕ → ℕ → List ℕ → List ℕ
rows_placed n first d = take 2 d ++ (bytes_of_rows (placed_from first (rows_of n (drop 2 d))) ++ drop (first_offset n) d)

-- and a row stands last, with the count one more
abbrev pub contents_grown : ℕ → Row → List ℕ → List ℕ
contents_grown n r d =
    bytes_of 2 (n + 1) ++ (bytes_of_rows (placed_from (first_offset n + 12) (rows_of n (drop 2 d))) ++ (bytes_of_row r ++ drop (first_offset n + 12) d))
