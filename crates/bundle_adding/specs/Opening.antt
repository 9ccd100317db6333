-- What the steps of inserting leave in the buffer, and the loops that do them.
use Rattle.std.specs.Prelude.{ℕ, ◌+◌, List, ◌++◌, length, take, drop}
use Rattle.std.proofs.Math.Seq.{slice}
use Rattle.base_numbers.specs.Numbers.{bytes_of}
use Rattle.bundle_rows.specs.declared.Row.{Row}
use Rattle.bundle_rows.specs.Rows.{rows_of, first_offset, bytes_of_row, bytes_of_rows}
use Rattle.bundle_check.specs.Records.{placed_from}
use Rattle.bundle_adding.specs.Inserting.{put_at}

-- the bodies have moved by 12, and a body stands among them
abbrev pub bodies_opened : ℕ → ℕ → ℕ → List ℕ → List ℕ → List ℕ
bodies_opened from at to s d =
    take (from + 12) d ++ (slice from at d ++ (s ++ (slice at to d ++ drop (to + 12 + length s) d)))

-- a row stands among the n rows, and those behind it have moved by 12
abbrev pub row_opened : ℕ → ℕ → Row → List ℕ → List ℕ
row_opened n place r d =
    take (first_offset place) d ++ (bytes_of_row r ++ (slice (first_offset place) (first_offset n) d ++ drop (first_offset n + 12) d))

-- it stands there, all have their offsets, and the count is one more
abbrev pub contents_opened : ℕ → ℕ → Row → List ℕ → List ℕ
contents_opened n place r d =
    bytes_of 2 (n + 1) ++ (bytes_of_rows (placed_from (first_offset n + 12) (put_at place r (rows_of n (drop 2 d)))) ++ drop (first_offset n + 12) d)
