-- 01, "The run bundle": what a bundle is, its refusals, and its rows.
use Rattle.std.specs.Prelude.{ℕ, List, ltb, length, take, drop}
use Rattle.base_rules.specs.Lists.{any}
use Rattle.base_characters.specs.Characters.{over, chars}
use Rattle.base_rules.specs.Answers.{Answer, reads, refuse}
use Rattle.bundle_rows.specs.declared.Row.{Row}
use Rattle.base_numbers.specs.Numbers.{number}
use Rattle.bundle_rows.specs.Rows.{most_rows, rows_of, first_offset}
use Rattle.bundle_check.specs.RowRules.{wrong_rows, wrong_places, bodies_end}

-- at most 65,536 bytes
abbrev pub most_bytes : ℕ
most_bytes = 65536

-- count n, 2 bytes
abbrev pub count_of : List ℕ → ℕ
count_of b = number (take 2 b)

-- then n contents rows
abbrev pub contents_of : List ℕ → List Row
contents_of b = rows_of (count_of b) (drop 2 b)

-- then the bodies
abbrev pub bodies_of : List ℕ → List ℕ
bodies_of b = drop (first_offset (count_of b)) b

-- What is asked of n rows and their bodies: 34 a position, direction or length out of its range, or a time below the row before; 35 an
-- offset wrong or a body past the end; 36 bytes left over; 37 a character over 511.
abbrev pub check_rows : ℕ → List ℕ → Answer ℕ
check_rows n b =
    let rows = rows_of n (drop 2 b) in
    refuse 34 (wrong_rows 0 rows)
    (refuse 35 (wrong_places (length b) (first_offset n) rows)
    (refuse 36 (ltb (bodies_end (first_offset n) rows) (length b))
    (refuse 37 (any over (chars (drop (first_offset n) b)))
    (reads n))))

-- What is asked of a bundle before its rows: 30 too long; 31 under two bytes; 32 count over 512; 33 contents cut.
abbrev pub opened : {A : Type 0} → List ℕ → Answer A → Answer A
opened b next =
    refuse 30 (ltb most_bytes (length b))
    (refuse 31 (ltb (length b) 2)
    (refuse 32 (ltb most_rows (count_of b))
    (refuse 33 (ltb (length b) (first_offset (count_of b)))
    next)))

-- The number of rows, or the refusal: 30 to 33, then 34 to 37. Lowest first over the whole bundle.
unfoldable pub check_of : List ℕ → Answer ℕ
check_of b = opened b (check_rows (count_of b) b)
