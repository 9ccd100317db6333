-- 01, "The run bundle": its refusals, lowest first over the whole bundle, of the bytes as they stand there; handing out a row, adding (the old
-- bundle first, then the new row), and the sweep and the salvage of 02.
use Rattle.std.specs.Prelude.{ℕ, zero, suc, ◌+◌, ◌*◌, ◌-◌, ◌%◌, ◌<◌, ◌≤◌, List, [], ◌∷◌, ◌++◌, ◌⊎◌, ◌≡◌, length, take}
use Rattle.base_rules.specs.Lists.{at}
use Rattle.bundle_check.specs.Bundles.{check_of}
use Rattle.bundle_check.specs.Handing.{row_at, body_at}
use Rattle.bundle_check.specs.Records.{Recorded}
use Rattle.bundle_adding.specs.Adding.{add_of}
use Rattle.bundle_sweep.specs.Sweeping.{sweep_of}
use Rattle.demands.specs.Orders.{Table, OrderOf}

-- ---- the bytes of a bundle

-- numbers of two and four bytes at a place, low byte first
abbrev pub two_at : List ℕ → ℕ → ℕ
two_at b p = at b p + 256 * at b (p + 1)

abbrev pub four_at : List ℕ → ℕ → ℕ
four_at b p = two_at b p + 65536 * two_at b (p + 2)

-- count n; then rows of 12 bytes: position, direction, time 4 bytes, offset 4, body length 2
abbrev pub count : List ℕ → ℕ
count b = two_at b 0

abbrev pub position : List ℕ → ℕ → ℕ
position b i = at b (2 + 12 * i)

abbrev pub direction : List ℕ → ℕ → ℕ
direction b i = at b (3 + 12 * i)

abbrev pub time_of_row : List ℕ → ℕ → ℕ
time_of_row b i = four_at b (4 + 12 * i)

abbrev pub offset : List ℕ → ℕ → ℕ
offset b i = four_at b (8 + 12 * i)

abbrev pub size : List ℕ → ℕ → ℕ
size b i = two_at b (12 + 12 * i)

-- Where the body of row i begins: the first behind the rows, each other where the one before it ends.
abbrev pub begins : List ℕ → ℕ → ℕ
begins b zero = 2 + 12 * count b
begins b (suc i) = begins b i + size b i

-- ---- when each number applies

-- outside 1–48
abbrev pub OutsidePositions : ℕ → Type 0
OutsidePositions p = (p < 1) ⊎ (48 < p)

-- position 1–48; direction 0 or 1; body length even, 2 to 1,004
abbrev pub OutOfRange : ℕ → ℕ → ℕ → Type 0
OutOfRange p d n = OutsidePositions p ⊎ (1 < d) ⊎ (n % 2 ≡ 1) ⊎ (n < 2) ⊎ (1004 < n)

-- 34: a position, direction or length out of its range, or a time below the row before
abbrev pub WrongRows : List ℕ → Type 0
WrongRows b =
    ((i : ℕ) × (i < count b) × OutOfRange (position b i) (direction b i) (size b i)) ⊎ ((i : ℕ) × (suc i < count b) × (time_of_row b (suc i) < time_of_row b i))

-- 35: an offset wrong or a body past the end
abbrev pub WrongPlaces : List ℕ → Type 0
WrongPlaces b = (i : ℕ) × (i < count b) × ((¬ (offset b i ≡ begins b i)) ⊎ (length b < begins b (suc i)))

-- 37: a character over 511, two bytes a character from a place on
abbrev pub OverFrom : ℕ → List ℕ → Type 0
OverFrom p b = (j : ℕ) × (p + (2 * j + 1) < length b) × (511 < two_at b (p + 2 * j))

-- 30 too long; 31 under two bytes; 32 count over 512; 33 contents cut
abbrev pub open_table : List ℕ → Table
open_table b = (30, 65536 < length b) ∷ (31, length b < 2) ∷ (32, 512 < count b) ∷ (33, length b < 2 + 12 * count b) ∷ []

-- 34; 35; 36 bytes left over; 37
abbrev pub rows_table : List ℕ → Table
rows_table b = (34, WrongRows b) ∷ (35, WrongPlaces b) ∷ (36, begins b (count b) < length b) ∷ (37, OverFrom (2 + 12 * count b) b) ∷ []

abbrev pub bundle_table : List ℕ → Table
bundle_table b = open_table b ++ rows_table b

-- Refusals, lowest first.
abbrev pub BundleOrder : Type 0
BundleOrder = (b : List ℕ) → OrderOf (bundle_table b) (check_of b)

-- 39: no such row; rows count from 0.
abbrev pub row_table : List ℕ → ℕ → Table
row_table b i = bundle_table b ++ ((39, count b ≤ i) ∷ [])

abbrev pub RowOrder : Type 0
RowOrder = (b : List ℕ) (i : ℕ) → OrderOf (row_table b i) (row_at b i)

abbrev pub BodyOrder : Type 0
BodyOrder = (b : List ℕ) (i : ℕ) → OrderOf (row_table b i) (body_at b i)

-- The new row: 34, its time below the last row's too; 37; 38, 512 rows, or the new bundle exceeds the buffer or 65,536.
abbrev pub new_row_table : List ℕ → ℕ → Recorded → Table
new_row_table buffer filled k =
    let old = take filled buffer in
    let new = filled + 12 + length k.body in
    (34, OutOfRange k.position k.direction (length k.body) ⊎ ((0 < count old) × (k.time < time_of_row old (count old - 1))))
    ∷ (37, OverFrom 0 k.body)
    ∷ (38, (512 ≤ count old) ⊎ (length buffer < new) ⊎ (65536 < new))
    ∷ []

-- Adding is told how many bytes of the buffer the old bundle fills (more than the buffer has is 30). It tries the old bundle first, then the
-- new row (34, 37, 38).
abbrev pub AddOrder : Type 0
AddOrder =
    (buffer : List ℕ) (filled : ℕ) (k : Recorded)
    → OrderOf ((30, length buffer < filled) ∷ (bundle_table (take filled buffer) ++ new_row_table buffer filled k)) (add_of buffer filled k)

-- 02, 2026-12: 30 to 37, then 34 for a position over 48.
abbrev pub SweepOrder : Type 0
SweepOrder =
    (buffer : List ℕ) (filled position : ℕ)
    → OrderOf ((30, length buffer < filled) ∷ (bundle_table (take filled buffer) ++ ((34, 48 < position) ∷ []))) (sweep_of buffer filled position)
