-- 02, 2026-11: what salvaging tells of a bundle cut short, by what 01 says of a row.
use Rattle.std.specs.Prelude.{ℕ, zero, suc, ◌+◌, ◌*◌, ◌%◌, ◌≤◌, ◌<◌, List, [], ◌∷◌, map, ◌⊎◌, ◌≡◌, length, get_or, take, drop}
use Rattle.base_rules.specs.Answers.{reads, refusal}
use Rattle.base_rules.specs.Lists.{total}
use Rattle.base_numbers.specs.Numbers.{number}
use Rattle.base_characters.specs.Characters.{chars}
use Rattle.bundle_rows.specs.Lists.{All}
use Rattle.bundle_rows.specs.Rows.{rows_of, blank_row, body_in}
use Rattle.bundle_rows.specs.declared.Row.{Row}
use Rattle.bundle_check.specs.Bundles.{check_of}
use Rattle.bundle_salvage.specs.declared.Salvaged.{Salvaged}
use Rattle.bundle_salvage.specs.Salvaging.{salvage_of}

-- ---- the rules for a row

-- 34: position 1–48; direction 0 or 1; body length even, 2 to 1,004; a time not below the row before.
pub record FieldsRight (before : ℕ) (r : Row) : Type 0 where
  pub position : (1 ≤ r.position) × (r.position ≤ 48)
  pub direction : r.direction ≤ 1
  pub even : r.length % 2 ≡ 0
  pub size : (2 ≤ r.length) × (r.length ≤ 1004)
  pub time : before ≤ r.time

-- 35: the offset is the place where its body is due, and the body ends at the end of the file or before it.
pub record PlaceRight (b : List ℕ) (place : ℕ) (r : Row) : Type 0 where
  pub offset : r.offset ≡ place
  pub inside : place + r.length ≤ length b

-- 37: no character over 511.
abbrev pub RangeRight : List ℕ → Row → Type 0
RangeRight b r = All (λ (c : ℕ). c ≤ 511) (chars (body_in b r))

-- ---- a row of a damaged bundle

-- None of 30 to 33 applies: its contents are whole, with n rows.
pub record ContentsThere (b : List ℕ) (n : ℕ) : Type 0 where
  pub fits : length b ≤ 65536
  pub counted : 2 ≤ length b
  pub count : number (take 2 b) ≡ n
  pub few : n ≤ 512
  pub there : 2 + 12 * n ≤ length b

-- Every accepted bundle is such.
abbrev pub AcceptedIsWhole : Type 0
AcceptedIsWhole = (b : List ℕ) (n : ℕ) → check_of b ≡ reads n → ContentsThere b n

-- row i
abbrev pub row_damaged : List ℕ → ℕ → ℕ → Row
row_damaged b n i = get_or (rows_of n (drop 2 b)) i blank_row

-- the time of the row before it; before the first, times count from 0
abbrev pub time_before : List ℕ → ℕ → ℕ → ℕ
time_before b n zero = 0
time_before b n (suc i) = (row_damaged b n i).time

-- the bytes of the bodies before its own
abbrev pub bodies_before : List ℕ → ℕ → ℕ → ℕ
bodies_before b n i = total (map (λ (r : Row). r.length) (take i (rows_of n (drop 2 b))))

-- the place where its body is due, by the damaged file's own count of rows
abbrev pub place_due : List ℕ → ℕ → ℕ → ℕ
place_due b n i = 2 + 12 * n + bodies_before b n i

-- row i keeps the rules for field, offset and character
pub record KeepsRules (b : List ℕ) (n i : ℕ) : Type 0 where
  pub fields : FieldsRight (time_before b n i) (row_damaged b n i)
  pub place : PlaceRight b (place_due b n i) (row_damaged b n i)
  pub range : RangeRight b (row_damaged b n i)

-- the lowest rule that row i breaks
abbrev pub LowestBroken : List ℕ → ℕ → ℕ → ℕ → Type 0
LowestBroken b n i rule =
    let fields = FieldsRight (time_before b n i) (row_damaged b n i) in
    let place = PlaceRight b (place_due b n i) (row_damaged b n i) in
    ((rule ≡ 34) × (fields → ⊥))
    ⊎ (((rule ≡ 35) × fields × (place → ⊥)) ⊎ ((rule ≡ 37) × fields × place × (RangeRight b (row_damaged b n i) → ⊥)))

-- ---- what is told

-- A bundle whose contents are whole is salvaged,
abbrev pub SalvageTells : Type 0
SalvageTells = (b : List ℕ) (n : ℕ) → ContentsThere b n → (s : Salvaged) × (salvage_of b ≡ reads s)

-- each of its rows is kept or dropped,
abbrev pub KeptOrDropped : Type 0
KeptOrDropped = (b : List ℕ) (n : ℕ) (s : Salvaged) → ContentsThere b n → salvage_of b ≡ reads s → s.kept + s.dropped ≡ n

-- the rows that are kept each keep the rules,
abbrev pub KeptKeepRules : Type 0
KeptKeepRules = (b : List ℕ) (n : ℕ) (s : Salvaged) → ContentsThere b n → salvage_of b ≡ reads s → (i : ℕ) → i < s.kept → KeepsRules b n i

-- as many leading rows as keep them are kept, one whose body ends exactly at the cut among them,
abbrev pub LeadingRowsKept : Type 0
LeadingRowsKept =
    (b : List ℕ) (n : ℕ) (s : Salvaged) → ContentsThere b n → salvage_of b ≡ reads s
    → (k : ℕ) → k ≤ n → ((i : ℕ) → i < k → KeepsRules b n i) → k ≤ s.kept

-- the rule is the lowest that the first dropped row breaks,
abbrev pub LowestIsTold : Type 0
LowestIsTold =
    (b : List ℕ) (n : ℕ) (s : Salvaged) → ContentsThere b n → salvage_of b ≡ reads s → 0 < s.dropped → LowestBroken b n s.kept s.rule

-- where none is dropped it is 36 if bytes are left over behind the last body, and else 0,
abbrev pub RuleWhereAllAreKept : Type 0
RuleWhereAllAreKept =
    (b : List ℕ) (n : ℕ) (s : Salvaged) → ContentsThere b n → salvage_of b ≡ reads s → s.dropped ≡ 0
    → ((s.rule ≡ 36) × (place_due b n n < length b)) ⊎ ((s.rule ≡ 0) × (place_due b n n ≡ length b))

-- and the new bundle has the count, the rows that are kept, and their bodies.
abbrev pub FilledBySalvage : Type 0
FilledBySalvage =
    (b : List ℕ) (n : ℕ) (s : Salvaged) → ContentsThere b n → salvage_of b ≡ reads s → s.filled ≡ 2 + 12 * s.kept + bodies_before b n s.kept

-- ---- a bundle of two rows, their bodies of 2 and 4 bytes, cut behind so many bytes

abbrev two_rows : ℕ → ℕ → List ℕ
two_rows second character =
    0x02 ∷ 0x00
    ∷ 0x07 ∷ 0x01 ∷ 0x05 ∷ 0x00 ∷ 0x00 ∷ 0x00 ∷ 0x1A ∷ 0x00 ∷ 0x00 ∷ 0x00 ∷ 0x02 ∷ 0x00
    ∷ second ∷ 0x00 ∷ 0x06 ∷ 0x00 ∷ 0x00 ∷ 0x00 ∷ 0x1C ∷ 0x00 ∷ 0x00 ∷ 0x00 ∷ 0x04 ∷ 0x00
    ∷ 0xE5 ∷ 0x01 ∷ 0x10 ∷ 0x01 ∷ 0x5B ∷ character ∷ 0x77 ∷ []

-- what is told: rows kept and dropped, the rule, and the bytes of the new bundle
abbrev salvaged : ℕ → ℕ → ℕ → ℕ → Salvaged
salvaged kept dropped rule filled = record { kept = kept; dropped = dropped; rule = rule; filled = filled }

-- At 28 bytes the first body ends exactly at the cut, and at 32 the second does; a byte fewer, and the row is dropped. 25 bytes cut the contents. A position 0
-- in the second row is 34, with its body cut too, and a character over 511 is 37.
abbrev pub SalvageValues : Type 0
SalvageValues =
    (salvage_of (take 32 (two_rows 3 0x01)) ≡ reads (salvaged 2 0 0 32))
    × (salvage_of (two_rows 3 0x01) ≡ reads (salvaged 2 0 36 32))
    × (salvage_of (take 31 (two_rows 3 0x01)) ≡ reads (salvaged 1 1 35 16))
    × (salvage_of (take 28 (two_rows 3 0x01)) ≡ reads (salvaged 1 1 35 16))
    × (salvage_of (take 27 (two_rows 3 0x01)) ≡ reads (salvaged 0 2 35 2))
    × (salvage_of (take 31 (two_rows 0 0x02)) ≡ reads (salvaged 1 1 34 16))
    × (salvage_of (take 32 (two_rows 3 0x02)) ≡ reads (salvaged 1 1 37 16))
    × (salvage_of (take 25 (two_rows 3 0x01)) ≡ refusal 33)
