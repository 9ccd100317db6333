-- 01, "Entry": the tables of quantities and structures, and what is looked up in them.
use Rattle.std.specs.Prelude.{ℕ, ◌%◌, Bool, true, false, cond, ◌&&◌, ◌||◌, List, [], ◌∷◌, ltb, eqb, ℤ}
use Rattle.std.proofs.Math.IntN.{sub_ℕ}
use Rattle.mbus_rules.specs.declared.UnitRow.{UnitRow}
use Rattle.mbus_rules.specs.declared.StructureRow.{StructureRow}
use Rattle.base_rules.specs.Lists.{between}

-- the quantities in the table's order, and a number for a unit byte that is in no row
abbrev pub energy : ℕ
energy = 0

abbrev pub volume : ℕ
volume = 1

abbrev pub power : ℕ
power = 2

abbrev pub flow : ℕ
flow = 3

abbrev pub inlet : ℕ
inlet = 4

abbrev pub outlet : ℕ
outlet = 5

abbrev pub time : ℕ
time = 6

abbrev pub unknown : ℕ
unknown = 7

-- the units that the table names, by the header's numbers; a point in time has none
abbrev pub no_unit : ℕ
no_unit = 0

abbrev pub watt_hour : ℕ
watt_hour = 1

abbrev pub joule : ℕ
joule = 2

abbrev pub cubic_metre : ℕ
cubic_metre = 3

abbrev pub watt : ℕ
watt = 4

abbrev pub cubic_metre_an_hour : ℕ
cubic_metre_an_hour = 5

abbrev pub degree_celsius : ℕ
degree_celsius = 6

-- n is the low three bits of a unit byte, what it leaves by 8; m the low two; `none` is 0
abbrev n : ℕ
n = 8

abbrev m : ℕ
m = 4

abbrev none : ℕ
none = 1

-- a row of the table
abbrev pub unit_row : ℕ → ℕ → ℕ → ℕ → ℕ → ℕ → Bool → Bool → UnitRow
unit_row f l q u d s r b = record { first = f; last = l; quantity = q; unit = u; divisor = d; less = s; required = r; may_fall = b }

-- 01's table: first and last unit byte, quantity, unit, power of ten (`n, 3` is n−3), whether it must be there, whether it may be below zero.
-- 02, 2026-06: 08–0F, 10^n J, still the quantity energy; energy, volume and power may not be negative. 2026-07: a minus is allowed for inlet,
-- outlet and flow, for no other quantity.
abbrev pub table : List UnitRow
table =
    unit_row 0x00 0x07 energy watt_hour n 3 true false
    ∷ unit_row 0x08 0x0F energy joule n 0 true false
    ∷ unit_row 0x10 0x17 volume cubic_metre n 6 true false
    ∷ unit_row 0x28 0x2F power watt n 3 false false
    ∷ unit_row 0x38 0x3F flow cubic_metre_an_hour n 6 false true
    ∷ unit_row 0x58 0x5B inlet degree_celsius m 3 true true
    ∷ unit_row 0x5C 0x5F outlet degree_celsius m 3 true true
    ∷ unit_row 0x6D 0x6D time no_unit none 0 true false
    ∷ []

-- what stands for a unit byte that is in no row
abbrev pub no_row : UnitRow
no_row = unit_row 0 0 unknown no_unit none 0 false false

-- the first row that passes the test, or what stands for none
abbrev pub first_with : {A : Type 0} → A → (A → Bool) → List A → A
first_with none test [] = none
first_with none test (r ∷ rs) = cond (test r) r (first_with none test rs)

abbrev pub has_unit : ℕ → UnitRow → Bool
has_unit u r = between r.first r.last u

-- the row that has the unit byte
abbrev pub row_of : ℕ → UnitRow
row_of u = first_with no_row (has_unit u) table

unfoldable pub quantity_of : ℕ → ℕ
quantity_of u = (row_of u).quantity

unfoldable pub unit_of : ℕ → ℕ
unit_of u = (row_of u).unit

-- 02, 2026-06: of the unit bytes of energy, 00–07 are Wh and 08–0F are J
abbrev pub in_joules : ℕ → Bool
in_joules u = eqb (unit_of u) joule

-- The power of ten. Time has none, and 0 stands there.
unfoldable pub power_of : ℕ → ℤ
power_of u = sub_ℕ (u % (row_of u).divisor) (row_of u).less

abbrev pub is_time : ℕ → Bool
is_time u = eqb u 0x6D

-- a row of the structures
abbrev pub structure_row : ℕ → ℕ → Bool → Bool → StructureRow
structure_row st w p b = record { structure = st; width = w; packed = p; binary = b }

-- Structure 0A, 0B, 0C, 0E is packed BCD of 4, 6, 8, 12 digits; 01, 02, 03, 04, 06, 07 is binary of 1, 2, 3, 4, 6, 8 bytes (02, 2026-06), and
-- 06 is a point in time too: the structure byte, the bytes of its value, whether they are packed BCD, whether binary.
abbrev pub structures : List StructureRow
structures =
    structure_row 0x0A 2 true false
    ∷ structure_row 0x0B 3 true false
    ∷ structure_row 0x0C 4 true false
    ∷ structure_row 0x0E 6 true false
    ∷ structure_row 0x01 1 false true
    ∷ structure_row 0x02 2 false true
    ∷ structure_row 0x03 3 false true
    ∷ structure_row 0x04 4 false true
    ∷ structure_row 0x06 6 false true
    ∷ structure_row 0x07 8 false true
    ∷ []

-- Other structures have no width.
abbrev pub no_structure : StructureRow
no_structure = structure_row 0 0 false false

abbrev pub has_structure : ℕ → StructureRow → Bool
has_structure st r = eqb st r.structure

-- the row that has the structure byte
abbrev pub structure_of : ℕ → StructureRow
structure_of st = first_with no_structure (has_structure st) structures

unfoldable pub width_of : ℕ → ℕ
width_of st = (structure_of st).width

abbrev pub is_packed : ℕ → Bool
is_packed st = (structure_of st).packed

abbrev pub is_binary : ℕ → Bool
is_binary st = (structure_of st).binary

-- 6D goes with structure 06 only; packed BCD and binary go with the unit of each other quantity.
unfoldable pub paired : ℕ → ℕ → Bool
paired st u = cond (is_time u) (eqb st 0x06) ((is_packed st || is_binary st) && ltb (quantity_of u) unknown)
