-- 01, "The simulated meter": the data template, and pairs of totals (volume, energy).
use Rattle.std.specs.Prelude.{ℕ, ◌+◌, ◌%◌, ◌^◌, Bool, true, false, cond, not, ◌&&◌, ◌||◌, List, [], ◌∷◌, map, ltb, eqb, pos, nat_abs}
use Rattle.mbus_rules.specs.declared.Kind.{Kind}
use Rattle.mbus_rules.specs.declared.Kind.TheVariants as kinds
use Rattle.mbus_rules.specs.declared.Value.{Value}
use Rattle.mbus_rules.specs.declared.Value.TheVariants.{Number, Time, Binary}
use Rattle.mbus_rules.specs.declared.Entry.{Entry}
use Rattle.mbus_rules.specs.declared.Header.{Header}
use Rattle.mbus_rules.specs.declared.Telegram.{Telegram}
use Rattle.base_rules.specs.Answers.{Answer, reads, refusal, refuse}
use Rattle.base_rules.specs.Lists.{any}
use Rattle.mbus_rules.specs.Quantities.{quantity_of, volume, energy}
use Rattle.mbus_rules.specs.Writing.{unwritable}
use Rattle.meter_template.specs.declared.Pair.{Pair}

-- ---- what a template has to be

abbrev pub is_data_kind : Kind → Bool
is_data_kind kinds.Ack = false
is_data_kind kinds.Read = false
is_data_kind kinds.Enter = false
is_data_kind kinds.Leave = false
is_data_kind kinds.Data = true

-- the entry has the quantity in structure 0C
abbrev pub holds : ℕ → Entry → Bool
holds q e = eqb e.structure 0x0C && eqb (quantity_of e.unit) q

-- the quantity is not in structure 0C
abbrev pub lacks : ℕ → List Entry → Bool
lacks q es = not (any (holds q) es)

-- 72: data the writer refuses, or energy or volume not in structure 0C; and anything but data
abbrev pub unfit_template : Telegram → Bool
unfit_template t = not (is_data_kind t.kind) || unwritable t || lacks energy t.entries || lacks volume t.entries

-- ---- its totals

-- energy and volume are never below zero; structure 0C holds digits, and nothing else is a total
abbrev pub value_count : Value → ℕ
value_count (Number d) = nat_abs d.count
value_count (Time m) = 0
value_count (Binary w) = 0

-- the total of a quantity: a count of its entry's last digit
unfoldable pub total_in : ℕ → List Entry → ℕ
total_in q [] = 0
total_in q (e ∷ es) = cond (holds q e) (value_count e.value) (total_in q es)

abbrev pub pair_in : List Entry → Pair
pair_in es = record { volume = total_in volume es; energy = total_in energy es }

-- ---- the answer to a read

-- the access number goes up by one, 255 to 0, ..
abbrev pub next_access : ℕ → ℕ
next_access n = cond (eqb n 255) 0 (n + 1)

abbrev pub raised_header : Header → Header
raised_header h = record {
  number = h.number;
  maker = h.maker;
  version = h.version;
  meter_type = h.meter_type;
  access = next_access h.access;
  status = h.status;
}

abbrev pub raised : Telegram → Telegram
raised t = record { kind = t.kind; address = t.address; method = t.method; header = raised_header t.header; count = t.count; entries = t.entries }

-- .. then data with a pair, the rest from the template, with A the own address
-- (a total is at most 99,999,999; of a number that no count reaches, over 2^63, the rest is taken)
abbrev pub counted : ℕ → Entry → Entry
counted n e = record { structure = e.structure; unit = e.unit; value = Number (record { count = pos (n % 2 ^ 63) }) }

abbrev pub filled_entry : Pair → Entry → Entry
filled_entry p e = cond (holds volume e) (counted p.volume e) (cond (holds energy e) (counted p.energy e) e)

abbrev pub filled : Pair → List Entry → List Entry
filled p es = map (filled_entry p) es

abbrev pub data_with : ℕ → Pair → Telegram → Telegram
data_with own p t = record { kind = t.kind; address = own; method = t.method; header = t.header; count = t.count; entries = filled p t.entries }

-- ---- adding to a pair

-- 71: a total would pass 99,999,999
abbrev pub total_most : ℕ
total_most = 99999999

abbrev pub passes : ℕ → ℕ → Bool
passes total amount = ltb total_most (total + amount)

abbrev pub overflows : Pair → ℕ → ℕ → Bool
overflows p v e = passes p.volume v || passes p.energy e

abbrev pub plus : Pair → ℕ → ℕ → Pair
plus p v e = record { volume = p.volume + v; energy = p.energy + e }

abbrev pub sum_of : Pair → ℕ → ℕ → Answer Pair
sum_of p v e = refuse 71 (overflows p v e) (reads (plus p v e))
