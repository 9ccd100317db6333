-- 01, "Entry", and the refusals 11 to 16.
use Rattle.std.specs.Prelude.{ℕ, zero, suc, ◌+◌, Bool, cond, not, ◌&&◌, ◌||◌, List, [], ◌∷◌, ◌++◌, ltb, eqb, length, take, drop}
use Rattle.mbus_rules.specs.declared.Value.{Value}
use Rattle.mbus_rules.specs.declared.Value.TheVariants.{Number, Time, Binary}
use Rattle.mbus_rules.specs.declared.Entry.{Entry}
use Rattle.mbus_rules.specs.declared.UnitRow.{UnitRow}
use Rattle.base_rules.specs.Lists.{at, any}
use Rattle.base_rules.specs.Answers.{Answer, reads, refuse}
use Rattle.mbus_rules.specs.Signs.{minus, signed_of, wrong_signed}
use Rattle.base_numbers.specs.TwosComplement.{negative, binary_of}
use Rattle.mbus_rules.specs.Moments.{moment_of, wrong_moment}
use Rattle.mbus_rules.specs.Quantities.{table, row_of, quantity_of, width_of, paired, is_time, is_binary}

-- Structure byte, unit byte, value low byte first: the value's bytes of the entry that the list begins with, and its whole width.
abbrev pub value_bytes : List ℕ → List ℕ
value_bytes s = take (width_of (at s 0)) (drop 2 s)

abbrev pub entry_width : List ℕ → ℕ
entry_width s = 2 + width_of (at s 0)

-- The value is a decimal number, a number in binary (02, 2026-06) or a point in time.
abbrev pub value_of : ℕ → ℕ → List ℕ → Value
value_of st unit b =
    cond (is_time unit) (Time (moment_of b)) (cond (is_binary st) (Binary (record { count = binary_of b })) (Number (record { count = signed_of b })))

abbrev pub entry_of : List ℕ → Entry
entry_of s = record { structure = at s 0; unit = at s 1; value = value_of (at s 0) (at s 1) (value_bytes s) }

-- 11: one byte left, unknown structure or unit, wrong pair, or value past the end
abbrev pub unfit : List ℕ → Bool
unfit s = ltb (length s) 2 || not (paired (at s 0) (at s 1)) || ltb (length s) (entry_width s)

-- the table says whether a quantity may be negative (02, 2026-06), by a minus too (2026-07)
unfoldable pub may_fall : ℕ → Bool
may_fall unit = (row_of unit).may_fall

-- 12: a BCD digit over 9 in an entry; minus zero, or a minus where none is allowed (02, 2026-07)
abbrev pub wrong_packed : ℕ → List ℕ → Bool
wrong_packed unit b = wrong_signed b || minus b && not (may_fall unit)

-- 12: a negative value where none is allowed (02, 2026-06)
abbrev pub wrong_binary : ℕ → List ℕ → Bool
wrong_binary unit b = negative b && not (may_fall unit)

abbrev pub wrong_number : ℕ → ℕ → List ℕ → Bool
wrong_number st unit b = not (is_time unit) && cond (is_binary st) (wrong_binary unit b) (wrong_packed unit b)

abbrev pub wrong_digit : List ℕ → Bool
wrong_digit s = wrong_number (at s 0) (at s 1) (value_bytes s)

-- 13: time rule broken
abbrev pub wrong_time : List ℕ → Bool
wrong_time s = is_time (at s 1) && wrong_moment (value_bytes s)

-- the quantity is among the entries so far
abbrev pub seen : ℕ → List Entry → Bool
seen q done = any (λ (e : Entry). eqb (quantity_of e.unit) q) done

-- a row of the table is required, and its quantity is not there
abbrev pub lacking : (ℕ → Bool) → Bool
lacking there = any (λ (r : UnitRow). r.required && not (there r.quantity)) table

-- 16: energy, volume, inlet, outlet and time must be there
abbrev pub missing : List Entry → Bool
missing done = lacking (λ q. seen q done)

-- 11 to 14 are tried entry by entry from the left, 16 at the end. `passing` bytes of the entry before are still to be passed over.
-- 02, 2026-05: no 15; an eighth entry repeats a quantity, and is 14 where it is not refused before.
unfoldable pub read_entries : (passing : ℕ) → List ℕ → (done : List Entry) → Answer (List Entry)
read_entries passing [] done = refuse 16 (missing done) (reads done)
read_entries (suc passing) (b ∷ s) done = read_entries passing s done
read_entries zero (b ∷ s) done =
    refuse 11 (unfit (b ∷ s))
    (refuse 12 (wrong_digit (b ∷ s))
    (refuse 13 (wrong_time (b ∷ s))
    (refuse 14 (seen (quantity_of (at (b ∷ s) 1)) done)
    (read_entries (1 + width_of b) s (done ++ (entry_of (b ∷ s) ∷ []))))))
