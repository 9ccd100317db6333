-- What 11 to 14 say of one entry.
use Rattle.std.specs.Prelude.{ℕ, ◌≤◌, Bool, true, false, cond, not, ◌&&◌, ◌||◌, List, ◌≡◌, length, get_or}
use Rattle.mbus_rules.specs.declared.Value.{Value}
use Rattle.mbus_rules.specs.declared.Value.TheVariants.{Number, Time, Binary}
use Rattle.base_rules.specs.Lists.{at}
use Rattle.base_rules.specs.Answers.{Answer, reads, refuse, within, follow}
use Rattle.mbus_rules.specs.Quantities.{quantity_of, width_of, is_time}
use Rattle.base_numbers.specs.TwosComplement.{binary_of}
use Rattle.mbus_rules.specs.Moments.{wrong_moment, moment_of}
use Rattle.mbus_rules.specs.Entries.{may_fall, value_bytes, value_of, unfit, wrong_binary, wrong_number}
use Rattle.mbus_fields.specs.declared.digits.Signed.{Signed}
use Rattle.mbus_entries.specs.declared.entry.Taken.{Taken}

-- what a value in binary or a point in time needs to be read: at most eight bytes, and six for a point in time
pub record Long (unit : ℕ) (value : List ℕ) : Type 0 where
  pub most : length value ≤ 8
  pub time : is_time unit ≡ true → length value ≡ 6

-- structure and unit are there, and the quantity is that of the unit
pub record Led (s : List ℕ) (q : ℕ) : Type 0 where
  pub two : 2 ≤ length s
  pub quantity : q ≡ quantity_of (at s 1)

-- the number that the bytes hold in binary, or what 12 says of it
abbrev pub numbered : ℕ → List ℕ → Answer Value
numbered unit b = refuse 12 (wrong_binary unit b) (reads (Binary (record { count = binary_of b })))

-- the number that digits are, or what 12 says of it
abbrev pub digits_valued : ℕ → Signed → Answer Value
digits_valued unit x = refuse 12 (x.wrong || x.falls && not (may_fall unit)) (reads (Number (record { count = x.count })))

-- the value that the bytes hold in a structure below 8: a point in time, or a number in binary
abbrev pub low_valued : ℕ → List ℕ → Answer Value
low_valued unit b = cond (is_time unit) (refuse 13 (wrong_moment b) (reads (Time (moment_of b)))) (numbered unit b)

-- the value that the bytes hold, or what 12 and 13 say of it
abbrev pub valued : ℕ → ℕ → List ℕ → Answer Value
valued st unit b = refuse 12 (wrong_number st unit b) (refuse 13 (is_time unit && wrong_moment b) (reads (value_of st unit b)))

-- an entry with its value, as it is taken off the rest: its quantity, the width of its value, and itself
abbrev pub taken_with : ℕ → ℕ → ℕ → ℕ → Value → Taken
taken_with st unit q w v = record { quantity = q; width = w; entry = record { structure = st; unit = unit; value = v } }

abbrev pub taken_of : List ℕ → Value → Taken
taken_of s v = taken_with (at s 0) (at s 1) (quantity_of (at s 1)) (width_of (at s 0)) v

-- the entry that the list begins with, or what 11, 12 and 13 say of it
abbrev pub tried : List ℕ → Answer Taken
tried s = refuse 11 (unfit s) (within (taken_of s) (valued (at s 0) (at s 1) (value_bytes s)))

-- 14 of an entry that 11 to 13 let pass, where the quantities so far are marked
abbrev pub unseen : List Bool → Taken → Answer Taken
unseen marks t = refuse 14 (get_or marks t.quantity false) (reads t)

-- the next entry, or what 11 to 14 say of it
abbrev pub next_of : List ℕ → List Bool → Answer Taken
next_of s marks = follow (tried s) (unseen marks)
