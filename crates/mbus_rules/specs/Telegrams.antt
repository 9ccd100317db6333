-- 01, "Telegrams": the five telegrams. What a kind does not use is zero; entry places past the count are structure 0, unit 0,
-- decimal 0.
use Rattle.std.specs.Prelude.{ℕ, ◌-◌, List, ◌++◌, length, replicate, pos}
use Rattle.mbus_rules.specs.declared.Kind.{Kind}
use Rattle.mbus_rules.specs.declared.Kind.TheVariants.{Ack, Read, Enter, Leave, Data}
use Rattle.mbus_rules.specs.declared.Value.TheVariants.{Number}
use Rattle.mbus_rules.specs.declared.Entry.{Entry}
use Rattle.mbus_rules.specs.declared.Header.{Header}
use Rattle.mbus_rules.specs.declared.Telegram.{Telegram}
use Rattle.base_rules.specs.Answers.{Answer, reads, refusal}

abbrev pub blank_entry : Entry
blank_entry = record { structure = 0; unit = 0; value = Number (record { count = pos 0 }) }

abbrev pub blank_header : Header
blank_header = record { number = 0; maker = 0; version = 0; meter_type = 0; access = 0; status = 0 }

-- a telegram without header and entries
abbrev pub bare : Kind → ℕ → ℕ → Telegram
bare k a s = record { kind = k; address = a; method = s; header = blank_header; count = 0; entries = replicate 7 blank_entry }

abbrev pub ack : Telegram
ack = bare Ack 0 0

abbrev pub read_of : ℕ → Telegram
read_of a = bare Read a 0

abbrev pub enter_of : ℕ → ℕ → Telegram
enter_of a s = bare Enter a s

abbrev pub leave_of : ℕ → Telegram
leave_of a = bare Leave a 0

abbrev pub data_of : ℕ → Header → List Entry → Telegram
data_of a h done = record {
  kind = Data;
  address = a;
  method = 0;
  header = h;
  count = length done;
  entries = done ++ replicate (7 - length done) blank_entry;
}

-- The blank telegram, which stands for none.
abbrev pub blank : Telegram
blank = ack

-- The telegram that was read, and the blank one where a line was refused.
abbrev pub telegram_read : Answer Telegram → Telegram
telegram_read (refusal n) = blank
telegram_read (reads t) = t
