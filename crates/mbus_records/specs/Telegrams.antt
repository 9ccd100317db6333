-- The record of a telegram: `struct skarrowith_telegram` of include/skarrowith.h, 136 bytes, numbers low byte first.
use Rattle.std.specs.Prelude.{ℕ, zero, suc, cond, List, [], ◌∷◌, ◌++◌, eqb, take, drop}
use Rattle.std.specs.Int.{w64}
use Rattle.std.proofs.Common.{to_z, of_z}
use Rattle.mbus_rules.specs.declared.Value.{Value}
use Rattle.mbus_rules.specs.declared.Value.TheVariants.{Number, Time, Binary}
use Rattle.mbus_rules.specs.declared.Entry.{Entry}
use Rattle.mbus_rules.specs.declared.Header.{Header}
use Rattle.mbus_rules.specs.declared.Telegram.{Telegram}
use Rattle.base_rules.specs.Answers.{Answer}
use Rattle.mbus_rules.specs.Host.{kind_number}
use Rattle.base_rules.specs.Lists.{at}
use Rattle.mbus_telegrams.specs.Kinds.{kind_in}
use Rattle.base_lent.specs.Pieces.{pieces}
use Rattle.base_numbers.specs.Numbers.{number, bytes_of}
use Rattle.base_numbers.specs.Records.{record_of}
use Rattle.base_lent.specs.Recorded.{recorded}

abbrev pub telegram_size : ℕ
telegram_size = 136

-- ---- written

-- 0 for a decimal number, 1 for a point in time, 2 for a number in binary (02, 2026-06)
abbrev pub sort_of : Value → ℕ
sort_of (Number d) = 0
sort_of (Time m) = 1
sort_of (Binary w) = 2

-- a number in two's complement, which is `int64_t`
abbrev pub value_record : Value → List ℕ
value_record (Number d) = bytes_of 8 (of_z w64 d.count)
value_record (Time m) = m.year ∷ m.month ∷ m.day ∷ m.hour ∷ m.minute ∷ m.second ∷ m.weekday ∷ 0 ∷ []
value_record (Binary w) = bytes_of 8 (of_z w64 w.count)

abbrev pub entry_bytes : Entry → List ℕ
entry_bytes e = e.structure ∷ e.unit ∷ sort_of e.value ∷ 0 ∷ 0 ∷ 0 ∷ 0 ∷ 0 ∷ value_record e.value

abbrev pub entries_bytes : List Entry → List ℕ
entries_bytes entries = pieces entry_bytes entries

abbrev pub telegram_head : Telegram → List ℕ
telegram_head t =
    (kind_number t.kind ∷ t.address ∷ t.method ∷ t.header.version ∷ [])
    ++ (bytes_of 4 t.header.number
    ++ (bytes_of 2 t.header.maker
    ++ (t.header.meter_type ∷ t.header.access ∷ t.header.status ∷ 0 ∷ 0 ∷ 0 ∷ [])))

unfoldable pub telegram_bytes : Telegram → List ℕ
telegram_bytes t = record_of (telegram_head t) (t.count ∷ []) (entries_bytes t.entries)

-- ---- read

abbrev pub value_in : ℕ → List ℕ → Value
value_in sort b =
    cond (eqb sort 1)
    (Time (record { year = at b 8; month = at b 9; day = at b 10; hour = at b 11; minute = at b 12; second = at b 13; weekday = at b 14 }))
    (cond (eqb sort 2) (Binary (record { count = to_z w64 (number (take 8 (drop 8 b))) })) (Number (record { count = to_z w64 (number (take 8 (drop 8 b))) })))

unfoldable pub entry_in : List ℕ → Entry
entry_in b = record { structure = at b 0; unit = at b 1; value = value_in (at b 2) b }

abbrev pub entry_at : List ℕ → ℕ → Entry
entry_at b i = entry_in (take 16 (drop i b))

unfoldable pub entries_in : ℕ → List ℕ → List Entry
entries_in zero b = []
entries_in (suc k) b = entry_in (take 16 b) ∷ entries_in k (drop 16 b)

abbrev pub header_in : List ℕ → Header
header_in b = record {
  number = number (take 4 (drop 4 b));
  maker = number (take 2 (drop 8 b));
  version = at b 3;
  meter_type = at b 10;
  access = at b 11;
  status = at b 12;
}

unfoldable pub telegram_in : List ℕ → Telegram
telegram_in b = record {
  kind = kind_in (at b 0);
  address = at b 1;
  method = at b 2;
  header = header_in b;
  count = number (take 8 (drop 16 b));
  entries = entries_in 7 (drop 24 b);
}

-- The telegram whose record the bytes are, or 101.
abbrev pub telegram_from : List ℕ → Answer Telegram
telegram_from b = recorded telegram_bytes telegram_in b
