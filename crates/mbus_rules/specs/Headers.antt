-- 01, "Header, 12 bytes".
use Rattle.std.specs.Prelude.{ℕ, ◌+◌, ◌*◌, ◌/◌, ◌%◌, Bool, not, ◌&&◌, ◌||◌, List, ltb, leb, eqb, take}
use Rattle.mbus_rules.specs.declared.Header.{Header}
use Rattle.base_rules.specs.Lists.{at, any}
use Rattle.base_digits.specs.Digits.{over_nine, digits_of}

-- Maker, 2 bytes low first.
abbrev pub maker_of : List ℕ → ℕ
maker_of b = 256 * at b 5 + at b 4

-- Meter number, 4 bytes packed BCD, low byte first; maker; version; meter type; access number; status.
abbrev pub header_of : List ℕ → Header
header_of b = record {
  number = digits_of (take 4 b);
  maker = maker_of b;
  version = at b 6;
  meter_type = at b 7;
  access = at b 8;
  status = at b 9;
}

-- one group of five bits of a maker, 1 to 26 for A to Z
abbrev pub letter : ℕ → Bool
letter g = ltb 0 g && leb g 26

-- The maker's top bit is 0, then come three groups of five bits from the top.
abbrev pub maker_named : ℕ → Bool
maker_named m = ltb m 32768 && letter (m / 1024) && letter (m / 32 % 32) && letter (m % 32)

-- Meter type 04, 0B, 0C or 0D.
abbrev pub heat_meter : ℕ → Bool
heat_meter t = eqb t 0x04 || eqb t 0x0B || eqb t 0x0C || eqb t 0x0D

-- 10: the header rule is broken. The signature is 00 00; version, access and status are any byte.
unfoldable pub wrong_header : List ℕ → Bool
wrong_header b =
    any over_nine (take 4 b) || not (maker_named (maker_of b)) || not (heat_meter (at b 7)) || ltb 0 (at b 10) || ltb 0 (at b 11)
