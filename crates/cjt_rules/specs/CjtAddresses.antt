-- 02, 2026-08: "Types 20–23 and 25–27 from 002. Address bytes are BCD, or all seven AA for broadcast in a request."
use Rattle.std.specs.Prelude.{ℕ, Bool, cond, not, ◌&&◌, ◌||◌, List, eqb, take, drop}
use Rattle.base_rules.specs.Lists.{at, any, between}
use Rattle.base_digits.specs.Digits.{over_nine, digits_of}
use Rattle.cjt_rules.specs.declared.CjtAddress.{CjtAddress}
use Rattle.cjt_rules.specs.declared.CjtAddress.TheVariants.{Meter, Broadcast}
use Rattle.cjt_rules.specs.CjtFrames.{asks_length}

-- the types of 002's table 2
abbrev pub heat_type : ℕ → Bool
heat_type t = between 0x20 0x23 t || between 0x25 0x27 t

-- A0 to A6, low byte first
abbrev pub party_bytes : List ℕ → List ℕ
party_bytes b = take 7 (drop 2 b)

abbrev pub not_aa : ℕ → Bool
not_aa x = not (eqb x 0xAA)

-- all of them are AA
abbrev pub all_aa : List ℕ → Bool
all_aa a = not (any not_aa a)

-- fourteen digits, or every meter
abbrev pub party_of : List ℕ → CjtAddress
party_of a = cond (all_aa a) Broadcast (Meter (digits_of a))

-- 82: type or address; AA is refused with length 2E
abbrev pub wrong_party : List ℕ → Bool
wrong_party b = not (heat_type (at b 1)) || (any over_nine (party_bytes b) && not (asks_length b && all_aa (party_bytes b)))
