-- 02, 2026-08: "the frame: 68, type, seven address bytes, control, length, data, sum, 16" (001, 2.3; 002, table 1), on bytes.
use Rattle.std.specs.Prelude.{ℕ, zero, suc, ◌+◌, ◌-◌, ◌%◌, Bool, cond, not, ◌||◌, List, [], ◌∷◌, eqb, length, take}
use Rattle.base_rules.specs.Lists.{at, total}

-- FE bytes in front, none to five, are skipped before the line begins; `left` of them still may be.
unfoldable pub past_fe : (left : ℕ) → List ℕ → List ℕ
past_fe zero b = b
past_fe (suc left) [] = []
past_fe (suc left) (x ∷ b) = cond (eqb x 0xFE) (past_fe left b) (x ∷ b)

-- The length byte counts the data: 03 for a request, 2E for an answer (001, 3.01; it decides over 002's 32).
abbrev pub asks_length : List ℕ → Bool
asks_length b = eqb (at b 10) 0x03

abbrev pub tells_length : List ℕ → Bool
tells_length b = eqb (at b 10) 0x2E

-- 80: first byte not 68, length byte not 03 or 2E, count not the one that it gives, or last byte not 16
abbrev pub wrong_frame : List ℕ → Bool
wrong_frame b =
    not (eqb (at b 0) 0x68) || not (asks_length b || tells_length b) || not (eqb (length b) (at b 10 + 13))
    || not (eqb (at b (length b - 1)) 0x16)

-- 81: sum wrong; it starts at the first 68 and ends before the sum's own byte, modulo 256
abbrev pub wrong_frame_sum : List ℕ → Bool
wrong_frame_sum b = not (eqb (at b (length b - 2)) (total (take (length b - 2) b) % 256))
