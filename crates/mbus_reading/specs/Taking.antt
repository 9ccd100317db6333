-- 02, 2026-02: a line is taken in by a single pass over its characters.
use Rattle.std.specs.Prelude.{ℕ, ◌%◌, cond, List, [], ◌∷◌, map, ◌≡◌, length, take, Result, Ok, Err}
use Rattle.base_rules.specs.declared.refusals.Refusal.{Refusal}
use Rattle.base_rules.specs.Lists.{total}
use Rattle.base_rules.specs.Shown.{refused_by}
use Rattle.base_characters.specs.Characters.{byte_of}
use Rattle.base_rules.specs.Answers.{refusal}
use Rattle.mbus_rules.specs.Lines.{wrong_start, read_body, read_frame, read_line}

-- what is then known: by what it is refused; or that only the rules on bytes are left, and the bytes, in the first places
abbrev pub TakenFew : List ℕ → List ℕ → Result (Unit {0}) Refusal → Type 0
TakenFew s low (Err e) = read_line s ≡ refusal e.0
TakenFew s low (Ok u) = (read_line s ≡ read_frame read_body (map byte_of s)) × (take (length s) low ≡ map byte_of s)

-- and with them their sum
abbrev pub TakenBytes : List ℕ → List ℕ → Result ℕ Refusal → Type 0
TakenBytes s low (Err e) = read_line s ≡ refusal e.0
TakenBytes s low (Ok sum) =
    (read_line s ≡ read_frame read_body (map byte_of s)) × (take (length s) low ≡ map byte_of s) × (sum ≡ total (map byte_of s) % 256)

-- the refusal of more than 261 characters, which no form has: 2 or 3, then 4 by the first byte, and 5
abbrev pub far_by : Result (Unit {0}) Refusal → ℕ → Refusal
far_by (Err e) first = e
far_by (Ok u) first = refused_by (cond (wrong_start (first ∷ [])) 4 5)
