-- Demand 2: reading and writing agree, in terms of what writing answers and leaves in the places lent to it.
use Rattle.std.specs.Prelude.{ℕ, ◌≤◌, ◌<◌, true, false, List, ◌++◌, ◌↔◌, ◌≡◌, length, drop}
use Rattle.base_lent.specs.Lent.{stored}
use Rattle.mbus_rules.specs.declared.Telegram.{Telegram}
use Rattle.base_rules.specs.Answers.{reads, refusal}
use Rattle.mbus_rules.specs.Lines.{read_line}
use Rattle.mbus_rules.specs.TelegramSizes.{Sized}
use Rattle.mbus_rules.specs.Writing.{line_of, unwritable, write_line}

-- An accepted line, read and written into enough places, gives the same characters in the first of them, and nothing beyond changes.
abbrev pub ReadAndWrite : Type 0
ReadAndWrite =
    (s : List ℕ) (t : Telegram) (out : List ℕ) → read_line s ≡ reads t → length s ≤ length out
    → (write_line t (length out) ≡ reads s) × (stored (λ (line : List ℕ). line) out (write_line t (length out)) ≡ s ++ drop (length s) out)

-- A telegram that can be written, written into enough places and read, gives itself.
abbrev pub WriteAndRead : Type 0
WriteAndRead =
    (t : Telegram) (out : List ℕ) → Sized t → unwritable t ≡ false → length (line_of t) ≤ length out
    → (s : List ℕ) × (write_line t (length out) ≡ reads s) × (read_line s ≡ reads t)

-- Too few places is 21, and 21 is nothing else.
abbrev pub TooFewPlaces : Type 0
TooFewPlaces = (t : Telegram) (places : ℕ) → unwritable t ≡ false → places < length (line_of t) → write_line t places ≡ refusal 21

-- 20 is given exactly where no accepted line reads as the telegram.
abbrev pub CannotBeWritten : Type 0
CannotBeWritten = (t : Telegram) → Sized t → (unwritable t ≡ true) ↔ ((s : List ℕ) → read_line s ≡ reads t → ⊥)

abbrev pub RefusedBy20 : Type 0
RefusedBy20 = (t : Telegram) (places : ℕ) → unwritable t ≡ true → write_line t places ≡ refusal 20
