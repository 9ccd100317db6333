-- 02, 2026-05: 15 was never given, and taking it out changed no answer. `line_with15` is 01's chain as it stood before.
use Rattle.std.specs.Prelude.{ℕ, List, ◌≡◌}
use Rattle.base_rules.specs.Answers.{refusal}
use Rattle.mbus_rules.specs.Lines.{read_line}
use Rattle.mbus_rules.specs.Fifteen.{line_with15}

-- Both chains answer alike on every list of characters.
abbrev pub AnswersAlike : Type 0
AnswersAlike = (s : List ℕ) → line_with15 s ≡ read_line s

-- No list of characters is refused by 15, in the chain that has it: seven different quantities are all there are, and an eighth entry repeats one.
abbrev pub Never15 : Type 0
Never15 = (s : List ℕ) → line_with15 s ≡ refusal 15 → ⊥
