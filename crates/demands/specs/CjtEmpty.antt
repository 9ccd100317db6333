-- Empty programs for CJ/T 188 lines are caught: each statement stands here as a demand on any program; the rules meet it, and these programs do not.
use Rattle.std.specs.Prelude.{ℕ, ◌≤◌, false, List, ◌∷◌, ◌++◌, ◌≢◌, ◌≡◌, length, drop, replicate}
use Rattle.base_lent.specs.Lent.{stored}
use Rattle.base_rules.specs.Lists.{at}
use Rattle.base_characters.specs.Characters.{carrier}
use Rattle.base_rules.specs.Answers.{Answer, reads, refusal}
use Rattle.base_characters.specs.Flips.{Place, Places, flips}
use Rattle.cjt_rules.specs.declared.CjtTelegram.{CjtTelegram}
use Rattle.cjt_rules.specs.CjtLines.{read_cjt_line}
use Rattle.cjt_rules.specs.CjtWriting.{cjt_line_of, unwritten, write_cjt_line}
use Rattle.cjt_rules.specs.CjtSizes.{CjtSized}

-- ---- a reader

abbrev pub ReadsCjt : (List ℕ → Answer CjtTelegram) → Type 0
ReadsCjt read =
    (t : CjtTelegram) (out : List ℕ) → CjtSized t → unwritten t ≡ false → length (cjt_line_of t) ≤ length out
    → (s : List ℕ) × (write_cjt_line t (length out) ≡ reads s) × (read s ≡ reads t)

abbrev pub RulesReadCjt : Type 0
RulesReadCjt = ReadsCjt read_cjt_line

-- one that refuses every line, by whatever numbers
abbrev pub RefusesEveryCjtLine : Type 0
RefusesEveryCjtLine = (number : List ℕ → ℕ) → ReadsCjt (λ s. refusal (number s)) → ⊥

-- one that says the same telegram to each line: it breaks the flips,
abbrev pub RefusesCjtFlips : (List ℕ → Answer CjtTelegram) → Type 0
RefusesCjtFlips read =
    (s : List ℕ) (ps : List Place) → ((t : CjtTelegram) × (read s ≡ reads t)) → Places s ps → 1 ≤ length ps → length ps ≤ 3
    → ¬ ((t : CjtTelegram) × (read (flips ps s) ≡ reads t))

abbrev pub RulesRefuseCjtFlips : Type 0
RulesRefuseCjtFlips = RefusesCjtFlips read_cjt_line

abbrev pub SaysOneTelegram : Type 0
SaysOneTelegram = (t : CjtTelegram) → RefusesCjtFlips (λ s. reads t) → ⊥

-- and one that skips no FE bytes, though it reads every line without them
abbrev pub SkipsFront : (List ℕ → Answer CjtTelegram) → Type 0
SkipsFront read = (n c : ℕ) (s : List ℕ) → n ≤ 5 → c ≢ carrier 0xFE → read (replicate n (carrier 0xFE) ++ c ∷ s) ≡ read (c ∷ s)

abbrev pub RulesSkipFront : Type 0
RulesSkipFront = SkipsFront read_cjt_line

abbrev pub SkipsNoFront : Type 0
SkipsNoFront =
    (read : List ℕ → Answer CjtTelegram) (number : ℕ)
    → ((s : List ℕ) → at s 0 ≢ carrier 0xFE → read s ≡ read_cjt_line s) → ((s : List ℕ) → at s 0 ≡ carrier 0xFE → read s ≡ refusal number)
    → SkipsFront read → ⊥

-- ---- a writer: what it answers, and what it then leaves in the places

abbrev pub WritesCjt : (CjtTelegram → ℕ → Answer (List ℕ)) → (List ℕ → Answer (List ℕ) → List ℕ) → Type 0
WritesCjt write leaves =
    (s : List ℕ) (t : CjtTelegram) (out : List ℕ) → at s 0 ≢ carrier 0xFE → read_cjt_line s ≡ reads t → length s ≤ length out
    → (write t (length out) ≡ reads s) × (leaves out (write t (length out)) ≡ s ++ drop (length s) out)

abbrev pub RulesWriteCjt : Type 0
RulesWriteCjt = WritesCjt write_cjt_line (stored (λ (line : List ℕ). line))

-- one that refuses every telegram, by 21 or whatever numbers
abbrev pub RefusesEveryCjtTelegram : Type 0
RefusesEveryCjtTelegram =
    (number : CjtTelegram → ℕ → ℕ) (leaves : List ℕ → Answer (List ℕ) → List ℕ)
    → WritesCjt (λ t places. refusal (number t places)) leaves → ⊥

-- one that does nothing, whatever it answers
abbrev pub CjtWriterDoesNothing : Type 0
CjtWriterDoesNothing = (write : CjtTelegram → ℕ → Answer (List ℕ)) → WritesCjt write (λ out a. out) → ⊥
