-- The data telegram, by what became of its header and entries.
use Prim.Native.Nat.{ℕ, ◌<◌}
use mathlib.Core.Bool.{Bool, true, false}
use mathlib.Core.List.{List, []}
use mathlib.Core.Path.{◌≡◌, refl, sym, ap, ap₂, ◌∙◌}
use native.Mathlib.Omega.{arith}
use lib.ListN.{take, drop}
use lib.Seq.{take-take, get_or-take}
use Rattle.std.specs.Prelude.{Result, Ok, Err}
use Rattle.base_rules.specs.declared.refusals.Refusal.{Refusal}
use Rattle.mbus_rules.specs.declared.Kind.TheVariants as kinds
use Rattle.mbus_rules.specs.declared.Outline.TheVariants as outlines
use Rattle.mbus_rules.specs.declared.Entry.{Entry}
use Rattle.mbus_rules.specs.declared.Header.{Header}
use Rattle.mbus_rules.specs.declared.Telegram.{Telegram}
use Rattle.base_rules.specs.Lists.{at}
use Rattle.base_rules.specs.Answers.{reads, refusal, refuse, within}
use Rattle.mbus_rules.specs.Headers.{header_of, wrong_header}
use Rattle.mbus_rules.specs.Entries.{read_entries}
use Rattle.base_rules.specs.Shown.{shown}
use Rattle.base_rules.proofs.Laws.AnswerLaws.{shown_ok, shown_refused, within_refused, within_read}
use Rattle.mbus_rules.specs.Telegrams.{data_of}
use Rattle.mbus_rules.specs.Lines.{read_data}
use Rattle.mbus_rules.specs.Outlines.{outlined}
use Rattle.mbus_entries.specs.Walking.{listed}
use Rattle.mbus_entries.specs.declared.Entries.{Entries}
use Rattle.mbus_reading.specs.Bodies.{body_of}

-- the header is the first twelve bytes
head_at : (d : List ℕ) (i : ℕ) → i < 12 → at (take 12 d) i ≡ at d i
head_at d i h = get_or-take 12 d i 0 h

number_at : (d : List ℕ) → take 4 (take 12 d) ≡ take 4 d
number_at d = take-take 4 12 d (omega arith)

pub head_wrong : (d : List ℕ) → wrong_header (take 12 d) ≡ wrong_header d
unfolding wrong_header
head_wrong d =
    rw (number_at d, head_at d 4 (omega arith), head_at d 5 (omega arith), head_at d 7 (omega arith), head_at d 10 (omega arith), head_at d 11 (omega arith))

pub head_is : (d : List ℕ) → header_of (take 12 d) ≡ header_of d
head_is d =
    rw (number_at d, head_at d 4 (omega arith), head_at d 5 (omega arith), head_at d 6 (omega arith))
    (rw (head_at d 7 (omega arith), head_at d 8 (omega arith), head_at d 9 (omega arith)))

data_is : (a : ℕ) (d : List ℕ) → read_data a d ≡ within (data_of a (header_of d)) (body_of d)
data_is a d = go (wrong_header d)
  where
    go : (t : Bool) → refuse 10 t (within (data_of a (header_of d)) (read_entries 0 (drop 12 d) [])) ≡ within (data_of a (header_of d))
        (refuse 10 t (read_entries 0 (drop 12 d) []))
    go true = refl
    go false = refl

-- the data telegram of entries in their places
abbrev data_made : ℕ → Entries → Header → Result Telegram Refusal
data_made a b h = Ok (record { kind = kinds.Data; address = a; method = 0; header = h; count = b.count; entries = b.entries })

module _ (a : ℕ) (d : List ℕ) where
  pub data_refused : {r : Refusal} → Err r ≡ shown (within listed (body_of d)) → read_data a d ≡ refusal r.0
  data_refused e =
      data_is a d ∙ ap (within (data_of a (header_of d))) (within_refused listed (body_of d) (shown_refused (within listed (body_of d)) (sym e)))

  module _ {b : Entries} (e : Ok b ≡ shown (within listed (body_of d))) where
    held : (done : List Entry) × (body_of d ≡ reads done) × (listed done ≡ b)
    held = within_read listed (body_of d) (shown_ok (within listed (body_of d)) b (sym e))

    whole : reads (data_of a (header_of d) held.0) ≡ read_data a d
    whole = sym (data_is a d ∙ ap (within (data_of a (header_of d))) held.1)

    pub data_outlined : outlines.Data a ≡ outlined (read_data a d)
    data_outlined = ap outlined whole

    pub data_accepted : {h : Header} → h ≡ header_of d → data_made a b h ≡ shown (read_data a d)
    data_accepted eh = ap₂ (data_made a) (sym held.2) eh ∙ ap shown whole
