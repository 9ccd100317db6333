-- One walk over characters that gathers range, parity and sum and stores the bytes.
use Rattle.std.proofs.Common.{◌≡◌, ℕ, ◌+◌, ◌%◌, ◌<◌, ◌≤◌, List, [], ◌∷◌, map, length, take, set, sym, ap, ◌∙◌, subst, zero-add, arith, take_all}
use lib.Bits.{bit_or}
use lib.ListN.{length-map}
use Rattle.std.specs.Prelude.{Result}
use Rattle.base_rules.specs.declared.refusals.Refusal.{Refusal}
use Rattle.base_rules.specs.Lists.{at}
use Rattle.base_characters.specs.Characters.{byte_of}
use Rattle.base_rules.specs.Shown.{shown}
use Rattle.base_characters.proofs.Laws.CharacterLaws.{at_bytes}
use Rattle.base_lent.proofs.Laws.Copying.{Copied, copied_none, copied_next, copied_whole}
use Rattle.base_lent.specs.Copying.{copied}
use Rattle.base_characters.specs.declared.Gathering.{Gathering}
use Rattle.base_characters.specs.Gathering.{Flagged, Parted, sound_by, gathered}
use Rattle.base_characters.proofs.Laws.PartLaws.{parted_none, parted_next, parted_told}

-- what was gathered of the first of some characters, whose bytes are stored from a place on
pub record Walk (s low : List ℕ) (from i flags sum : ℕ) (now : List ℕ) : Type 0 where
  pub parted : Parted (take i s) flags sum
  pub stored : Copied low from (map byte_of s) i now

pub walk_none : {s low : List ℕ} {from : ℕ} → from + length s ≤ length low → Walk s low from 0 0 0 low
walk_none {s} h = record { parted = parted_none; stored = copied_none (omega (arith, length-map s byte_of)) }

module _ {s low : List ℕ} {from i flags sum : ℕ} {now : List ℕ} (w : Walk s low from i flags sum now) where
  pub walk_next : i < length s → {c flag : ℕ} → c ≡ at s i → Flagged (c ∷ []) flag
      → Walk s low from (i + 1) (bit_or flags flag) ((sum + c) % 65536) (set now (from + i) (byte_of c))
  walk_next h {c} e f = record {
    parted = parted_next s w.parted h e f;
    stored = copied_next w.stored 0 (omega (arith, length-map s byte_of)) (ap byte_of e ∙ sym (at_bytes s i));
  }

  module _ (h : length s ≤ i) where
    pub walk_parted : Parted s flags sum
    walk_parted = rw (take_all i s h) at w.parted

    pub walk_all : {o : Result (Unit {0}) Refusal} → o ≡ shown (sound_by flags) → ◌≡◌ {A = Gathering} (record { outcome = o; sum = sum % 256 }) (gathered s)
    walk_all e = (λ k. record { outcome = e k; sum = sum % 256 }) ∙ parted_told walk_parted

    pub walk_stored : now ≡ copied low from (map byte_of s)
    walk_stored = copied_whole w.stored (omega (arith, length-map s byte_of))

-- from the first place on
pub walk_first : {s low : List ℕ} {i flags sum : ℕ} {now : List ℕ} → Walk s low 0 i flags sum now → i < length s → {c flag : ℕ} → c ≡ at s i
    → Flagged (c ∷ []) flag → Walk s low 0 (i + 1) (bit_or flags flag) ((sum + c) % 65536) (set now i (byte_of c))
walk_first {s} {low} {i} {flags} {sum} {now} w h {c} {flag} e f =
    subst (λ (k : ℕ). Walk s low 0 (i + 1) (bit_or flags flag) ((sum + c) % 65536) (set now k (byte_of c))) (zero-add i) (walk_next w h e f)

-- at places that count on from another one
pub walk_turn : {s low : List ℕ} {from i flags sum : ℕ} {now : List ℕ} → Walk s low from i flags sum now → i < length s → {c flag : ℕ} → c ≡ at s i
    → Flagged (c ∷ []) flag → {p j : ℕ} → p ≡ from + i → j ≡ i + 1 → Walk s low from j (bit_or flags flag) ((sum + c) % 65536) (set now p (byte_of c))
walk_turn w h e f ep ej = rw (ep, ej) (walk_next w h e f)
