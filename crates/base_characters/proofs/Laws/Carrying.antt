-- Characters written: a loop that copies with parity, and the ways out.
use Rattle.std.proofs.Common.{◌≡◌, ℕ, ◌+◌, ◌*◌, ◌%◌, ◌<◌, ◌≤◌, true, false, eqb, ltb, List, map, length, get_or, set, sym, refl, ap, ◌∙◌, zero-add, arith, le-ltb, lt-ltb, eqb-true}
use lib.Count.{ones_in}
use lib.ListN.{length-map}
use Rattle.base_lent.specs.Copying.{laid}
use Rattle.base_lent.proofs.Laws.Copying.{Copied, copied_none, copied_next, copied_length, copied_all}
use Rattle.base_rules.proofs.Laws.Tests.{below}
use Rattle.base_characters.specs.Characters.{carrier}
use Rattle.base_characters.proofs.Laws.Folding.{fold}
use lib.ListN.{length-map, get_or-map}
use lib.ListN.{length-map}
use Rattle.std.proofs.Common.{Ok, Err}
use Rattle.base_rules.specs.Shown.{refused_by}
use Rattle.base_characters.specs.Carrying.{Writes, carried_in}

-- the characters that carry bytes, from the first place on
pub record CarriedSoFar (s d : List ℕ) (i : ℕ) (now : List ℕ) : Type 0 where
  pub copied : Copied d 0 (map carrier s) i now

pub carried_none : {s d : List ℕ} → length s ≤ length d → CarriedSoFar s d 0 d
carried_none {s} {d} h =
    let n : length (map carrier s) ≡ length s = length-map s carrier in
    record { copied = copied_none (omega arith) }

module _ {s d : List ℕ} {i : ℕ} {now : List ℕ} (g : CarriedSoFar s d i now) where
  pub carried_next : {x : ℕ} → i < length s → x ≡ carrier (get_or s i 0) → CarriedSoFar s d (i + 1) (set now i x)
  carried_next {x} h e =
      let n : length (map carrier s) ≡ length s = length-map s carrier in
      let next : Copied d 0 (map carrier s) (i + 1) (set now (0 + i) x) = copied_next g.copied (carrier 0) (omega arith)
      (e ∙ sym (get_or-map carrier s i 0)) in
      record { copied = rw (zero-add i) at next }

  pub carried_length : length now ≡ length d
  carried_length = copied_length g.copied

  pub carried_all : length s ≤ i → now ≡ laid d 0 (map carrier s)
  carried_all h =
      let n : length (map carrier s) ≡ length s = length-map s carrier in
      copied_all g.copied (omega arith)

-- the parity of a byte, folded onto its lowest bit
pub carrier_folded : (b : ℕ) → b < 256 → 256 * (fold 2 (fold 4 (fold 16 b)) % 2) + b ≡ carrier b
unfolding ones_in carrier
carrier_folded b h = eqb-true _ _ (below 256 (λ (n : ℕ). eqb (256 * (fold 2 (fold 4 (fold 16 n)) % 2) + n) (carrier n)) refl b h)

-- ---- the ways out

module _ (bytes before : List ℕ) where
  pub bytes_short : length before < length bytes → Writes (carried_in bytes (length before)) before before (Err (refused_by 21))
  bytes_short h =
      let short : ltb (length before) (length (map carrier bytes)) ≡ true = rw (length-map bytes carrier) (lt-ltb (length before) (length bytes) h) in
      record { answer = rw short; places = rw short }

  pub bytes_written : length bytes ≤ length before → {after : List ℕ} → after ≡ laid before 0 (map carrier bytes)
      → Writes (carried_in bytes (length before)) before after (Ok (length bytes))
  bytes_written h e =
      let room : ltb (length before) (length (map carrier bytes)) ≡ false = rw (length-map bytes carrier) (le-ltb (length before) (length bytes) h) in
      record { answer = rw room (ap Ok (sym (length-map bytes carrier))); places = rw room e }
