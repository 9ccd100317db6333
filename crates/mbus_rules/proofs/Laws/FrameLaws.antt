-- The frames both ways, for any field.
use Prim.Native.Nat.{ℕ, suc, ◌+◌, ◌-◌, ◌%◌}
use mathlib.Core.Bool.{true, not}
use mathlib.Core.List.{List, [], ◌∷◌, ◌++◌}
use mathlib.Core.Path.{◌≡◌, refl, sym, ap, ap₂, ◌∙◌}
use native.Mathlib.Omega.{arith}
use borrow.Author.Tests.{eqb-true, eq-eqb, le-ltb}
use lib.ListN.{length, take, drop, length-drop, take-append-drop}
use lib.Seq.{take-append_seam, get_or-append-add, length-take-le}
use Rattle.base_rules.specs.Lists.{at, total}
use Rattle.base_rules.specs.Answers.{Answer}
use Rattle.mbus_rules.specs.Lines.{is_ack, wrong_start, wrong_count, wrong_lengths, wrong_end, field, wrong_sum, read_frame}
use Rattle.base_characters.specs.Closing.{closed}
use Rattle.mbus_rules.specs.Writing.{short_frame, long_frame}
use Rattle.base_characters.proofs.Laws.Closing.{closed_read, closed_length}
use Rattle.mbus_rules.proofs.Laws.Frames.{Short, Long}
use Rattle.base_rules.proofs.Laws.TestLaws.{all_passing}
use Rattle.base_rules.proofs.Laws.ByteLaws.{spell, spell_whole}

-- ---- what the rules 4 to 8 let pass

pub ack_read : (b : List ℕ) → is_ack b ≡ true → length b ≡ 1 → b ≡ 0xE5 ∷ []
ack_read b q n = spell_whole 1 b n ∙ rw (eqb-true (at b 0) 0xE5 q)

pub short_read : (b : List ℕ) → at b 0 ≡ 0x10 → Short b → (b ≡ short_frame (take 2 (drop 1 b))) × (length (take 2 (drop 1 b)) ≡ 2)
short_read b z s =
    let n : length b ≡ 5 = s.count in
    let two : length b - 3 ≡ 2 = omega arith in
    let head : take 1 b ≡ 0x10 ∷ [] = spell 1 0 b (omega arith) ∙ rw z in
    let tail : drop 1 b ≡ closed (take 2 (drop 1 b)) = closed_read 1 b (omega arith) s.closed ∙ ap (λ (k : ℕ). closed (take k (drop 1 b))) two in
    (sym (take-append-drop 1 b) ∙ ap₂ (λ (x y : List ℕ). x ++ y) head tail, ap length (spell 2 1 b (omega arith)))

pub long_read : (b : List ℕ) → Long b → b ≡ long_frame (take (length b - 6) (drop 4 b))
long_read b l =
    let f : List ℕ = take (length b - 6) (drop 4 b) in
    let n : length b ≡ at b 1 + 6 = l.count in
    let size : length f ≡ at b 1 = length-take-le (length b - 6) (drop 4 b) (rw (length-drop 4 b) (omega arith)) ∙ omega arith in
    let head : take 4 b ≡ 0x68 ∷ length f ∷ length f ∷ 0x68 ∷ [] = spell 4 0 b (omega arith) ∙ rw (l.start, l.again, ← l.twice, size) in
    sym (take-append-drop 4 b) ∙ ap₂ (λ (x y : List ℕ). x ++ y) head (closed_read 4 b (omega arith) l.closed)

-- ---- what is written passes the rules 4 to 8

pub short_written : {A : Type 0} (body : List ℕ → Answer A) (x y : ℕ) → read_frame body (short_frame (x ∷ y ∷ [])) ≡ body (short_frame (x ∷ y ∷ []))
short_written body x y =
    let cs : ℕ = total (x ∷ y ∷ []) % 256 in
    rw (eq-eqb cs cs refl)

module _ (f : List ℕ) where
  pub long_field : field (long_frame f) ≡ f
  long_field =
      let n : length (closed f) ≡ length f + 2 = closed_length f in
      let l : length (long_frame f) - 6 ≡ length f = omega arith in
      ap (λ (k : ℕ). take k (closed f)) l ∙ take-append_seam f (total f % 256 ∷ 0x16 ∷ [])

  -- the byte at a place after the field
  after : (i k : ℕ) → i ≡ suc (suc (suc (suc (length f + k)))) → at (long_frame f) i ≡ at (total f % 256 ∷ 0x16 ∷ []) k
  after i k e = ap (at (long_frame f)) e ∙ get_or-append-add f (total f % 256 ∷ 0x16 ∷ []) k 0

  pub long_written : {A : Type 0} (body : List ℕ → Answer A) → read_frame body (long_frame f) ≡ body (long_frame f)
  long_written body =
      let b : List ℕ = long_frame f in
      let n : length (closed f) ≡ length f + 2 = closed_length f in
      let cs : ℕ = total f % 256 in
      let sum : at b (length b - 2) ≡ total (field b) % 256 = after (length b - 2) 0 (omega arith) ∙ ap (λ (l : List ℕ). total l % 256) (sym long_field) in
      all_passing ((4, wrong_start b) ∷ (5, wrong_count b) ∷ (6, wrong_lengths b) ∷ (7, wrong_end b) ∷ (8, wrong_sum b) ∷ []) (body b) (
        refl,
        (
          rw (le-ltb (length b) 6 (omega arith), eq-eqb (length b) (length f + 6) (omega arith)),
          (
            rw (eq-eqb (length f) (length f) refl),
            (
              rw (after (length b - 1) 1 (omega arith)),
              (ap not (eq-eqb (at b (length b - 2)) (total (field b) % 256) sum), tt),
            ),
          ),
        ),
      )
