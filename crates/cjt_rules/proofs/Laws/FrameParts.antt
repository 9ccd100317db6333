-- A frame by its parts, both ways.
use Prim.Native.Nat.{ℕ, ◌+◌, ◌-◌, ◌%◌}
use native.Mathlib.Omega.{arith}
use mathlib.Core.List.{List, [], ◌∷◌, ◌++◌}
use mathlib.Core.Path.{◌≡◌, refl, sym, ap, ap₂, subst, ◌∙◌}
use lib.ListN.{length, take, drop, length-drop}
use lib.Seq.{take-add, take_at, drop-drop, get_or-append-add, length-take-le}
use Rattle.base_rules.specs.Lists.{at, total}
use Rattle.base_characters.specs.Closing.{closed}
use Rattle.base_rules.proofs.Laws.ByteLaws.{spell, spell_whole}
use Rattle.base_characters.proofs.Laws.Closing.{Closed, closed_length, closed_read}
use Rattle.cjt_rules.specs.CjtAddresses.{party_bytes}
use Rattle.cjt_rules.specs.CjtWriting.{frame_of}
use Rattle.cjt_rules.proofs.Laws.FrameCode.{Framed}

-- ---- a list cut into parts

-- so many bytes from a place on, then so many more
pub join : (i n m : ℕ) (b : List ℕ) → take (n + m) (drop i b) ≡ take n (drop i b) ++ take m (drop (i + n) b)
join i n m b = take-add n m (drop i b) ∙ ap (λ (l : List ℕ). take n (drop i b) ++ take m l) (drop-drop n i b)

-- ---- what is written

-- a list that is closed from its first byte on
pub closed_first : (f : List ℕ) → Closed 0 (closed f)
closed_first f =
    let n : length (closed f) ≡ length f + 2 = closed_length f in
    let tail : List ℕ = total f % 256 ∷ 0x16 ∷ [] in
    let end : length (closed f) - 1 ≡ length f + 1 = omega arith in
    let sum : length (closed f) - 2 ≡ length f + 0 = omega arith in
    let part : take (length (closed f) - 2) (closed f) ≡ f = take_at f tail (length (closed f) - 2) (omega arith) in
    record {
      end = ap (at (closed f)) end ∙ get_or-append-add f tail 1 0;
      sum = ap (at (closed f)) sum ∙ get_or-append-add f tail 0 0 ∙ ap (λ (l : List ℕ). total l % 256) (sym part);
    }

-- where each part of a frame stands
pub record Parts (t : ℕ) (party : List ℕ) (c : ℕ) (d b : List ℕ) : Type 0 where
  pub start : at b 0 ≡ 0x68
  pub meter : at b 1 ≡ t
  pub address : party_bytes b ≡ party
  pub control : at b 9 ≡ c
  pub size : at b 10 ≡ length d
  pub data_there : (rest : List ℕ) × (drop 11 b ≡ d ++ rest)
  pub count : length b ≡ length d + 13
  pub closed : Closed 0 b

-- with seven address bytes
parts_of : (t control a₀ a₁ a₂ a₃ a₄ a₅ a₆ : ℕ) (d : List ℕ)
    → Parts t (a₀ ∷ a₁ ∷ a₂ ∷ a₃ ∷ a₄ ∷ a₅ ∷ a₆ ∷ []) control d (frame_of t (a₀ ∷ a₁ ∷ a₂ ∷ a₃ ∷ a₄ ∷ a₅ ∷ a₆ ∷ []) control d)
parts_of t control a₀ a₁ a₂ a₃ a₄ a₅ a₆ d =
    let f : List ℕ = 0x68 ∷ t ∷ a₀ ∷ a₁ ∷ a₂ ∷ a₃ ∷ a₄ ∷ a₅ ∷ a₆ ∷ control ∷ length d ∷ d in
    record {
      start = refl;
      meter = refl;
      address = refl;
      control = refl;
      size = refl;
      data_there = (total f % 256 ∷ 0x16 ∷ [], refl);
      count = closed_length f ∙ omega arith;
      closed = closed_first f;
    }

pub frame_parts : (t : ℕ) (party : List ℕ) (control : ℕ) (d : List ℕ) → length party ≡ 7 → Parts t party control d (frame_of t party control d)
frame_parts t party control d seven =
    subst (λ (p : List ℕ). Parts t p control d (frame_of t p control d)) (sym (spell_whole 7 party seven))
    (parts_of t control (at party 0) (at party 1) (at party 2) (at party 3) (at party 4) (at party 5) (at party 6) d)

-- ---- what is read

-- a line that 80 and 81 leave is what is written of its parts
pub framed_is : (b : List ℕ) → Framed b → b ≡ frame_of (at b 1) (party_bytes b) (at b 9) (take (at b 10) (drop 11 b))
framed_is b f =
    let n : length b ≡ at b 10 + 13 = f.count in
    let m : ℕ = at b 10 in
    let d : List ℕ = take m (drop 11 b) in
    let size : length d ≡ m = length-take-le m (drop 11 b) (rw (length-drop 11 b) (omega arith)) in
    let whole : length b - 2 ≡ 2 + (7 + (2 + m)) = omega arith in
    let head : take 2 b ≡ 0x68 ∷ at b 1 ∷ [] = spell 2 0 b (omega arith) ∙ rw f.start in
    let middle : take 2 (drop 9 b) ≡ at b 9 ∷ length d ∷ [] = spell 2 9 b (omega arith) ∙ rw size in
    let cut : take (length b - 2) b ≡ 0x68 ∷ at b 1 ∷ (party_bytes b ++ (at b 9 ∷ length d ∷ d)) =
    ap (λ (k : ℕ). take k b) whole ∙ join 0 2 (7 + (2 + m)) b ∙ ap₂ (λ (x y : List ℕ). x ++ y) head
    (join 2 7 (2 + m) b ∙ ap (λ (l : List ℕ). party_bytes b ++ l) (join 9 2 m b ∙ ap (λ (l : List ℕ). l ++ d) middle)) in
    closed_read 0 b (omega arith) f.closed ∙ ap closed cut
