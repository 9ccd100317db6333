-- The rules 80 and 81 as the code tries them.
use Rattle.std.proofs.Common.{◌≡◌, ℕ, ◌+◌, ◌-◌, ◌%◌, ◌<◌, ◌≤◌, Bool, true, false, not, ◌||◌, eqb, List, length, take, sym, refl, ap, ◌∙◌, ⊎_elim, true≢false, arith, eq-eqb, ne_eqb, eqb-true}
use borrow.Author.Tests.{eqb-false}
use Rattle.base_rules.specs.Lists.{at, total}
use Rattle.base_characters.proofs.Laws.Closing.{last_two}
use Rattle.base_rules.proofs.Laws.Tests.{by_test}
use Rattle.cjt_rules.specs.CjtFrames.{asks_length, tells_length, wrong_frame, wrong_frame_sum}
use Rattle.cjt_rules.proofs.Laws.FrameCode.{Shaped, shaped_by, shaped_counts}

module _ (b : List ℕ) where
  pub frame_unknown : (asks_length b || tells_length b) ≡ false → wrong_frame b ≡ true
  frame_unknown e = go (eqb (at b 0) 0x68) (eqb (length b) (at b 10 + 13)) (eqb (at b (length b - 1)) 0x16) (asks_length b || tells_length b) e
    where
      go : (s n l k : Bool) → k ≡ false → (not s || not k || not n || not l) ≡ true
      go true n l false h = refl
      go false n l false h = refl
      go s n l true h = absurd (true≢false h)

  pub frame_count : eqb (length b) (at b 10 + 13) ≡ false → wrong_frame b ≡ true
  frame_count e = rw e (or-true-left (not (eqb (at b 0) 0x68) || not (asks_length b || tells_length b)) (not (eqb (at b (length b - 1)) 0x16)))
    where
      or-true-left : (x y : Bool) → (x || true || y) ≡ true
      or-true-left true y = refl
      or-true-left false y = refl

  pub frame_ends : (asks_length b || tells_length b) ≡ true → eqb (length b) (at b 10 + 13) ≡ true
      → wrong_frame b ≡ (not (eqb (at b 0) 0x68) || not (eqb (at b (length b - 1)) 0x16))
  frame_ends k n = rw (k, n) (go (not (eqb (at b 0) 0x68)) (not (eqb (at b (length b - 1)) 0x16)))
    where
      go : (x y : Bool) → (x || false || false || y) ≡ (x || y)
      go true y = refl
      go false y = refl

  -- a frame has 16 bytes or 59
  pub frame_least : wrong_frame b ≡ false → 16 ≤ length b
  frame_least e = ⊎_elim (λ n. omega arith) (λ n. omega arith) (shaped_counts b (shaped_by b e))

  pub frame_most : 59 < length b → wrong_frame b ≡ true
  frame_most h =
      by_test (wrong_frame b) (λ t. t) (λ f. absurd (⊎_elim (λ n. omega arith) (λ n. omega arith) (shaped_counts b (shaped_by b f))))

-- 81, by numbers alone
told : (cs f sum : ℕ) → cs < 256 → sum ≡ (f + cs + 0x16) % 256 → eqb sum (((cs + cs) % 256 + 0x16) % 256) ≡ eqb cs (f % 256)
told cs f sum h e =
    by_test (eqb cs (f % 256)) (λ t. eq-eqb sum (((cs + cs) % 256 + 0x16) % 256) (omega (arith, eqb-true cs (f % 256) t)) ∙ sym t)
    (λ t. ne_eqb sum (((cs + cs) % 256 + 0x16) % 256) (λ u. eqb-false cs (f % 256) t (omega arith)) ∙ sym t)

-- and by the sum of all bytes
pub sum_told : (b : List ℕ) {sum own : ℕ} → wrong_frame b ≡ false → sum ≡ total b % 256 → own ≡ at b (length b - 2) → own < 256
    → not (eqb sum (((own + own) % 256 + 0x16) % 256)) ≡ wrong_frame_sum b
sum_told b {sum} {own} f e o h =
    let k : Shaped b = shaped_by b f in
    let n : 16 ≤ length b = frame_least b f in
    let parts : total b ≡ total (take (length b - 2) b) + own + 0x16 = last_two b (omega arith) ∙ rw (← o, k.end) in
    ap not (told own (total (take (length b - 2) b)) sum h (rw parts at e) ∙ ap (λ (x : ℕ). eqb x (total (take (length b - 2) b) % 256)) o)
