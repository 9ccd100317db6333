-- The refusal chain 1 to 8, form by form.
use Prim.Native.Nat.{ℕ, ◌+◌, ◌-◌, ◌%◌}
use mathlib.Core.Bool.{not, ◌||◌}
use mathlib.Core.List.{List}
use mathlib.Core.Path.{◌≡◌}
use borrow.Author.Tests.{ne_eqb}
use lib.Dec.{ltb, eqb}
use lib.ListN.{length, take, drop}
use Rattle.base_rules.specs.Lists.{at, total}
use Rattle.base_rules.specs.Answers.{Answer, refusal, refuse}
use Rattle.mbus_rules.specs.Lines.{read_frame}

module _ {A : Type 0} (body : List ℕ → Answer A) (b : List ℕ) where
  pub after_ack : at b 0 ≡ 0xE5 → read_frame body b ≡ refuse 5 (not (eqb (length b) 1)) (body b)
  after_ack e = rw e

  pub after_short : at b 0 ≡ 0x10
      → read_frame body b
      ≡ refuse 5 (not (eqb (length b) 5))
      (refuse 7 (not (eqb (at b (length b - 1)) 0x16))
      (refuse 8 (not (eqb (at b (length b - 2)) (total (take 2 (drop 1 b)) % 256)))
      (body b)))
  after_short e = rw e

  pub after_long : at b 0 ≡ 0x68
      → read_frame body b
      ≡ refuse 5 (ltb (length b) 6 || not (eqb (length b) (at b 1 + 6)))
      (refuse 6 (not (eqb (at b 1) (at b 2)) || not (eqb (at b 3) 0x68))
      (refuse 7 (not (eqb (at b (length b - 1)) 0x16))
      (refuse 8 (not (eqb (at b (length b - 2)) (total (take (length b - 6) (drop 4 b)) % 256)))
      (body b))))
  after_long e = rw e

  pub after_other : (at b 0 ≡ 0xE5 → ⊥) → (at b 0 ≡ 0x10 → ⊥) → (at b 0 ≡ 0x68 → ⊥) → read_frame body b ≡ refusal 4
  after_other n m k = rw (ne_eqb (at b 0) 0xE5 n, ne_eqb (at b 0) 0x10 m, ne_eqb (at b 0) 0x68 k)
