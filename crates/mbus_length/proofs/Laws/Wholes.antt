-- Laws of `specs/Wholes`: the ways out of the functions.
use Prim.Native.Nat.{ℕ}
use mathlib.Core.Bool.{Bool, true, false, cond, ◌&&◌}
use mathlib.Core.List.{List, map}
use mathlib.Core.Path.{◌≡◌}
use borrow.Author.Tests.{ne_eqb}
use lib.Dec.{eqb, ltb}
use lib.ListN.{length, length-map}
use Rattle.base_rules.specs.Lists.{at}
use Rattle.base_characters.specs.Characters.{byte_of}
use Rattle.mbus_length.specs.declared.HowLong.TheVariants.{Known, NotYet, NoLine}
use Rattle.mbus_shape.specs.First.{left_by}
use Rattle.mbus_length.specs.Lengths.{unsound_in, lacks_count, line_length}

-- ---- the answer

module _ (s : List ℕ) where
  pub whole_none : eqb (length s) 0 ≡ true → NotYet ≡ line_length s
  unfolding line_length
  whole_none e = rw e

  module _ (some : eqb (length s) 0 ≡ false) {n : ℕ} (e : n ≡ left_by (map byte_of s)) where
    pub whole_refused : n ≡ 0 → NoLine ≡ line_length s
    unfolding line_length
    whole_refused z = rw (some, ← e, z)

    module _ (left : n ≡ 0 → ⊥) {u : Bool} (f : u ≡ unsound_in n s) where
      pub whole-unsound : u ≡ true → NoLine ≡ line_length s
      unfolding line_length
      whole-unsound t = rw (some, ← e, ne_eqb _ _ left, ← f, t)

      module _ (h : u ≡ false) {start : ℕ} (g : start ≡ at (map byte_of s) 0) {lacks : Bool} (k : (eqb start 0x68 && ltb (length s) 2) ≡ lacks) where
        lacking : lacks_count (map byte_of s) ≡ lacks
        lacking = rw (length-map s byte_of, ← g) k

        pub whole-lacking : cond lacks NotYet (Known n) ≡ line_length s
        unfolding line_length
        whole-lacking = rw (some, ← e, ne_eqb _ _ left, ← f, h, lacking)
