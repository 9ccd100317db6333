-- Bytes: at a place, taken, dropped, joined, and spelled out place by place.
use Prim.Native.Nat.{ℕ, zero, suc, ◌+◌, ◌<◌, ◌≤◌}
use mathlib.Core.List.{List, [], ◌∷◌, ◌++◌}
use mathlib.Core.Path.{◌≡◌, refl, sym, ap, ◌∙◌}
use native.Mathlib.Omega.{arith}
use lib.Dec.{lit<}
use lib.ListN.{length, take, drop}
use lib.Seq.{drop-cons, take_all}
use Rattle.base_rules.specs.Lists.{at}
use Rattle.base_rules.specs.Bytes.{Bytes}

pub byte_at : (s : List ℕ) → Bytes s → (i : ℕ) → at s i < 256
byte_at [] h i = lit< tt
byte_at (b ∷ s) h zero = h.0
byte_at (b ∷ s) h (suc i) = byte_at s h.1 i

pub bytes_each : (s : List ℕ) → ((i : ℕ) → at s i < 256) → Bytes s
bytes_each [] h = tt
bytes_each (b ∷ s) h = (h 0, bytes_each s (λ i. h (suc i)))

pub bytes_append : (s r : List ℕ) → Bytes s → Bytes r → Bytes (s ++ r)
bytes_append [] r h k = k
bytes_append (b ∷ s) r h k = (h.0, bytes_append s r h.1 k)

pub bytes_take : (n : ℕ) (s : List ℕ) → Bytes s → Bytes (take n s)
bytes_take zero s h = tt
bytes_take (suc n) [] h = tt
bytes_take (suc n) (b ∷ s) h = (h.0, bytes_take n s h.1)

pub bytes_drop : (n : ℕ) (s : List ℕ) → Bytes s → Bytes (drop n s)
bytes_drop zero s h = h
bytes_drop (suc n) [] h = tt
bytes_drop (suc n) (b ∷ s) h = bytes_drop n s h.1

-- the n places from i on
abbrev pub spelled : ℕ → ℕ → List ℕ → List ℕ
spelled zero i s = []
spelled (suc n) i s = at s i ∷ spelled n (suc i) s

-- A part of a list is what stands at its places, and so is a whole list.
pub spell : (n i : ℕ) (s : List ℕ) → i + n ≤ length s → take n (drop i s) ≡ spelled n i s
spell zero i s h = refl
spell (suc n) i s h = rw (drop-cons s i 0 (omega arith)) (ap (λ (l : List ℕ). at s i ∷ l) (spell n (suc i) s (omega arith)))

pub spell_whole : (n : ℕ) (s : List ℕ) → length s ≡ n → s ≡ spelled n 0 s
spell_whole n s e = sym (take_all n s (omega arith)) ∙ spell n 0 s (omega arith)

-- the same, told by the places, as lent memory tells it
abbrev pub EachByte : List ℕ → Type 0
EachByte s = (i : ℕ) → at s i < 256

pub each_drop : (n : ℕ) (s : List ℕ) → EachByte s → EachByte (drop n s)
each_drop n s h = byte_at (drop n s) (bytes_drop n s (bytes_each s h))

pub each_take : (n : ℕ) (s : List ℕ) → EachByte s → EachByte (take n s)
each_take n s h = byte_at (take n s) (bytes_take n s (bytes_each s h))
