-- What the library's copy within a list leaves: bytes moved to another place.
use Prim.Native.Nat.{ℕ, ◌+◌, ◌-◌, ◌≤◌}
use mathlib.Core.List.{List, ◌++◌, append_assoc}
use mathlib.Core.Path.{◌≡◌, sym, ap, ◌∙◌}
use native.Mathlib.Omega.{arith}
use lib.ListN.{length, take, drop, length-drop}
use lib.Seq.{length-take-le, drop-drop}
use Rattle.std.specs.List.{copy_within}
use Rattle.base_lent.specs.Copying.{laid}

pub moved_copy : (d : List ℕ) (from to size : ℕ) → from + size ≤ length d → copy_within d from (from + size) to ≡ laid d to (take size (drop from d))
moved_copy d from to size h =
    let many : from + size - from ≡ size = omega arith in
    let part : length (take size (drop from d)) ≡ size = length-take-le size (drop from d) (omega (arith, length-drop from d)) in
    let behind : drop (to + size) d ≡ drop (length (take size (drop from d))) (drop to d) =
    sym (ap (λ (k : ℕ). drop k (drop to d)) part ∙ drop-drop size to d) in
    append_assoc (take to d) (take (from + size - from) (drop from d)) (drop (to + (from + size - from)) d)
    ∙ ap (λ (k : ℕ). take to d ++ (take k (drop from d) ++ drop (to + k) d)) many
    ∙ ap (λ (l : List ℕ). take to d ++ (take size (drop from d) ++ l)) behind
