-- Laws of `specs/Writing`.
use Prim.Native.Nat.{ℕ, ◌+◌, ◌≤◌}
use mathlib.Core.List.{List, ◌++◌}
use mathlib.Core.Path.{◌≡◌, ap, ◌∙◌}
use lib.ListN.{length, take}
use Rattle.base_lent.specs.Copying.{copied}
use Rattle.base_lent.proofs.Laws.Copying.{copied_fits, laid_front}

-- Law: what stood in front, and the bytes behind it.
pub take_copied : (d : List ℕ) (at : ℕ) (s : List ℕ) → at + length s ≤ length d → take (at + length s) (copied d at s) ≡ take at d ++ s
take_copied d at s h = ap (take (at + length s)) (copied_fits d at s h) ∙ laid_front d s at h
