-- Laws of `specs/Shown`.
use Prim.Native.Nat.{ℕ}
use mathlib.Core.List.{List}
use mathlib.Core.Bool.{true, false}
use mathlib.Core.Path.{◌≡◌, ◌∙◌}
use native.Mathlib.Nat.{zero-add}
use lib.Dec.{ltb}
use lib.ListN.{length}
use Rattle.std.specs.Prelude.{Ok, Err}
use Rattle.base_rules.specs.Shown.{refused_by}
use Rattle.base_lent.specs.Copying.{copied}
use Rattle.run_listing.specs.Listings.{listing_of}
use Rattle.run_listing.specs.Shown.{Lists}

-- what is stored, where it fits and where it does not
module _ (b out : List ℕ) {size : ℕ} {t after : List ℕ} (n : size ≡ length (listing_of b)) (e : t ≡ listing_of b)
    (h : after ≡ copied out 0 t) where
  pub lists_not : ltb (length out) (length t) ≡ true → Lists b out (Err (refused_by 21)) after
  lists_not s = let no : ltb (length out) (length (listing_of b)) ≡ true = rw e at s in record { answer = rw no; holds = h ∙ rw (e, zero-add, no) }

  pub lists_all : ltb (length out) (length t) ≡ false → Lists b out (Ok size) after
  lists_all s =
      let fits : ltb (length out) (length (listing_of b)) ≡ false = rw e at s in
      record { answer = rw (fits, n); holds = h ∙ rw (e, zero-add, fits) }
