-- A bundle split into those of its positions, and these joined again.
use Rattle.std.specs.Prelude.{ℕ, zero, suc, List, [], ◌∷◌, ◌≡◌}
use Rattle.bundle_rows.specs.Lists.{All}
use Rattle.bundle_check.specs.Records.{Recorded, bundle_of}
use Rattle.bundle_joining.specs.Choosing.{of_position, position_bundle}
use Rattle.bundle_joining.specs.Joining.{by_time, joined_bundle}

-- the rows of positions 1 to n, each position's joined to those before it
unfoldable pub parts_joined : ℕ → List Recorded → List Recorded
parts_joined zero ks = []
parts_joined (suc n) ks = by_time (parts_joined n ks) (of_position (suc n) ks)

-- the bundles of positions 1 to n, each joined to those before it
unfoldable pub bundles_joined : ℕ → List ℕ → List ℕ
bundles_joined zero b = bundle_of []
bundles_joined (suc n) b = joined_bundle (bundles_joined n b) (position_bundle (suc n) b)

-- no two rows of different positions have one time
abbrev pub TimesApart : List Recorded → Type 0
TimesApart [] = Unit {0}
TimesApart (k ∷ ks) = All (λ (l : Recorded). k.time ≡ l.time → k.position ≡ l.position) ks × TimesApart ks
