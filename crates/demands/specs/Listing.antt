-- 01, "The run bundle", its last paragraph: the listing of the 16 bytes, to the byte, and that of a bundle that is refused.
use Rattle.std.specs.Prelude.{ℕ, List, ◌++◌, ◌≡◌}
use Rattle.base_rules.specs.Answers.{refusal}
use Rattle.bundle_check.specs.Bundles.{check_of}
use Rattle.bundle_check.specs.Example.{sixteen}
use Rattle.text_filling.specs.Texts.{text}
use Rattle.run_listing.specs.Listings.{refused_text, listing_of}

-- The 16 bytes of 01's example give, whole:
abbrev pub ListingOfSixteen : Type 0
ListingOfSixteen = listing_of sixteen ≡ text "position,direction,time,line\n7,heard,0,ack\n"

-- Where the bundle is refused, "refused" with its number is all.
abbrev pub ListingRefused : Type 0
ListingRefused = (b : List ℕ) (n : ℕ) → check_of b ≡ refusal n → listing_of b ≡ refused_text n ++ text "\n"
