-- 01, "The run bundle", for C: what adding, inserting and listing answer there, and what they leave.
use Rattle.std.specs.Prelude.{ℕ, List, ◌≡◌}
use Rattle.bundle_check.specs.Records.{Recorded}
use Rattle.bundle_adding.specs.Adding.{add_of}
use Rattle.bundle_adding.specs.Adding as adding
use Rattle.bundle_adding.specs.Inserting.{insert_of, buffer_inserted}
use Rattle.run_listing.specs.Listings.{listing_of}
use Rattle.run_listing.specs.Shown as listing
use Rattle.host_bundle.specs.Lent.{Gives}

-- Adding: how many bytes the bundle then fills, and what the buffer then holds.
pub record AddsIn (buffer : List ℕ) (filled : ℕ) (k : Recorded) (r : ℕ) (buffer' : List ℕ) (filled' : ℕ) : Type 0 where
  pub gives : Gives (add_of buffer filled k) filled r filled'
  pub holds : buffer' ≡ adding.buffer_after (add_of buffer filled k) buffer filled k

-- Inserting: the same.
pub record InsertsIn (buffer : List ℕ) (filled : ℕ) (k : Recorded) (r : ℕ) (buffer' : List ℕ) (filled' : ℕ) : Type 0 where
  pub gives : Gives (insert_of buffer filled k) filled r filled'
  pub holds : buffer' ≡ buffer_inserted (insert_of buffer filled k) buffer filled k

-- Listing: how many bytes the listing has, and what the places then hold.
pub record ListsIn (b out : List ℕ) (written r : ℕ) (out' : List ℕ) (written' : ℕ) : Type 0 where
  pub gives : Gives (listing.listed_in (listing_of b) out) written r written'
  pub holds : out' ≡ listing.text_stored (listing_of b) out
