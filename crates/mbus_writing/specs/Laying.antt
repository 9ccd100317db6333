-- Bytes laid one part after the other.
use Rattle.std.specs.Prelude.{ℕ, ◌+◌, ◌-◌, ◌%◌, ◌≤◌, Bool, true, false, cond, ◌&&◌, List, [], ◌∷◌, ◌++◌, ◌≡◌, leb, ℤ, nat_abs, length, take, drop, set}
use Rattle.base_lent.specs.Copying.{laid}
use Rattle.mbus_rules.specs.declared.Value.{Value}
use Rattle.mbus_rules.specs.declared.Value.TheVariants.{Number, Time, Binary}
use Rattle.mbus_rules.specs.declared.Entry.{Entry}
use Rattle.mbus_rules.specs.declared.Telegram.{Telegram}
use Rattle.base_rules.specs.Lists.{at, any, total}
use Rattle.base_digits.specs.Digits.{packed}
use Rattle.base_numbers.specs.TwosComplement.{below_zero, binary_bytes}
use Rattle.mbus_rules.specs.Signs.{fits_signed}
use Rattle.mbus_rules.specs.Moments.{date_exists, time_exists, weekday_exists}
use Rattle.mbus_rules.specs.Writing.{moment_bytes, bytes_of_entry, bytes_of_entries, longest, wrong_entry, wrong_data}

-- six bytes with F in the highest place of so many
abbrev pub marked_at : ℕ → List ℕ → List ℕ
marked_at width b = set b (width - 1) (0xF0 + at b (width - 1) % 16)

-- a signed number in six bytes, of which so many count
abbrev pub signed_six : ℕ → ℤ → List ℕ
signed_six width z = cond (below_zero z) (marked_at width (packed 6 (nat_abs z))) (packed 6 (nat_abs z))

-- a value in eight bytes, of which so many count, and what it takes to write it so
abbrev pub eight_bytes : ℕ → Value → List ℕ
eight_bytes width (Number d) = signed_six width d.count ++ (0 ∷ 0 ∷ [])
eight_bytes width (Time m) = moment_bytes m ++ (0 ∷ 0 ∷ [])
eight_bytes width (Binary w) = binary_bytes 8 w.count

abbrev pub exists : ℕ → Value → Bool
exists width (Number d) = leb width 6 && fits_signed width d.count
exists width (Time m) = date_exists m && time_exists m && weekday_exists m
exists width (Binary w) = true

-- what laying one entry asks, and what it gives
pub record EntryFits (e : Entry) (before : List ℕ) (at : ℕ) : Type 0 where
  pub right : wrong_entry e ≡ false
  pub room : at + length (bytes_of_entry e) + 2 ≤ longest
  pub size : length before ≡ longest

pub record EntryLaid (e : Entry) (before after : List ℕ) (at next : ℕ) : Type 0 where
  pub bytes : after ≡ laid before at (bytes_of_entry e)
  pub so : next ≡ at + length (bytes_of_entry e)

-- the same for all entries
pub record EntriesFit (entries : List Entry) (count : ℕ) (before : List ℕ) : Type 0 where
  pub few : count ≤ 7
  pub right : any wrong_entry (take count entries) ≡ false
  pub most : 19 + length (bytes_of_entries (take count entries)) + 2 ≤ longest
  pub room : length before ≡ longest

pub record EntriesLaid (es : List Entry) (before after : List ℕ) (end : ℕ) : Type 0 where
  pub bytes : after ≡ laid before 19 (bytes_of_entries es)
  pub so : end ≡ 19 + length (bytes_of_entries es)

-- ---- frames

-- a frame that was closed: up to the end, then the sum from a place on, and 16
pub record FrameClosed (before after : List ℕ) (from end next : ℕ) : Type 0 where
  pub bytes : take next after ≡ take end before ++ (total (drop from (take end before)) % 256 ∷ 0x16 ∷ [])
  pub so : next ≡ end + 2

-- bytes in the first places
pub record BytesLaid (s after : List ℕ) (count : ℕ) : Type 0 where
  pub bytes : take count after ≡ s
  pub so : count ≡ length s

-- what a data telegram's bytes ask
pub record DataFits (t : Telegram) (before : List ℕ) : Type 0 where
  pub right : wrong_data t ≡ false
  pub room : length before ≡ longest
