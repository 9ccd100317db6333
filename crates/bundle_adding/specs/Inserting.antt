-- Inserting: like adding, but the time of a row is no reason for 34, and the row goes behind the last row whose time is not above its own.
use Rattle.std.specs.Prelude.{ℕ, zero, suc, Bool, cond, List, ◌∷◌, ◌++◌, ltb, length, get_or, take, drop}
use Rattle.base_rules.specs.Answers.{Answer, reads, refuse, follow}
use Rattle.base_rules.specs.Lists.{any}
use Rattle.base_characters.specs.Characters.{over, chars}
use Rattle.base_lent.specs.Lent.{stored}
use Rattle.bundle_rows.specs.Fields.{wrong_field}
use Rattle.bundle_check.specs.Bundles.{check_of}
use Rattle.bundle_check.specs.Records.{Recorded, blank_record, records_of, bundle_of}
use Rattle.bundle_adding.specs.Adding.{grown, no_room}

-- the place behind the last of the first n whose time is not above t; the first place where there is none
unfoldable pub place_behind : ℕ → List Recorded → ℕ → ℕ
place_behind t ks zero = zero
place_behind t ks (suc n) = cond (ltb t (get_or ks n blank_record).time) (place_behind t ks n) (suc n)

abbrev pub place_for : Recorded → List Recorded → ℕ
place_for k ks = place_behind k.time ks (length ks)

-- the old ones with the new one in a place
abbrev pub put_at : {A : Type 0} → ℕ → A → List A → List A
put_at place k ks = take place ks ++ (k ∷ drop place ks)

-- What is answered where a row more is tried, by whether it is wrong: as in adding, more than the buffer has is 30, then the old bundle
-- is tried, then the new row (34 where it is wrong, 37, 38).
unfoldable pub try_of : Bool → List ℕ → ℕ → Recorded → Answer ℕ
try_of wrong buffer filled k =
    refuse 30 (ltb (length buffer) filled)
    (follow (check_of (take filled buffer)) (λ n.
    refuse 34 wrong
    (refuse 37 (any over (chars k.body))
    (refuse 38 (no_room buffer n (grown filled k))
    (reads (grown filled k))))))

-- The bytes that the new bundle fills, or the refusal: the row is wrong by its fields alone.
abbrev pub insert_of : List ℕ → ℕ → Recorded → Answer ℕ
insert_of buffer filled k = try_of (wrong_field k.position k.direction (length k.body)) buffer filled k

-- What the buffer then holds: the bundle of what the old one held with the new one in its place, and the bytes past the new end as
-- they were; after a refusal, what it held.
abbrev pub buffer_inserted : Answer ℕ → List ℕ → ℕ → Recorded → List ℕ
buffer_inserted answer buffer filled k =
    stored (λ (n : ℕ). let ks = records_of (take filled buffer) in bundle_of (put_at (place_for k ks) k ks)) buffer answer
