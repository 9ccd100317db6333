-- A row at its place in time: what inserting leaves, when it succeeds, the order of its refusals, and that the order of insertions is nothing to it.
use Rattle.std.specs.Prelude.{ℕ, ◌+◌, ◌%◌, ◌^◌, ◌≤◌, ◌<◌, false, ◌||◌, List, [], ◌∷◌, ◌++◌, ◌≡◌, ltb, leb, eqb, length, get_or, take, drop, replicate}
use Rattle.base_rules.specs.Answers.{Answer, reads, refusal, refuse, follow}
use Rattle.base_rules.specs.Bytes.{Bytes}
use Rattle.base_rules.specs.Lists.{any}
use Rattle.base_characters.specs.Characters.{over, chars}
use Rattle.bundle_rows.specs.Lists.{All}
use Rattle.bundle_check.specs.Bundles.{count_of, check_of}
use Rattle.bundle_check.specs.Example.{sixteen}
use Rattle.bundle_check.specs.Handing.{body_at}
use Rattle.bundle_check.specs.Records.{blank_record, Recorded, records_of}
use Rattle.bundle_check.specs.Stretches.{bytes_at}
use Rattle.std.specs.Prelude.{Result}
use Rattle.base_rules.specs.declared.refusals.Refusal.{Refusal}
use Rattle.bundle_adding.specs.Adding.{new_record, add_of, buffer_after}
use Rattle.bundle_adding.specs.Inserting.{insert_of, buffer_inserted}
use Rattle.bundle_adding.specs.Shown.{Inserts}
use Rattle.host_bundle.specs.Bundled.{InsertsIn}
use Rattle.demands.specs.Refusals.{By, bundle_numbers}
use Rattle.demands.specs.Settled.{Settled}
use Rattle.demands.specs.Unchanged.{Untouched}

-- The old ones with one more among them: none in front of it is later, and each behind it is.
pub record PutIn (k : Recorded) (before after : List Recorded) : Type 0 where
  pub front : List Recorded
  pub behind : List Recorded
  pub old : before ≡ front ++ behind
  pub new : after ≡ front ++ (k ∷ behind)
  pub not_later : All (λ (q : Recorded). q.time ≤ k.time) front
  pub later : All (λ (q : Recorded). k.time < q.time) behind

-- Where inserting answers that n bytes are filled (the buffer holds bytes, and the time fits its four):
module _ (buffer : List ℕ) (filled : ℕ) (k : Recorded) (n : ℕ) (inserted : insert_of buffer filled k ≡ reads n) (bytes : Bytes buffer)
    (time : k.time < 256 ^ 4) where
  abbrev pub old : List ℕ
  old = take filled buffer

  abbrev pub after : List ℕ
  after = buffer_inserted (reads n) buffer filled k

  abbrev pub new : List ℕ
  new = take n after

  -- what they then hold is accepted, with a row more,
  abbrev pub InsertedAccepted : Type 0
  InsertedAccepted = check_of new ≡ reads (count_of old + 1)

  -- and holds what the old bundle held, with the new row behind the last whose time is not above its own;
  abbrev pub InsertedHolds : Type 0
  InsertedHolds = PutIn k (records_of old) (records_of new)

  -- each body is handed out as it was recorded.
  abbrev pub InsertedBodies : Type 0
  InsertedBodies = (i : ℕ) → i < count_of old + 1 → bytes_at (body_at new i) new ≡ (get_or (records_of new) i blank_record).body

  -- The bundle grows by a row of 12 bytes and the body, and the bytes past its new end stay.
  abbrev pub InsertedPast : Type 0
  InsertedPast = (n ≡ filled + 12 + length k.body) × (length after ≡ length buffer) × (drop n after ≡ drop n buffer)

-- Where no row is later, it is what adding does: the answer, and what the buffer then holds.
abbrev pub InsertedAsAdded : Type 0
InsertedAsAdded =
    (buffer : List ℕ) (filled : ℕ) (k : Recorded) → All (λ (q : Recorded). q.time ≤ k.time) (records_of (take filled buffer))
    → (insert_of buffer filled k ≡ add_of buffer filled k)
    × (buffer_inserted (insert_of buffer filled k) buffer filled k ≡ buffer_after (add_of buffer filled k) buffer filled k)

-- ---- rows of distinct times, inserted in any order

-- one after the other, each into what the one before left; the buffer and the bytes that are filled in the end
abbrev pub insert_all : List Recorded → List ℕ → ℕ → Answer (List ℕ × ℕ)
insert_all [] buffer filled = reads (buffer, filled)
insert_all (k ∷ ks) buffer filled = follow (insert_of buffer filled k) (λ n. insert_all ks (buffer_inserted (reads n) buffer filled k) n)

-- no two have one time
abbrev pub Distinct : List Recorded → Type 0
Distinct [] = Unit {0}
Distinct (k ∷ ks) = All (λ (q : Recorded). q.time ≡ k.time → ⊥) ks × Distinct ks

-- the same ones in another order
pub data Reordered : List Recorded → List Recorded → Type 0 where
  same : {ks : List Recorded} → Reordered ks ks
  behind : {k : Recorded} {ks js : List Recorded} → Reordered ks js → Reordered (k ∷ ks) (k ∷ js)
  swapped : {j k : Recorded} {ks : List Recorded} → Reordered (j ∷ (k ∷ ks)) (k ∷ (j ∷ ks))
  then : {ks js is : List Recorded} → Reordered ks js → Reordered js is → Reordered ks is

-- They leave one and the same buffer and bundle.
abbrev pub AnyOrder : Type 0
AnyOrder =
    (buffer : List ℕ) (filled : ℕ) (ks js : List Recorded) (left : List ℕ × ℕ) → Bytes buffer → All (λ (k : Recorded). k.time < 256 ^ 4) ks
    → Distinct ks → Reordered ks js → insert_all ks buffer filled ≡ reads left → insert_all js buffer filled ≡ reads left

-- ---- its answers

-- It succeeds for every accepted bundle of fewer than 512 rows, every row whose fields are in their ranges, at any time, and room for it.
abbrev pub InsertSucceeds : Type 0
InsertSucceeds =
    (buffer : List ℕ) (filled rows : ℕ) (k : Recorded) → filled ≤ length buffer → check_of (take filled buffer) ≡ reads rows → rows < 512
    → filled + 12 + length k.body ≤ length buffer → filled + 12 + length k.body ≤ 65536
    → 1 ≤ k.position → k.position ≤ 48 → k.direction ≤ 1 → length k.body % 2 ≡ 0 → 2 ≤ length k.body → length k.body ≤ 1004
    → any over (chars k.body) ≡ false → insert_of buffer filled k ≡ reads (filled + 12 + length k.body)

-- The order of its refusals: 30, those of the old bundle, 34 by the fields alone, 37, 38.
abbrev pub InsertOrder : Type 0
InsertOrder =
    (buffer : List ℕ) (filled position direction time : ℕ) (body : List ℕ) → insert_of buffer filled (new_record position direction time body)
    ≡ refuse 30 (ltb (length buffer) filled)
    (follow (check_of (take filled buffer)) (λ rows.
    refuse 34
    (ltb position 1 || ltb 48 position || ltb 1 direction || eqb (length body % 2) 1 || ltb (length body) 2 || ltb 1004 (length body))
    (refuse 37 (any over (chars body))
    (refuse 38 (leb 512 rows || ltb (length buffer) (filled + 12 + length body) || ltb 65536 (filled + 12 + length body))
    (reads (filled + 12 + length body))))))

-- Its numbers are those of adding.
abbrev pub InsertingBy : Type 0
InsertingBy = (buffer : List ℕ) (filled : ℕ) (k : Recorded) → By (38 ∷ bundle_numbers) (insert_of buffer filled k)

-- Its promises leave nothing open, in Rattle and for C.
abbrev pub InsertingSettled : Type 0
InsertingSettled = (before : List ℕ) (filled : ℕ) (k : Recorded) → Settled (λ (x : Result ℕ Refusal × List ℕ). Inserts before filled k x.0 x.1)

abbrev pub InsertSettled : Type 0
InsertSettled =
    (buffer : List ℕ) (filled : ℕ) (k : Recorded)
    → Settled (λ (x : (ℕ × ℕ) × List ℕ). InsertsIn buffer filled k x.0.0 x.1 x.0.1)

-- A refusal leaves the buffer as it was;
abbrev pub InsertingUnchanged : Type 0
InsertingUnchanged =
    (buffer after : List ℕ) (filled n : ℕ) (k : Recorded) (r : Result ℕ Refusal) → insert_of buffer filled k ≡ refusal n → Inserts buffer filled k r after
    → after ≡ buffer

-- and for C it is told by its number alone, and leaves the number of bytes as it was too.
abbrev pub InsertUnchanged : Type 0
InsertUnchanged =
    (buffer after : List ℕ) (filled now r n : ℕ) (k : Recorded) → insert_of buffer filled k ≡ refusal n → InsertsIn buffer filled k r after now
    → Untouched n r filled now × (after ≡ buffer)

-- ---- values

-- 01's example has one row, at 0. A row at 5 goes behind it, one at 3 between them, and another at 3 behind that one; two bytes are left.
abbrev pub three : List Recorded
three = new_record 9 0 5 (0x10 ∷ 0x01 ∷ 0x40 ∷ 0x01 ∷ []) ∷ new_record 12 1 3 (0xA2 ∷ 0x01 ∷ []) ∷ new_record 1 0 3 (0x16 ∷ 0x01 ∷ []) ∷ []

abbrev pub ExampleInserted : Type 0
ExampleInserted =
    insert_all three (sixteen ++ replicate 46 0xFF) 16
    ≡ reads (
      0x04 ∷ 0x00
          ∷ 0x07 ∷ 0x01 ∷ 0x00 ∷ 0x00 ∷ 0x00 ∷ 0x00 ∷ 0x32 ∷ 0x00 ∷ 0x00 ∷ 0x00 ∷ 0x02 ∷ 0x00
          ∷ 0x0C ∷ 0x01 ∷ 0x03 ∷ 0x00 ∷ 0x00 ∷ 0x00 ∷ 0x34 ∷ 0x00 ∷ 0x00 ∷ 0x00 ∷ 0x02 ∷ 0x00
          ∷ 0x01 ∷ 0x00 ∷ 0x03 ∷ 0x00 ∷ 0x00 ∷ 0x00 ∷ 0x36 ∷ 0x00 ∷ 0x00 ∷ 0x00 ∷ 0x02 ∷ 0x00
          ∷ 0x09 ∷ 0x00 ∷ 0x05 ∷ 0x00 ∷ 0x00 ∷ 0x00 ∷ 0x38 ∷ 0x00 ∷ 0x00 ∷ 0x00 ∷ 0x04 ∷ 0x00
          ∷ 0xE5 ∷ 0x01 ∷ 0xA2 ∷ 0x01 ∷ 0x16 ∷ 0x01 ∷ 0x10 ∷ 0x01 ∷ 0x40 ∷ 0x01 ∷ 0xFF ∷ 0xFF ∷ [],
      60,
    )
