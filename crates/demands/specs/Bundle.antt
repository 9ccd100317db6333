-- The run bundle: what adding leaves is accepted and holds the old rows and the new one.
use Rattle.std.specs.Prelude.{ℕ, ◌+◌, ◌^◌, ◌<◌, List, [], ◌∷◌, ◌++◌, map, ◌≡◌, take}
use Rattle.base_rules.specs.Answers.{reads}
use Rattle.bundle_rows.specs.declared.Row.{Row}
use Rattle.bundle_check.specs.Bundles.{count_of, contents_of, check_of}
use Rattle.bundle_check.specs.Records.{Recorded, records_of, row_for, bundle_of, moved_to}
use Rattle.bundle_check.specs.Handing.{body_at}
use Rattle.bundle_check.specs.Stretches.{bytes_at}
use Rattle.bundle_adding.specs.Adding.{add_of, buffer_after}
use Rattle.base_rules.specs.Bytes.{Bytes}

-- A bundle that is accepted is made of what it holds, and of nothing else.
abbrev pub WholeBundle : Type 0
WholeBundle = (b : List ℕ) (n : ℕ) → Bytes b → check_of b ≡ reads n → bundle_of (records_of b) ≡ b

-- Where adding answers that n bytes are filled (the buffer holds bytes, and the time fits its four):
module _ (buffer : List ℕ) (filled : ℕ) (k : Recorded) (n : ℕ) (added : add_of buffer filled k ≡ reads n) (bytes : Bytes buffer)
    (time : k.time < 256 ^ 4) where
  abbrev pub old : List ℕ
  old = take filled buffer

  abbrev pub new : List ℕ
  new = take n (buffer_after (reads n) buffer filled k)

  -- what they then hold is accepted, with a row more,
  abbrev pub AddedAccepted : Type 0
  AddedAccepted = check_of new ≡ reads (count_of old + 1)

  -- and holds what the old bundle held, and what was added, last.
  abbrev pub AddedHolds : Type 0
  AddedHolds = records_of new ≡ records_of old ++ (k ∷ [])

  -- Its rows are the old ones with their offsets 12 higher, and the new one;
  abbrev pub AddedRows : Type 0
  AddedRows = contents_of new ≡ map (λ (r : Row). moved_to (r.offset + 12) r) (contents_of old) ++ (row_for (filled + 12) k ∷ [])

  -- every old body reads as before, and the new one as it was given.
  abbrev pub AddedBodies : Type 0
  AddedBodies = (i : ℕ) → i < count_of old → bytes_at (body_at new i) new ≡ bytes_at (body_at old i) old

  abbrev pub AddedBody : Type 0
  AddedBody = bytes_at (body_at new (count_of old)) new ≡ k.body
