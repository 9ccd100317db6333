-- 02, 2026-12: a sweep over the caller's buffer, its filled length told as for adding.
use Rattle.std.specs.Prelude.{ℕ, Bool, cond, not, ◌&&◌, ◌||◌, List, [], ◌∷◌, ltb, eqb, length, take}
use Rattle.base_rules.specs.Answers.{Answer, reads, refuse, follow}
use Rattle.base_characters.specs.Characters.{chars}
use Rattle.base_lent.specs.Lent.{stored}
use Rattle.bench_clock.specs.Wakes.{is_wake}
use Rattle.bundle_check.specs.Bundles.{check_of}
use Rattle.bundle_check.specs.Records.{Recorded, records_of, bundle_of}

-- it removes wake rows, in either direction, and the rows of one named position (0 names none)
unfoldable pub goes : ℕ → ℕ → List ℕ → Bool
goes position own body = is_wake (chars body) || (not (eqb position 0) && eqb own position)

abbrev pub removed : ℕ → Recorded → Bool
removed position k = goes position k.position k.body

-- the elements that fail a test, in order
unfoldable pub without : {A : Type 0} → (A → Bool) → List A → List A
without test [] = []
without test (x ∷ l) = cond (test x) (without test l) (x ∷ without test l)

-- it keeps the others in order with their bodies and times,
abbrev pub swept : ℕ → List Recorded → List Recorded
swept position ks = without (removed position) ks

-- and corrects the offsets
abbrev pub swept_bundle : ℕ → List ℕ → List ℕ
swept_bundle position b = bundle_of (swept position (records_of b))

-- The bytes that the bundle then fills, or the refusal: 30 to 37, more than the buffer has being 30, then 34 for a position over 48.
unfoldable pub sweep_of : List ℕ → ℕ → ℕ → Answer ℕ
sweep_of buffer filled position =
    refuse 30 (ltb (length buffer) filled)
    (follow (check_of (take filled buffer)) (λ n.
    refuse 34 (ltb 48 position)
    (reads (length (swept_bundle position (take filled buffer))))))

-- What the buffer then holds: the bundle of what is left, and the bytes past the new end as they were; after a refusal, what it held.
abbrev pub buffer_swept : Answer ℕ → List ℕ → ℕ → ℕ → List ℕ
buffer_swept answer buffer filled position = stored (λ (n : ℕ). swept_bundle position (take filled buffer)) buffer answer
