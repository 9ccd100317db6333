-- The rows of two bundles as one bundle, in a third buffer.
use Rattle.std.specs.Prelude.{ℕ, ◌+◌, Bool, cond, ◌||◌, List, [], ◌∷◌, ltb, length}
use Rattle.base_rules.specs.Answers.{Answer, reads, refuse, follow}
use Rattle.bundle_rows.specs.Rows.{most_rows}
use Rattle.bundle_check.specs.Bundles.{most_bytes, check_of}
use Rattle.bundle_check.specs.Records.{Recorded, records_of, bundle_of}

-- a record in its turn: behind those that are earlier, and behind it the others
unfoldable pub in_turn : Recorded → (List Recorded → List Recorded) → List Recorded → List Recorded
in_turn k others [] = k ∷ others []
in_turn k others (l ∷ ls) = cond (ltb l.time k.time) (l ∷ in_turn k others ls) (k ∷ others (l ∷ ls))

-- the rows of two lists by time, of equal times those of the first list first
unfoldable pub by_time : List Recorded → List Recorded → List Recorded
by_time [] ls = ls
by_time (k ∷ ks) ls = in_turn k (by_time ks) ls

-- as one bundle
abbrev pub joined_bundle : List ℕ → List ℕ → List ℕ
joined_bundle a b = bundle_of (by_time (records_of a) (records_of b))

-- 38: over 512 rows, over 65,536 bytes, or over the room
abbrev pub too_much : ℕ → ℕ → List ℕ → Bool
too_much rows size out = ltb most_rows rows || ltb most_bytes size || ltb (length out) size

-- The bytes that it fills, or the refusal: 30 to 37 of a, then of b, then 38.
unfoldable pub join_of : List ℕ → List ℕ → List ℕ → Answer ℕ
join_of a b out =
    follow (check_of a) (λ m.
    follow (check_of b) (λ n.
    refuse 38 (too_much (m + n) (length (joined_bundle a b)) out)
    (reads (length (joined_bundle a b)))))
