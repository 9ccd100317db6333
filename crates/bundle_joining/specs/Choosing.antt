-- The rows of one position as a bundle of their own, in a second buffer.
use Rattle.std.specs.Prelude.{ℕ, Bool, not, List, ltb, eqb, length}
use Rattle.base_rules.specs.Answers.{Answer, reads, refuse, follow}
use Rattle.bundle_rows.specs.Fields.{wrong_position}
use Rattle.bundle_check.specs.Bundles.{check_of}
use Rattle.bundle_check.specs.Records.{Recorded, records_of, bundle_of}
use Rattle.bundle_sweep.specs.Sweeping.{without}

-- what was sent or heard at another position
abbrev pub elsewhere : ℕ → Recorded → Bool
elsewhere position k = not (eqb k.position position)

-- the rows of one position, in order with their bodies and times
abbrev pub of_position : ℕ → List Recorded → List Recorded
of_position position ks = without (elsewhere position) ks

-- as a bundle of their own
abbrev pub position_bundle : ℕ → List ℕ → List ℕ
position_bundle position b = bundle_of (of_position position (records_of b))

-- The bytes that it fills, or the refusal: 30 to 37, then 34 for a position outside 1–48, then 38 if the second buffer is too short.
unfoldable pub choosing_of : List ℕ → ℕ → List ℕ → Answer ℕ
choosing_of b position out =
    follow (check_of b) (λ n.
    refuse 34 (wrong_position position)
    (refuse 38 (ltb (length out) (length (position_bundle position b)))
    (reads (length (position_bundle position b)))))
