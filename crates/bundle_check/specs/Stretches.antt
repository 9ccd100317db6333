-- 01, "The run bundle": handing out a body hands out that stretch of the caller's bundle; where it is refused, an empty one.
use Rattle.std.specs.Prelude.{ℕ, ◌+◌, List, [], ◌≡◌, take, drop}
use Rattle.std.specs.Borrow.{Bor}
use Rattle.base_rules.specs.Answers.{Answer, reads, refusal}
use Rattle.bundle_check.specs.declared.rows.BodyPlace.{BodyPlace}

-- the bytes that are handed out, and where in the bundle they lie
abbrev pub bytes_at : Answer BodyPlace → List ℕ → List ℕ
bytes_at (reads p) b = take p.size (drop p.offset b)
bytes_at (refusal n) b = []

abbrev pub offset_at : Answer BodyPlace → ℕ
offset_at (reads p) = p.offset
offset_at (refusal n) = 0

-- The part has these bytes, and lies in the caller's own memory, at that offset of the whole.
pub record Handed (a : Answer BodyPlace) (whole part : Bor (List ℕ)) : Type 0 where
  pub bytes : part.now ≡ bytes_at a whole.now
  pub block : part.ref_ptr.0 ≡ whole.ref_ptr.0
  pub place : part.ref_ptr.1 ≡ whole.ref_ptr.1 + offset_at a
