-- 02, 2026-11, for C: what salvaging answers there, and what it leaves.
use Rattle.std.specs.Prelude.{ℕ, List, [], ◌∷◌, ◌≡◌}
use Rattle.base_rules.specs.Answers.{Answer}
use Rattle.base_lent.specs.Lent.{stored, done, needs, Leaves}
use Rattle.base_numbers.specs.Records.{words_of}
use Rattle.bundle_salvage.specs.declared.Salvaged.{Salvaged}
use Rattle.bundle_salvage.specs.Salvaging.{salvage_into, new_bundle}

-- The fields of struct skarrowith_salvaged: four numbers of eight bytes.
abbrev pub salvaged_bytes : Salvaged → List ℕ
salvaged_bytes s = words_of (s.kept ∷ s.dropped ∷ s.rule ∷ s.filled ∷ [])

-- 21 where there is no room for them, before all others
abbrev pub salvage_for : List ℕ → List ℕ → List ℕ → Answer Salvaged
salvage_for b out told = needs 32 told (salvage_into b out)

-- What is told in its places, and the new bundle in the second buffer; on a refusal all as it was.
pub record SalvagesIn (b out told : List ℕ) (r : ℕ) (out' told' : List ℕ) : Type 0 where
  pub tells : Leaves done salvaged_bytes (salvage_for b out told) told told' r
  pub holds : out' ≡ stored (new_bundle b) out (salvage_for b out told)
