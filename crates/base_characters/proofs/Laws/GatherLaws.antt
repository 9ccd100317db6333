-- What one walk gathers of a line that has places enough.
use Rattle.std.proofs.Common.{◌≡◌, ℕ, ◌%◌, ◌≤◌, List, map, length, take, ap, ◌∙◌, take_all}
use lib.ListN.{length-map}
use Rattle.base_rules.specs.Lists.{total}
use Rattle.base_characters.specs.Characters.{byte_of}
use Rattle.base_rules.specs.Shown.{shown}
use Rattle.base_lent.specs.Copying.{copied}
use Rattle.base_characters.specs.declared.Gathering.{Gathering}
use Rattle.base_characters.specs.Gathering.{sound, gathered}
use Rattle.base_characters.proofs.Laws.StoreLaws.{stored_first}

module _ (s places low : List ℕ) {g : Gathering} (room : length s ≤ length places) (e : g ≡ gathered (take (length places) s))
    (stored : low ≡ copied places 0 (map byte_of (take (length places) s))) where
  whole : take (length places) s ≡ s
  whole = take_all (length places) s room

  pub sound_is : g.outcome ≡ shown (sound s)
  sound_is = ap (λ (h : Gathering). h.outcome) e ∙ ap (λ (t : List ℕ). shown (sound t)) whole

  pub sum_is : g.sum ≡ total (map byte_of s) % 256
  sum_is = ap (λ (h : Gathering). h.sum) e ∙ ap (λ (t : List ℕ). total (map byte_of t) % 256) whole

  pub low_is : take (length s) low ≡ map byte_of s
  low_is =
      ap (take (length s)) (stored ∙ ap (λ (t : List ℕ). copied places 0 (map byte_of t)) whole)
      ∙ stored_first places (map byte_of s) (length-map s byte_of) (rw (length-map s byte_of) room)
