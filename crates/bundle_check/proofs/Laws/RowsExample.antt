-- 01, "The run bundle": the row of its example.
use mathlib.Core.List.{[], ◌∷◌}
use mathlib.Core.Path.{◌≡◌, refl}
use Rattle.base_rules.specs.Lists.{any}
use Rattle.base_rules.specs.Answers.{reads, refusal}
use Rattle.base_characters.specs.Characters.{chars}
use Rattle.base_numbers.specs.Numbers.{number}
use Rattle.bundle_check.specs.Walks.{some_wrong, end_of}
use Rattle.bundle_rows.specs.Rows.{rows_of}
use Rattle.bundle_check.specs.Bundles.{check_of}
use Rattle.bundle_check.specs.Example.{sixteen}
use Rattle.bundle_check.specs.Handing.{row_at, body_at}
use Rattle.bundle_check.specs.Stretches.{bytes_at}

-- position 7, heard, time 0, and at offset 14 the two bytes of the character 1E5
its_fields : row_at sixteen 0 ≡ reads (record { position = 7; direction = 1; time = 0; offset = 14; length = 2 })
unfolding row_at check_of number rows_of some_wrong end_of chars any
its_fields = refl

its_character : chars (bytes_at (body_at sixteen 0) sixteen) ≡ 0x1E5 ∷ []
unfolding row_at check_of number rows_of some_wrong end_of chars any
its_character = refl

-- and no second one
no_more : row_at sixteen 1 ≡ refusal 39
unfolding row_at check_of number rows_of some_wrong end_of chars any
no_more = refl
